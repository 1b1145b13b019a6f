-- What moves by the one law came to, and what calls that make none keep.
use Rattle.script_player.proofs.Common.{None, ◌≤◌, ◌++◌, ℕ, Bool, List, take, refl, ap, subst, inl, inr, arith, DeviceTold, Clock, Entry, Configuration, after, DeskState, Moment, Move, entries_of, Seen, MovesBy, LastsOn, Past, Seals, TakesKept, same_clock, same_told, HadPages, HasMovesTo, MayGoOnAsTold, worn_by, write_pages, costs_of, making_of, turns_beside, counted_by, since_too, taken_by, urgent_by, worked_by, BeginsMoves, moment_seen, moves_came, CameBy}
use Rattle.std.specs.Prelude.{false}

-- nothing more is told
pub none_last : (s : Seen) → LastsOn s s
none_last s = record { lasts = same_told s.device s.clock s.device s.clock refl (same_clock s.clock); fixed = refl; config = refl; ops = refl; told = λ tells. tells }

-- what a clock tells of moves a later one tells
on_clock : (c : Configuration) (h : List Entry) (first : Moment) (ms : List Move) (d : DeviceTold) (clock clock_new : Clock) → Past d.ops clock clock_new → HasMovesTo false c h first ms d clock → HasMovesTo false c h first ms d clock_new
on_clock c h first ms d clock clock_new past m =
    let ops = m.ops in
    let s = after c (take 1 h) in record {
      tell = m.tell;
      are = m.are;
      faults = m.faults;
      ops = m.ops;
      begins = m.begins;
      failed = counted_by clock.failed clock_new.failed d.ops (λ k few is. (past.failed k few).0 is) first ms (omega (arith, ops)) m.failed;
      serves = m.serves;
      posts = m.posts;
      rests = m.rests;
      work = record {
        left = m.work.left;
        few = m.work.few;
        efforts = m.work.efforts;
        are =
            worked_by (costs_of c) (HadPages clock) (HadPages clock_new) (worn_by d clock) (worn_by d clock_new) clock.failed d.ops (λ k n few (free, spare, fits). (free, past.spare k free few spare, fits)) worn_on c first s
            (record { left = m.work.left; trying = None; tries = 0 }) ms m.work.efforts (omega (arith, ops)) m.failed m.work.are;
      };
      kept = taken_by c clock.failed (clock.was TakesKept) (clock_new.was TakesKept) d.ops (λ k few is. past.was TakesKept k few is) first s ms (omega (arith, ops)) m.failed m.kept;
      urgent =
          urgent_by c (turns_beside false) (write_pages c) clock.failed (MayGoOnAsTold clock (making_of c).reserve) (MayGoOnAsTold clock_new (making_of c).reserve) (λ id one left. Unit {0}) (λ id one left. Unit {0}) d.ops earlier (λ id one left due. tt) first.ops first s ms
          (omega (arith, ops)) m.failed m.urgent;
      paid = λ slots. since_too c (worn_by d clock) (worn_by d clock_new) worn_on first.faults first s ms (m.paid slots);
    }
  where
    worn_on : (k n : ℕ) (urgent : Bool) → worn_by d clock k n urgent → worn_by d clock_new k n urgent
    worn_on k n urgent (few, is) = (few, past.worn k n urgent few is)

    earlier : (since k wanted : ℕ) → k ≤ d.ops → MayGoOnAsTold clock_new (making_of c).reserve since k wanted → MayGoOnAsTold clock (making_of c).reserve since k wanted
    earlier since k wanted few (inl (free, spare, fits)) = inl (free, past.spare k free few spare, fits)
    earlier since k wanted few (inr (seal, fits)) = inr (
      record { counted = seal.counted; last = seal.last; is_last = seal.is_last; later = seal.later; such = past.was Seals seal.last (let last = seal.is_last in omega (arith, last, few)) seal.such },
      fits,
    )

pub came_by : (p stood q : Seen) (ms : List Move) → MovesBy false ms p stood → LastsOn stood q → CameBy p q ms
came_by p stood q ms by last = record {
  stood = stood.device;
  lasts = record { ops = last.lasts.ops; past = (same_told stood.device q.clock stood.device q.clock refl (same_clock q.clock)).past; faults = last.lasts.faults; failed = last.lasts.failed };
  ops = last.ops;
  told = last.told;
  came = λ begins. on_clock p.desk.config (p.desk.entries ++ entries_of ms) (moment_seen p) ms stood.device stood.clock q.clock last.lasts.past (came begins);
}
  where
    came : BeginsMoves p → HasMovesTo false p.desk.config (p.desk.entries ++ entries_of ms) (moment_seen p) ms stood.device stood.clock
    came begins =
        subst (λ (l : List Move). HasMovesTo false p.desk.config (p.desk.entries ++ entries_of l) (moment_seen p) l stood.device stood.clock) by.are
        (subst (λ (h : List Entry). HasMovesTo false p.desk.config h (moment_seen p) by.moved.moves stood.device stood.clock) (ap (λ (d : DeskState). d.entries) by.moved.tell)
        (subst (λ (x : Configuration). HasMovesTo false x stood.desk.entries (moment_seen p) by.moved.moves stood.device stood.clock) (ap (λ (d : DeskState). d.config) by.moved.tell) (moves_came false p stood begins by.moved)))
