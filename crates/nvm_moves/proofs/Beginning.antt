-- The moves of a history, from its first start-up on.
use Rattle.nvm_moves.proofs.Common.{◌≡◌, ◌⊎◌, ◌≤◌, ◌++◌, ℕ, Bool, List, [], ◌∷◌, Option, Some, None, refl, sym, ap, ◌∙◌, subst, inl, inr, arith, IfSome, DeviceTold, Fixed, Stand, Open, faults_of, is_off, is_open, most_open, InOrder, Clock, TakesKept, Instance, Mark, Entry, Found, Configuration, State, Job, after, Costs, Work, DeskState, state_of, costs_in, work_in, left_on, true_false, closed_tries, pages_in, HadPages, MayGoOnAsTold, Moment, entries_of, moment_behind, ArePaidSince, Among, BeginWhatIsDue, EachMove, EachMoveSince, PostsPicked, StaysAtRest, TakeKept, turns_beside, Along, Cursor, HasMoved, IsAt, IsLawful, Begun, Seen, frame_of, moment_by, moment_seen, DueAt, IsServable, take, is_some, AreWorked, job_turns, write_pages, HasWork, costs_of, HasMovesTo, worn_by, BeginsAt, BeginsMoves, ◌+◌, ◌*◌, after_from, entry_list, Move, is_found, urgent_block, IsPostedSoon, PostsUrgentOf, HasBlocks, OfFirst, IsSimple, soon_by, BeginsMovesBy, BeginsMovesOfBoth, ◌||◌, PowersOff}
use Rattle.std.proofs.Common.{append-nil}
use Rattle.std.specs.Prelude.{if◌then◌else◌, true, false}
use Rattle.nvm_core.specs.memif.Told.{First, Second, Ended, is_part}
use Rattle.nvm_core.specs.block_config.Rules.{IsLegalConfig}
use Rattle.nvm_core.specs.nvm_found.Found.{ReadAtOnce}
use Rattle.nvm_core.specs.DueWrites.{AreFirst}
use Rattle.nvm_core.proofs.block_laws.InstanceNumbers.{few_at}
use Rattle.promise_run.specs.DeviceTurns.{HasMovesBy, HasMovesToOfBoth, IsPostedAsTold, IsPostedByFirst, Urgent}
use Rattle.promise_run.specs.JobTurns.{job_turns_of_both}
use Rattle.promise_run.specs.Operations.{costs_of_both, left_behind}
use Rattle.nvm_moves.proofs.Consequences.{are_made, are_paid, begin_what_is_due, stays_at_rest, take_kept}
use Rattle.nvm_moves.proofs.Moved.{counts_then, moment_then}
use Rattle.nvm_moves.proofs.Posted.{posts_picked}

-- what each move keeps is another's
each_by : (c : Configuration) (P Q : Urgent) → ((since : ℕ) (s : State) (m : Move) (ms : List Move) → P since s m ms → Q since s m ms) → (since : ℕ) (s : State) (ms : List Move) → EachMoveSince c P since s ms → EachMoveSince c Q since s ms
each_by c P Q from since s [] all = tt
each_by c P Q from since s (m ∷ ms) all =
    (from since s m ms all.0, each_by c P Q from (if is_found m.entry then m.behind.ops else since) (after_from c s (entry_list m.entry)) ms all.1)

module _ (costs : Configuration → Costs) (turns : Configuration → State → Job → ℕ) (of : Fixed → ℕ → Type 0) (within : Bool) (old new : Seen) (begins : BeginsMovesBy costs turns of old) (w : HasMoved within old new) where
  abbrev c : Configuration
  c = old.desk.config

  abbrev first : Moment
  first = moment_seen old

  abbrev state : State
  state = state_of old.desk

  -- the faults are counted from here on
  abbrev cursor : Cursor
  cursor = record { now = first; state = state; since = state ∷ []; found = 0; picked = faults_of old.device; left = None }

  at : IsAt old cursor
  at = record { now = refl; state = refl; here = inl refl; begun = subst (λ (o : Option Begun). IfSome o (λ b. Among b.state (state ∷ []))) (sym begins.between) tt; left = tt }

  along : Along (frame_of within old) (IsLawful c new.clock) cursor w.moves
  along = (w.lawful cursor at).0

  behind : moment_behind first w.moves ≡ moment_seen new
  behind = moment_then within old new w

  servable : IsServable old.device.ops old
  servable = record { uncut = begins.uncut; blocks = begins.blocks; sealed = λ on k since at few was. absurd (omega (arith, since, at)) }

  works : HasWork (costs c) (HadPages new.clock) (worn_by new.device new.clock) c first state w.moves
  works =
      let work = w.work begins.uncut begins.simple in record {
        left = begins.left;
        few = subst (λ (f : Costs). begins.left ≤ left_behind f first) begins.costs begins.few;
        efforts = work.efforts;
        are =
            subst (λ (f : Costs). AreWorked f (HadPages new.clock) (worn_by new.device new.clock) c first state (record { left = begins.left; trying = None; tries = 0 }) w.moves work.efforts) begins.costs
            (subst (λ (x : Work). AreWorked (costs_in old.device.fixed) (HadPages new.clock) (worn_by new.device new.clock) c first state x w.moves work.efforts) (sym begins.is) work.are);
      }

  -- a move that accepts an urgent write of such a block
  abbrev Urgently : Urgent
  Urgently since s m ms = ((id : ℕ) → urgent_block c s m.entry ≡ Some id → of old.device.fixed id) → IsPostedAsTold c new.clock (turns_beside within) since s m ms

  urgently : (since : ℕ) (s : State) (m : Move) (ms : List Move) → PostsUrgentOf (OfFirst old.device.fixed) c (turns_beside within) (pages_in old.device.fixed c) (MayGoOnAsTold new.clock old.device.fixed.reserve) (λ id o n. DueAt new o id n) since s m ms → Urgently since s m ms
  urgently since s m ms posts such id is may =
      let pages : pages_in old.device.fixed c s id ≡ write_pages c s id = begins.pages s id (such id is) in
      let goes : MayGoOnAsTold new.clock old.device.fixed.reserve since m.behind.ops (pages_in old.device.fixed c s id) = rw (begins.reserve, pages) may in
      subst (λ (n : ℕ). IsPostedSoon (λ one left. Unit {0}) true id (n + turns_beside within) m.behind.faults ms) pages
      (soon_by (λ o n. DueAt new o id n) (λ o n. Unit {0}) true id (pages_in old.device.fixed c s id + turns_beside within) m.behind.faults ms (λ o n due. tt) (posts (λ k urgent. begins.first k (such k urgent)) id is goes))

  urgent : EachMoveSince c Urgently old.device.ops state w.moves
  urgent = each_by c (PostsUrgentOf (OfFirst old.device.fixed) c (turns_beside within) (pages_in old.device.fixed c) (MayGoOnAsTold new.clock old.device.fixed.reserve) (λ id o n. DueAt new o id n)) Urgently urgently old.device.ops state w.moves
      (w.served old.device.ops servable).urgent

  paid : is_some new.device.slots ≡ true → ArePaidSince c (worn_by new.device new.clock) first.faults first state w.moves
  paid slots = are_paid (frame_of within old) (worn_by new.device new.clock) cursor w.moves (w.paid slots begins.before begins.kept cursor at begins.owes).0

  -- behind its one entry
  moves_came_by : (urgently : Urgent) → ((since : ℕ) (s : State) (m : Move) (ms : List Move) → Urgently since s m ms → urgently since s m ms)
      → HasMovesBy (costs c) (turns c) urgently within c new.desk.entries first w.moves new.device new.clock
  moves_came_by urgently from =
      let adds : new.desk.entries ≡ old.desk.entries ++ entries_of w.moves = ap (λ (x : DeskState). x.entries) w.tell in
      let grown : new.desk.entries ≡ Found begins.marks old.device.ops ∷ entries_of w.moves = adds ∙ ap (λ (es : List Entry). es ++ entries_of w.moves) begins.entries in
      let start : take 1 new.desk.entries ≡ old.desk.entries = ap (take 1) grown ∙ sym begins.entries in
      let begun : after c (take 1 new.desk.entries) ≡ state = ap (after c) start in
      record {
        tell = adds ∙ ap (λ (es : List Entry). es ++ entries_of w.moves) (sym start);
        are = are_made (frame_of within old) new.clock cursor w.moves along;
        faults = ap (λ (m : Moment). m.faults) behind;
        ops = ap (λ (m : Moment). m.ops) behind;
        begins = subst (BeginsAt first) (sym grown) refl;
        failed = counts_then within old new w;
        serves = subst (λ (s : State). BeginWhatIsDue within c (s ∷ []) s w.moves) (sym begun) (begin_what_is_due (frame_of within old) new.clock cursor w.moves along);
        posts = subst (λ (s : State). EachMove c (PostsPicked c (turns c)) s w.moves) (sym begun)
            (subst (λ (f : State → Job → ℕ). EachMove c (PostsPicked c f) state w.moves) begins.most (posts_picked (frame_of within old) new.clock cursor w.moves along));
        rests = subst (λ (s : State). StaysAtRest c first s w.moves) (sym begun) (stays_at_rest (frame_of within old) new.clock cursor w.moves along);
        kept = subst (λ (s : State). TakeKept c (new.clock.was TakesKept) first s w.moves) (sym begun) (take_kept (frame_of within old) new.clock cursor w.moves along);
        work = subst (λ (s : State). HasWork (costs c) (HadPages new.clock) (worn_by new.device new.clock) c first s w.moves) (sym begun) works;
        urgent = subst (λ (s : State). EachMoveSince c urgently old.device.ops s w.moves) (sym begun) (each_by c Urgently urgently from old.device.ops state w.moves urgent);
        paid = λ slots. subst (λ (s : State). ArePaidSince c (worn_by new.device new.clock) first.faults first s w.moves) (sym begun) (paid slots);
      }

module _ (within : Bool) (old new : Seen) where
  -- over one part
  pub moves_came : BeginsMoves old → (w : HasMoved within old new) → HasMovesTo within new.desk.config new.desk.entries (moment_seen old) w.moves new.device new.clock
  moves_came begins w =
      subst (λ (x : Configuration). HasMovesTo within x new.desk.entries (moment_seen old) w.moves new.device new.clock) (sym (ap (λ (x : DeskState). x.config) w.tell))
      (moves_came_by costs_of job_turns (λ f id. Unit {0}) within old new begins w (IsPostedAsTold old.desk.config new.clock (turns_beside within)) (λ since s m ms posts. posts (λ id is. tt)))

  -- over two
  pub moves_of_both_came : BeginsMovesOfBoth old → (w : HasMoved within old new) → HasMovesToOfBoth within new.desk.config new.desk.entries (moment_seen old) w.moves new.device new.clock
  moves_of_both_came begins w =
      subst (λ (x : Configuration). HasMovesToOfBoth within x new.desk.entries (moment_seen old) w.moves new.device new.clock) (sym (ap (λ (x : DeskState). x.config) w.tell))
      (moves_came_by costs_of_both job_turns_of_both OfFirst within old new begins w (IsPostedByFirst old.desk.config new.device new.clock (turns_beside within))
      (λ since s m ms posts first. posts (λ id is. subst (λ (f : Fixed). OfFirst f id) w.fixed (first id is))))

-- or with nothing made behind its start-up
pub none_came_by : (costs : Costs) (turns : State → Job → ℕ) (urgently : Urgent) (within : Bool) (marks : List (Instance × Mark)) (ops : ℕ) (c : Configuration) (h : List Entry) (d : DeviceTold) (clock : Clock) → h ≡ Found marks ops ∷ [] → ops ≡ d.ops
    → HasMovesBy costs turns urgently within c h (moment_by None d) [] d clock
none_came_by costs turns urgently within marks ops c h d clock begun made = record {
  tell = begun ∙ ap (take 1) (sym begun) ∙ sym (append-nil (take 1 h));
  are = tt;
  faults = refl;
  ops = refl;
  begins = subst (BeginsAt (moment_by None d)) (sym begun) (ap (λ (n : ℕ). Some n) made);
  failed = tt;
  serves = tt;
  posts = tt;
  rests = tt;
  work = record { left = 0; few = omega arith; efforts = []; are = tt };
  kept = tt;
  urgent = tt;
  paid = λ slots. tt;
}

pub none_came : (within : Bool) (marks : List (Instance × Mark)) (ops : ℕ) (c : Configuration) (h : List Entry) (d : DeviceTold) (clock : Clock) → h ≡ Found marks ops ∷ [] → ops ≡ d.ops → HasMovesTo within c h (moment_by None d) [] d clock
none_came within marks ops c h d clock begun made = none_came_by (costs_of c) (job_turns c) (IsPostedAsTold c clock (turns_beside within)) within marks ops c h d clock begun made

-- OVER ONE PART
-- where all numbers are of the first part each block is
pub all_of_first : (f : Fixed) → AreFirst f → (id : ℕ) → Unit {0} → OfFirst f id
all_of_first f first id all = ap (is_part Second) (first (id * 64))

pub one_part_has_blocks : (c : Configuration) (f : Fixed) → IsLegalConfig c → AreFirst f → HasBlocks c f
one_part_has_blocks c f legal first = record { few = λ id. few_at c id legal; first = λ id of index small. first _ }

pub one_part_is_simple : (f : Fixed) → AreFirst f → ReadAtOnce f → IsSimple f
one_part_is_simple f first reads = record { second = λ n op is. absurd (let never : First ≡ Second = sym (first n) ∙ is in cc never); reads = reads }

-- BEHIND A START-UP
none_off : (a b : Bool) → a ≡ false → b ≡ false → (a || b) ≡ false
none_off true b first second = cc first
none_off false b first second = second

-- both parts are on
pub on_is_uncut : (desk : DeskState) (d : DeviceTold) → d.first.off ≡ false → d.second.off ≡ false → PowersOff desk d
on_is_uncut desk d first second off = true_false (is_off d) off (none_off d.first.off d.second.off first second)

-- behind a start-up that stands no try is open, and what is left is bounded
pub start_work : (d : DeviceTold) (clock : Clock) → InOrder d clock → is_open d.stand ≡ false → (faulty : Bool) → (d.left ≡ 0) ⊎ (faulty ≡ true) → (left_on d ≤ (if faulty then d.fixed.own else 0)) × (record { left = left_on d; trying = None; tries = 0 } ≡ work_in None d)
start_work d clock order closed faulty leaves =
    let none : most_open d.fixed d.stand ≡ 0 = no_open d.fixed d.stand closed in
    let most = order.bounded in
    (few faulty (omega (arith, none, most)) leaves (on_left (is_off d) d.left), ap (λ (o : Option ℕ). record { left = left_on d; trying = o; tries = 0 }) (sym (closed_tries d.stand closed)))
  where
    no_open : (f : Fixed) (stand : Stand) → is_open stand ≡ false → most_open f stand ≡ 0
    no_open f (Open j) shut = true_false (is_open (Open j)) refl shut
    no_open f (Ended result given) shut = refl

    on_left : (off : Bool) (left : ℕ) → (if off then 0 else left) ≤ left
    on_left true left = omega arith
    on_left false left = omega arith

    few : (b : Bool) → d.left ≤ d.fixed.own → (d.left ≡ 0) ⊎ (b ≡ true) → left_on d ≤ d.left → left_on d ≤ (if b then d.fixed.own else 0)
    few true own either less = omega (arith, own, less)
    few false own (inl zero) less = omega (arith, zero, less)
    few false own (inr never) less = cc never
