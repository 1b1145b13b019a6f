-- The turns of a run over its flash, by the words of its device and by the bytes.
use Rattle.std.proofs.Common.{◌≡◌, ◌≤◌, ◌<◌, ◌+◌, ℕ, Bool, length, min, List, Option, Some, None, take, refl, sym, ◌∙◌, subst, inl, inr, arith}
use Rattle.std.specs.Prelude.{IfSome, true, false, nat_lt, nat_le, is_some}
use Rattle.std.specs.Option.{option_map_or}
use Rattle.std.proofs.lemmas.Bool.{and_parts, leb-true, ltb-true}
use Rattle.block_machine.specs.nv_base.Count.{last_count, Rose, WereCounted}
use Rattle.memif.specs.Told.{DeviceTold, PartTold, faults_of}
use Rattle.memif.specs.Clock.{Clock, Seals, TakesKept}
use Rattle.memif.specs.Trials.{Lasts}
use Rattle.promise_device.specs.FlashRun.{TellsBytes, StartsSound, HasFailed, bytes_after}
use Rattle.promise_device.specs.Bridge.{Bridges, IsSuch, IsWornOut, free_pages, reading_of}
use Rattle.promise_device.proofs.Readings.{sound_starts_compute, worn_banks_compute}
use Rattle.promise_run.specs.Halves.{beyond_end}
use Rattle.promise_run.specs.JobTurns.{job_turns, write_pages}
use Rattle.promise_run.specs.Operations.{HadFreePages, costs_of}
use Rattle.promise_run.specs.Promise.{making_of}
use Rattle.promise_run.specs.Run.{Run, Course, End, Whole, FlashFault, HistoryFull, Memory}
use Rattle.promise_run.specs.Turns.{Moment, Move, moment_behind, state_begun, AreMadeIn, EndsBy, KeepsTurns, MayGoOn, come_within, turns_beside}
use Rattle.promise_run.specs.DeviceTurns as device
use Rattle.promise_run.specs.DeviceTurns.{HadPages, HasMovesTo, worn_by}
use Rattle.promise_run.proofs.Counted.{counted_by}
use Rattle.promise_run.proofs.TakenPages.{taken_by}
use Rattle.promise_run.proofs.Paid.{since_too}
use Rattle.promise_run.proofs.UrgentPosts.{urgent_by}
use Rattle.promise_run.proofs.WorkedMoves.{worked_by}

-- what is free in its bytes is spare
pub spare_of : (o : Option (List ℕ)) (spare : ℕ → ℕ → Type 0) (k n reserve : ℕ) (ready : List ℕ → ℕ) (image : List ℕ) → o ≡ Some image → n ≤ min reserve (ready image) → IfSome o (λ x. spare k (ready x)) → (free : ℕ) × spare k free × (n ≤ min reserve free)
spare_of None spare k n reserve ready image is few told = absurd (let P : ⊥ = cc is in P)
spare_of (Some x) spare k n reserve ready image is few told = let same : x ≡ image = cc is in (ready x, told, subst (λ (y : List ℕ). n ≤ min reserve (ready y)) (sym same) few)

pub had_room : (o : Option (List ℕ)) (spare : ℕ → ℕ → Type 0) (k n : ℕ) (free : List ℕ → ℕ) → option_map_or (λ image. nat_le n (free image)) o false ≡ true → IfSome o (λ x. spare k (free x)) → (x : ℕ) × spare k x × (n ≤ x)
had_room None spare k n free fits told = cc fits
had_room (Some x) spare k n free fits told = (free x, told, leb-true n (free x) fits)

-- both parts' counts are those of the first one, where the second has none
in_first : (n a first then_ other t : ℕ) → a ≡ 0 → other ≡ 0 → t ≡ min (first + other) last_count → n ≡ t → first ≤ then_ → WereCounted n a then_
in_first n a first then_ other t none zero is same more = inl (omega (arith, none, zero, is, same, more))

risen_first : (n a first other t : ℕ) → a ≡ 0 → other ≡ 0 → t ≡ min (first + other) last_count → Rose n t → WereCounted (n + 1) a first
risen_first n a first other t none zero is (inl rose) = inl (omega (arith, none, zero, is, rose))
risen_first n a first other t none zero is (inr (full, more)) = inr (omega (arith, zero, is, full, more))

-- Behind the last moment that moves tell start-ups may have failed, each by a fault.
module _ (r : Run) (cutter : Bool) (before : PartTold) (last now : DeviceTold) (clock clock_now : Clock) (lasts : Lasts last clock now clock_now) (same : now.ops ≡ last.ops) (tells : is_some now.slots ≡ true → is_some last.slots ≡ true)
    (b : Bridges (reading_of (making_of r.configuration)) cutter r.flash before now (beyond_end clock_now)) where
  all_ops : last.ops ≤ last_count
  all_ops = let ops = b.ops in omega (arith, ops, same)

  counted_ops : last.ops ≡ min (length r.flash.operations) last_count
  counted_ops = sym same ∙ b.ops

  -- what may go on by the bytes may go on by the words of the device
  goes_on : TellsBytes r.flash → StartsSound (making_of r.configuration) r.flash → (since k n : ℕ) → k ≤ last.ops → MayGoOn (making_of r.configuration) r.flash since k n → device.MayGoOnAsTold clock (making_of r.configuration).reserve since k n
  goes_on told sound since k n few (inl free) =
      let ops = counted_ops in
      let (left, spare, fits) = spare_of (bytes_after r.flash k) clock_now.spare k n (making_of r.configuration).reserve (free_pages (making_of r.configuration) (take k r.flash.operations)) free.image free.bytes free.free
      (b.spare told (sound_starts_compute (making_of r.configuration) r.flash sound) k (omega (arith, few, ops)) free.counted) in
      inl (left, lasts.past.spare k left few spare, fits)
  goes_on told sound since k n few (inr (seal, wanted)) = inr (
    record {
      counted = seal.counted;
      last = seal.last;
      is_last = seal.is_last;
      later = seal.later;
      such = let at = seal.is_last in lasts.past.was Seals seal.last (omega (arith, at, few)) (b.was Seals seal.last (let counted = seal.counted in omega (arith, counted, at)) seal.such);
    },
    wanted,
  )

  -- and so do the free pages
  had_pages : (k n : ℕ) → k ≤ last.ops → HadFreePages (making_of r.configuration) r.flash k n → HadPages clock k n
  had_pages k n few had =
      let all = counted_ops in
      let (counted, fits) = and_parts (nat_lt k last_count) (option_map_or (λ image. nat_le n (free_pages (making_of r.configuration) (take k r.flash.operations) image)) (bytes_after r.flash k) false) had.free in
      let (free, spare, room) = had_room (bytes_after r.flash k) clock_now.spare k n (free_pages (making_of r.configuration) (take k r.flash.operations)) fits
      (b.spare had.tells (sound_starts_compute (making_of r.configuration) r.flash had.sound) k (omega (arith, few, all)) (ltb-true k last_count counted)) in
      (free, lasts.past.spare k free few spare, room)

  -- and where it says that it is worn out the flash is
  worn_out : (k n : ℕ) (urgent : Bool) → worn_by last clock k n urgent → IsWornOut (making_of r.configuration) r.flash k n urgent
  worn_out k n urgent (few, is) = worn_banks_compute (making_of r.configuration) r.flash k n urgent (b.worn k n urgent (lasts.past.worn k n urgent few is))

  had_failed : (k : ℕ) → k < last.ops → HasFailed r.flash k → clock.failed k
  had_failed k few is = (lasts.past.failed k few).0 (b.failed k (let all = all_ops in omega (arith, few, all)) is)

  had_taken : (k : ℕ) → k < last.ops → IsSuch (reading_of (making_of r.configuration)) r.flash TakesKept k → clock.was TakesKept k
  had_taken k few is = lasts.past.was TakesKept k few (b.was TakesKept k (let all = all_ops in omega (arith, few, all)) is)

  ends_by : before.faults ≡ 0 → now.second.faults ≡ 0 → (end : End) → (end ≡ FlashFault → Rose (faults_of last) (faults_of now)) → (m : Moment) → m.faults ≡ faults_of last → EndsBy m r.flash end
  ends_by none zero FlashFault fault m is =
      b.faults (m.faults + 1) (subst (λ (n : ℕ). WereCounted (n + 1) before.faults now.first.faults) (sym is) (risen_first (faults_of last) before.faults now.first.faults now.second.faults (faults_of now) none zero refl (fault refl)))
  ends_by none zero Whole fault m is = tt
  ends_by none zero HistoryFull fault m is = tt
  ends_by none zero Memory fault m is = tt

  pub keeps_turns : (course : Course) (first : Moment) (moves : List Move) → before.faults ≡ 0 → last.second.faults ≡ 0 → now.second.faults ≡ 0 → (r.end ≡ FlashFault → Rose (faults_of last) (faults_of now))
      → HasMovesTo (come_within course) r.configuration r.history first moves last clock → AreMadeIn course r first (moment_behind first moves) moves → KeepsTurns (job_turns r.configuration) r course
  keeps_turns course first moves none zero zero_now fault m made =
      let end = moment_behind first moves in
      let ops = m.ops in
      let c = r.configuration in
      let s = state_begun r in record {
        first = first;
        last = end;
        moves = moves;
        made = made;
        begins = m.begins;
        operations = m.ops ∙ counted_ops;
        failed = counted_by clock.failed (HasFailed r.flash) last.ops had_failed first moves (omega (arith, ops)) m.failed;
        counted = b.faults end.faults (in_first end.faults before.faults last.first.faults now.first.faults last.second.faults (faults_of last) none zero refl m.faults lasts.faults.0);
        ends = ends_by none zero_now r.end fault end m.faults;
        serves = m.serves;
        posts = m.posts;
        rests = m.rests;
        work = record {
          left = m.work.left;
          few = m.work.few;
          efforts = m.work.efforts;
          are =
              worked_by (costs_of c) (HadPages clock) (HadFreePages (making_of c) r.flash) (worn_by last clock) (IsWornOut (making_of c) r.flash) clock.failed last.ops had_pages worn_out c first s (record { left = m.work.left; trying = None; tries = 0 }) moves m.work.efforts
              (omega (arith, ops)) m.failed m.work.are;
        };
        kept = taken_by c clock.failed (clock.was TakesKept) (IsSuch (reading_of (making_of c)) r.flash TakesKept) last.ops had_taken first s moves (omega (arith, ops)) m.failed m.kept;
        urgent = λ told sound.
            urgent_by c (turns_beside (come_within course)) (write_pages c) clock.failed (device.MayGoOnAsTold clock (making_of c).reserve) (MayGoOn (making_of c) r.flash) (λ id one left. Unit {0}) (λ id one left. Unit {0}) last.ops (goes_on told sound) (λ id one left due. tt) first.ops
            first s moves (omega (arith, ops)) m.failed m.urgent;
        paid = λ told sound.
            since_too c (worn_by last clock) (IsWornOut (making_of c) r.flash) worn_out first.faults first s moves (m.paid (tells (b.slots told (sound_starts_compute (making_of c) r.flash sound))));
      }
