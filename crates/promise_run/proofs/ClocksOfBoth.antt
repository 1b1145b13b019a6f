-- The words of a device of two parts are so of both flashes.
use Rattle.std.specs.Bool.{beq}
use Rattle.std.specs.Prelude.{nat_lt, nat_le, if◌then◌else◌}
use Rattle.std.specs.Option.{option_map_or}
use Rattle.std.proofs.Common.{◌≡◌, ◌≤◌, ◌<◌, ◌+◌, ℕ, zero, suc, Bool, true, false, length, min, take, List, refl, sym, ap, ◌∙◌, subst, inl, arith}
use Rattle.std.proofs.lemmas.Bool.{and_parts, ltb-true, false≢true}
use Rattle.block_machine.specs.nv_base.Count.{last_count}
use Rattle.block_machine.specs.nv_base.Marks.{instance_of}
use Rattle.memif.specs.Told.{PartTold, DeviceTold, Fixed, IfElse, Second, faults_of}
use Rattle.memif.specs.Clock.{Clock, Trait}
use Rattle.block_machine.specs.Words.{Entry, Configuration}
use Rattle.block_machine.specs.Steps.{after}
use Rattle.block_machine.specs.History.{up_to}
use Rattle.promise_blocks.specs.OverDevice.{is_of}
use Rattle.promise_device.specs.Bridge.{free_pages}
use Rattle.promise_device.specs.FlashRun.{HasFailed, TellsBytes, StartsSound, bytes_after}
use Rattle.promise_device.proofs.Readings.{sound_starts_compute, worn_banks_compute}
use Rattle.promise_run.specs.Beside.{Beside, is_beside, ops_of}
use Rattle.promise_run.specs.ClocksOfBoth.{AreOverBoth, WordsAreOfBoth}
use Rattle.promise_run.specs.DeviceTurns.{HadPages, HadSpare, worn_by}
use Rattle.promise_run.specs.Promise.{making_first}
use Rattle.promise_run.specs.Run.{Run}
use Rattle.promise_run.specs.Turns.{HadFree}
use Rattle.promise_run.specs.TwoFlashes.{IsWornOfBoth, own_ops}
use Rattle.promise_run.specs.TurnsOfBoth.{HadFreeOfBoth, HasTraitOfBoth, WereCountedByBoth}
use Rattle.promise_run.proofs.DeviceTurns.{had_room, spare_of}
use Rattle.promise_run.proofs.OwnOperations.{on_same, operations_are_counted}

-- no more of one flash than of both
pub few_own : (second : Bool) (c : Configuration) (h : List Entry) (b : Beside) (k : ℕ) → ops_of second c h b k ≤ k
few_own second c h b zero = omega arith
few_own second c h b (suc k) = let before = few_own second c h b k in by (beq second (is_beside c h b k)) before
  where
    by : (t : Bool) → ops_of second c h b k ≤ k → ops_of second c h b k + (if t then 1 else 0) ≤ suc k
    by true before = omega (arith, before)
    by false before = omega (arith, before)

module _ (r : Run) (b : Beside) (cutter : Bool) (before before_second : PartTold) (first second last now : DeviceTold) (clock_first clock_second clock clock_now : Clock)
    (over : AreOverBoth r b cutter before before_second first second last now clock_first clock_second clock clock_now) where
  c : Configuration
  c = r.configuration

  all_ops : last.ops ≤ last_count
  all_ops = let ops = over.joins.ops in let same = over.same in omega (arith, ops, same)

  pub own_is : (p : Bool) (k : ℕ) → k ≤ last.ops → own_ops r b p k ≡ over.count p k
  own_is p k few =
      let same = over.same in let all = all_ops in
      operations_are_counted p r.configuration r.history b now clock_now (over.count p) over.jobs over.blocks (over.joins.counts p) k (omega (arith, few, same)) (omega (arith, few, all))

  -- whose an operation is the clock says as the history does
  pub of_second : (k : ℕ) → k < last.ops → is_beside r.configuration r.history b k ≡ true → clock_now.of_second k
  of_second k few is =
      let same = over.same in let all = all_ops in
      (over.jobs k (omega (arith, few, all)) (omega (arith, few, same))).1 (sym (on_same b.blocks (is_of Second now.fixed) over.blocks (after r.configuration (up_to k r.history)).hand) ∙ is)

  pub of_first : (k : ℕ) → k < last.ops → is_beside r.configuration r.history b k ≡ false → ¬ clock_now.of_second k
  of_first k few is of =
      let same = over.same in let all = all_ops in
      let on = (over.jobs k (omega (arith, few, all)) (omega (arith, few, same))).0 of in
      false≢true (sym is ∙ on_same b.blocks (is_of Second now.fixed) over.blocks (after r.configuration (up_to k r.history)).hand ∙ on)

  failed_in : (k : ℕ) → k < last.ops → (t : Bool) → is_beside r.configuration r.history b k ≡ t → IfElse t (HasFailed b.flash (own_ops r b true k)) (HasFailed r.flash (own_ops r b false k)) → clock_now.failed k
  failed_in k few true of failed =
      let same = over.same in let all = all_ops in let own = few_own true r.configuration r.history b k in
      over.joins.failed_second k (omega (arith, few, same)) (omega (arith, few, all)) (of_second k few of)
      (subst clock_second.failed (own_is true k (omega (arith, few))) (over.of_second.failed (own_ops r b true k) (omega (arith, few, all, own)) failed))
  failed_in k few false of failed =
      let same = over.same in let all = all_ops in let own = few_own false r.configuration r.history b k in
      over.joins.failed_first k (omega (arith, few, same)) (omega (arith, few, all)) (of_first k few of)
      (subst clock_first.failed (own_is false k (omega (arith, few))) (over.of_first.failed (own_ops r b false k) (omega (arith, few, all, own)) failed))

  was_in : (t : Trait) (k : ℕ) → k < last.ops → HasTraitOfBoth r b t k → clock_now.was t k
  was_in t k few (of, such) =
      let same = over.same in let all = all_ops in let own = few_own false r.configuration r.history b k in
      over.joins.was t k (omega (arith, few, same)) (omega (arith, few, all)) (of_first k few of)
      (subst (clock_first.was t) (own_is false k (omega (arith, few))) (over.of_first.was t (own_ops r b false k) (omega (arith, few, all, own)) such))

  own_within : (k : ℕ) → k ≤ last.ops → k < last_count → own_ops r b false k ≤ length r.flash.operations
  own_within k few small =
      let same = over.same in let ops = over.of_first.ops in let is = own_is false k few in
      let own = over.joins.within k (omega (arith, few, same)) small in let less = own.0 in omega (arith, is, less, ops)

  to_spare : (k n : ℕ) → k ≤ last.ops → k < last_count → clock_first.spare (own_ops r b false k) n → clock.spare k n
  to_spare k n few small spare =
      let same = over.same in
      over.lasts.past.spare k n few (over.joins.spare k n (omega (arith, few, same)) small (subst (λ (m : ℕ). clock_first.spare m n) (own_is false k few) spare))

  had_pages : (k n : ℕ) → k ≤ last.ops → HadFreeOfBoth r b k n → HadPages clock k n
  had_pages k n few (small, had) =
      let m = making_first r.configuration in
      let own = own_ops r b false k in
      let (counted, fits) = and_parts (nat_lt own last_count) (option_map_or (λ image. nat_le n (free_pages m (take own r.flash.operations) image)) (bytes_after r.flash own) false) had.free in
      let (free, spare, room) = had_room (bytes_after r.flash own) clock_first.spare own n (free_pages m (take own r.flash.operations)) fits
      (over.of_first.spare had.tells (sound_starts_compute m r.flash had.sound) own (own_within k few small) (ltb-true own last_count counted)) in
      (free, to_spare k free few small spare, room)

  had_spare : TellsBytes r.flash → StartsSound (making_first r.configuration) r.flash → (k n : ℕ) → k ≤ last.ops → k < last_count → HadFree (making_first r.configuration) r.flash (own_ops r b false k) n
      → HadSpare clock (making_first r.configuration).reserve k n
  had_spare told sound k n few small free =
      let m = making_first r.configuration in
      let own = own_ops r b false k in
      let (left, spare, fits) = spare_of (bytes_after r.flash own) clock_first.spare own n m.reserve (free_pages m (take own r.flash.operations)) free.image free.bytes free.free
      (over.of_first.spare told (sound_starts_compute m r.flash sound) own (own_within k few small) free.counted) in
      (left, to_spare k left few small spare, fits)

  least : (k : ℕ) → k ≤ last.ops → min k now.ops ≡ k
  least k few = let same = over.same in omega (arith, few, same)

  worn_in : (k n : ℕ) (urgent : Bool) → k ≤ last.ops → clock_now.worn k n urgent → (t : Bool) → b.blocks (instance_of (record { 0 = n })).block ≡ t → IsWornOfBoth r b k n urgent
  worn_in k n urgent few worn true of =
      let (moment, soon, is) = over.joins.worn_second k n urgent of worn in
      let own = own_is true k few in let here = least k few in record {
        second = true;
        of = of;
        moment = moment;
        by_then = λ small. subst (λ (m : ℕ). moment ≤ m) (sym own) (subst (λ (j : ℕ). moment ≤ over.count true j) here (soon small));
        is = over.of_second.worn moment n urgent is;
      }
  worn_in k n urgent few worn false of =
      let (moment, soon, is) = over.joins.worn_first k n urgent of worn in
      let own = own_is false k few in let here = least k few in record {
        second = false;
        of = of;
        moment = moment;
        by_then = λ small. subst (λ (m : ℕ). moment ≤ m) (sym own) (subst (λ (j : ℕ). moment ≤ over.count false j) here (soon small));
        is = worn_banks_compute (making_first r.configuration) r.flash moment n urgent (over.of_first.worn moment n urgent is);
      }

  worn_out : (k n : ℕ) (urgent : Bool) → worn_by last clock k n urgent → IsWornOfBoth r b k n urgent
  worn_out k n urgent (few, worn) = worn_in k n urgent few (over.lasts.past.worn k n urgent few worn) (b.blocks (instance_of (record { 0 = n })).block) refl

  counted : WereCountedByBoth r b (faults_of last)
  counted =
      let none_first = over.none.0 in let none_second = over.none.1 in
      let same_first = ap (λ (p : PartTold). p.faults) over.parts.0 in let same_second = ap (λ (p : PartTold). p.faults) over.parts.1 in
      let more_first = over.lasts.faults.0 in let more_second = over.lasts.faults.1 in (
        last.first.faults,
        last.second.faults,
        omega arith,
        over.of_first.faults last.first.faults (inl (omega (arith, none_first, same_first, more_first))),
        over.of_second.faults last.second.faults (inl (omega (arith, none_second, same_second, more_second))),
      )

  blocks_of : (block : ℕ) → b.blocks block ≡ is_of Second last.fixed block
  blocks_of block = over.blocks block ∙ ap (λ (f : Fixed). is_of Second f block) over.fixed

  ops_of_last : last.ops ≡ min (length r.flash.operations + length b.flash.operations) last_count
  ops_of_last = let same = over.same in let ops = over.joins.ops in let one = over.of_first.ops in let other = over.of_second.ops in omega (arith, same, ops, one, other)

pub words_are_of_both : WordsAreOfBoth
words_are_of_both r b cutter before before_second first second last now clock_first clock_second clock clock_now over = record {
  ops = ops_of_last r b cutter before before_second first second last now clock_first clock_second clock clock_now over;
  blocks = blocks_of r b cutter before before_second first second last now clock_first clock_second clock clock_now over;
  failed = λ k few failed. (over.lasts.past.failed k few).0
      (failed_in r b cutter before before_second first second last now clock_first clock_second clock clock_now over k few (is_beside r.configuration r.history b k) refl failed);
  was = λ t k few such. over.lasts.past.was t k few (was_in r b cutter before before_second first second last now clock_first clock_second clock clock_now over t k few such);
  counted = counted r b cutter before before_second first second last now clock_first clock_second clock clock_now over;
  free = had_pages r b cutter before before_second first second last now clock_first clock_second clock clock_now over;
  spare = had_spare r b cutter before before_second first second last now clock_first clock_second clock clock_now over;
  worn = worn_out r b cutter before before_second first second last now clock_first clock_second clock clock_now over;
  slots = λ told sound tells begins. over.slots (over.of_first.slots told (sound_starts_compute (making_first r.configuration) r.flash sound)) (over.of_second.slots tells begins);
}
