-- The figures of a device with a record in work.
use Rattle.std.specs.Prelude.{◌&&◌, not, nat_le, IsSome, if◌then◌else◌}
use Rattle.std.proofs.Common.{◌≡◌, ◌+◌, ◌-◌, ℕ, Bool, true, false, [], Option, Some, None, refl, sym, ap, ◌∙◌, subst, arith}
use Rattle.fls_model.specs.declared.flash.FlashAnswer.TheVariants.{Done}
use Rattle.fee_format.specs.declared.rec_head.RecHead.{RecHead}
use Rattle.fee_image.specs.RecordList.{pages_of_head}
use Rattle.fee_switch_laws.specs.fee_log.declared.tail.Tail.{Tail}
use Rattle.fee_switch_laws.specs.fee_log.declared.tail.Tail.TheVariants.{Open, Writes, Owes, Closed}
use Rattle.fee_switch_laws.specs.fee_log.Log.{LogState, IsTail, pages_in, work_in}
use Rattle.fee_switch_laws.specs.fee_log.Step.{after_step, commits}
use Rattle.fee_course.specs.declared.course.Course.{Course}
use Rattle.nv_base.specs.Geometry.{sectors_of_bank}
use Rattle.fee_course.specs.Course.{turns_left}
use Rattle.fee_switch_laws.specs.fee_switch.Banks.{BanksState, index_of, left_of, left_with, left_beside, begun_again}
use Rattle.fee_course.specs.declared.course.Course.TheVariants as course
use Rattle.fee_switch_laws.specs.Space.{free_pages}
use Rattle.fee_told.specs.Figures.{turns_owed}
use Rattle.fee_laws.specs.declared.job.FeeJob.{FeeJob}
use Rattle.fee_laws.specs.Work.{is_waiting, begins_next, takes_append, fits_in, claimed, pages_free, turns_beside, needs_switch, switch_turns, pages_left, is_owed, pages_of_op}
use Rattle.fee_laws.proofs.Tails.{tailed, page_goes_on}

pub and_false : (a : Bool) → a && false ≡ false
and_false true = refl
and_false false = refl

-- A RECORD IN WORK
-- nothing waits to begin then
pub and_four : (a b d : Bool) → a && b && false && d ≡ false
and_four true true d = refl
and_four true false d = refl
and_four false b d = refl

module _ (s : BanksState) (work : IsSome (work_in s.log.tail)) where
  none_waits : (j : FeeJob) → is_waiting s j ≡ false
  none_waits j = ap (λ (b : Bool). nat_le 1 (pages_of_op s.geometry.page j.op j.length) && not b) work ∙ and_false (nat_le 1 (pages_of_op s.geometry.page j.op j.length))

  pub none_begins : (j : FeeJob) → begins_next s j ≡ false
  none_begins j = ap (λ (b : Bool). takes_append s.course && j.urgent && b && fits_in 0 s j) (none_waits j) ∙ and_four (takes_append s.course) j.urgent (fits_in 0 s j)

  none_claimed : (job : Option FeeJob) → claimed s job ≡ 0
  none_claimed None = refl
  none_claimed (Some j) = ap (λ (b : Bool). if b then pages_of_op s.geometry.page j.op j.length else 0) (none_begins j)

  none_beside : (job : Option FeeJob) → turns_beside s job ≡ left_of s
  none_beside None = refl
  none_beside (Some j) = ap (λ (b : Bool). if b then left_beside s j.number.0 else left_of s) (none_begins j)

  none_needed : (reserve : ℕ) (job : Option FeeJob) → needs_switch reserve s job ≡ false
  none_needed reserve None = refl
  none_needed reserve (Some j) = ap (λ (b : Bool). b && not (fits_in reserve s j)) (none_waits j)

  pub free_is : (job : Option FeeJob) → pages_free s job ≡ free_pages s
  free_is job = let h = none_claimed job in let goal : free_pages s - claimed s job ≡ free_pages s = omega (arith, h) in goal

  switch_by : (reserve : ℕ) (job : Option FeeJob) (c : Option Course) → s.course ≡ c → switch_turns reserve s job c ≡ left_of s
  switch_by reserve job None e = ap (λ (b : Bool). if b then left_of (begun_again s (course.Erase 0)) else 0) (none_needed reserve job) ∙ sym (ap (left_with s) e)
  switch_by reserve job (Some c) e = none_beside job

  pub switch_is : (reserve : ℕ) (job : Option FeeJob) → switch_turns reserve s job s.course ≡ left_of s
  switch_is reserve job = switch_by reserve job s.course refl

-- THE TURNS OF A SWITCH
-- depend on the places, the flags and the record in work alone
pub same_turns : (s : BanksState) (log : LogState) (c : Option Course) → log.numbers ≡ s.log.numbers → log.places ≡ s.log.places → log.flags ≡ s.log.flags → work_in log.tail ≡ work_in s.log.tail
    → left_with (record s { log = log }) c ≡ left_with s c
same_turns s log None numbers places flags work = refl
same_turns s log (Some c) numbers places flags work =
    λ i. turns_left s.geometry.page (sectors_of_bank s.geometry s.banks) (numbers i) (places i) (flags i) (index_of (numbers i) (work i)) c

-- PAGES
-- one page less is left of the record, or the gate that is owed before it is done
pub pages_fall : (log : LogState) (t : Tail) (wanted : ℕ) → IsSome (work_in t) → IsTail log.geometry.page (pages_in log) log.end t → commits log.geometry.page t ≡ false
    → ((h : RecHead) → work_in t ≡ Some h → pages_of_head log.geometry.page h ≡ wanted)
    → let after = (after_step (tailed log t) Done).tail in
    pages_left log.geometry.page wanted after + turns_owed (is_owed after) + 1 ≡ pages_left log.geometry.page wanted t + turns_owed (is_owed t)
pages_fall log Open wanted work is goes fits = cc
pages_fall log (Writes h done) wanted work is goes fits =
    let e = (page_goes_on log h done [] goes).tail in
    let less = is.1 in
    subst (λ (x : Tail). pages_left log.geometry.page wanted x + turns_owed (is_owed x) + 1 ≡ pages_of_head log.geometry.page h - done + 0) (sym e) (omega (arith, less))
pages_fall log (Owes owed None) wanted work is goes fits = cc
pages_fall log (Owes owed (Some h)) wanted work is goes fits = let same = fits h refl in (omega (arith, same))
pages_fall log Closed wanted work is goes fits = cc
