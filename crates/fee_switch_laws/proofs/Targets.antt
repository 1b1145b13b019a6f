-- Erases of the target and its head, done and failed.
use Rattle.std.proofs.Common.{◌≡◌, ◌<◌, ◌+◌, ◌*◌, ◌^◌, ℕ, false, List, Option, Some, None, sym, ap, refl, subst, eqb, arith}
use Rattle.std.proofs.lemmas.Bool.{ne_eqb}
use Rattle.nv_base.specs.Geometry.{sectors_of_bank, pages_of_sector}
use Rattle.fls_model.specs.declared.flash.FlashAnswer.{FlashAnswer}
use Rattle.fls_model.specs.declared.flash.FlashAnswer.TheVariants.{Done, Failed}
use Rattle.fls_model.specs.Op.{MayLeave, after_op}
use Rattle.fls_model.specs.Step.{Leaves}
use Rattle.fee_image.specs.Sound.{IsSoundImage}
use Rattle.fee_image.specs.Log.{Log}
use Rattle.fee_image.specs.May.{May, IsWider}
use Rattle.fee_image.specs.Banks.{Phase, Erasing, Holds}
use Rattle.fee_log.specs.Index.{clear_flags}
use Rattle.fee_log.specs.Log.{log_of}
use Rattle.fee_switch.specs.declared.active.ActiveBank.{ActiveBank}
use Rattle.fee_course.specs.declared.course.Course.{Course}
use Rattle.fee_course.specs.declared.course.Course.TheVariants.{Erase as CourseErase, Head as CourseHead}
use Rattle.fee_switch.specs.declared.target.Stage.{Stage}
use Rattle.fee_switch.specs.declared.target.Stage.TheVariants.{Erase, Head}
use Rattle.fee_switch.specs.Target.{IsWorking, IsReady, IsSafe, phase_of, banks_after}
use Rattle.fee_switch.specs.Banks.{BanksState, IsBanksState, target_at, target_after, stood, next_generation, advanced, fallen_back}
use Rattle.fee_switch.proofs.Targets.{targets_hold}
use Rattle.fee_switch_laws.specs.Shown.{Bodies, old_shown, phase_shown, layout_in, banks_shown, HoldsBanks}
use Rattle.fee_switch_laws.specs.Targets.{op_in, ErasesGoOn, ErasesFail, HeadsStand, HeadsFail}
use Rattle.fee_switch_laws.proofs.Gates.{next_inside, next_other, same_head}

-- flags are none of what a log shows
same_old : (active : Option ActiveBank) (s : BanksState) (body : List ℕ) → old_shown active s.log body ≡ old_shown active (record s.log { flags = clear_flags s.log.numbers }) body
same_old None s body = refl
same_old (Some a) s body = refl

module _ (s : BanksState) (bodies : Bodies) (old new : List ℕ) (may copied : May) (is : IsBanksState s) (holds : HoldsBanks s bodies old may copied) where
  abbrev log : Log
  log = log_of s.copies bodies.copy

  pub by_answer : (stage : Stage) (answer : FlashAnswer) → IsWorking (sectors_of_bank s.geometry s.banks) stage → phase_shown s.course s bodies.copy ≡ phase_of (target_at s stage) stage log
      → IsReady (target_at s stage) stage (banks_shown s bodies may copied) → IsSafe stage (layout_in s) old → MayLeave (op_in s stage) old new → Leaves (op_in s stage) answer old new
      → Holds (layout_in s) s.log.numbers new (banks_after (target_at s stage) (banks_shown s bodies may copied) log (target_after s.banks (stood s)) answer)
  by_answer stage answer working phase ready safe leaves also =
      targets_hold (target_at s stage) s.log.numbers old new (banks_shown s bodies may copied) log (target_after s.banks (stood s)) answer
      (record { legal = is.legal; shared = is.shared; bank = is.target; working = working }) (record { banks = holds; target = refl; phase = phase; ready = ready; safe = safe })
      (next_inside s.banks s.target is.shared.low is.target) (next_other s.banks s.target is.shared.low) leaves also

  -- the same with the flags cleared
  cleared : (phase : Phase) → Holds (layout_in s) s.log.numbers new (record { old = old_shown s.active s.log bodies.append; target = s.target; phase = phase; may = may; copied = copied })
      → Holds (layout_in s) s.log.numbers new (record { old = old_shown s.active (record s.log { flags = clear_flags s.log.numbers }) bodies.append; target = s.target; phase = phase; may = may; copied = copied })
  cleared phase h = rw (← same_old s.active s bodies.append) h

  erased : (n : ℕ) → s.course ≡ Some (CourseErase n) → n + 1 < sectors_of_bank s.geometry s.banks → IsSoundImage (layout_in s) old → MayLeave (op_in s (Erase n)) old new → new ≡ after_op (op_in s (Erase n)) old
      → HoldsBanks (advanced s (CourseErase n)) bodies new may copied
  erased n course lt sound leaves done =
      let phase = ap (λ (c : Option Course). phase_shown c s bodies.copy) course in
      let h = by_answer (Erase n) Done (let t : n < sectors_of_bank s.geometry s.banks = omega arith in t) phase tt sound leaves done in
      let differs : eqb (n + 1) (sectors_of_bank s.geometry s.banks) ≡ false = ne_eqb (n + 1) (sectors_of_bank s.geometry s.banks) (λ e. omega arith) in
      rw differs h

  erase_again : (n : ℕ) → s.course ≡ Some (CourseErase n) → n < sectors_of_bank s.geometry s.banks → IsSoundImage (layout_in s) old → MayLeave (op_in s (Erase n)) old new
      → HoldsBanks (fallen_back s (CourseErase n)) bodies new may copied
  erase_again n course lt sound leaves =
      let phase = ap (λ (c : Option Course). phase_shown c s bodies.copy) course in
      let h = by_answer (Erase n) Failed lt phase tt sound leaves leaves in
      cleared (Erasing (n * pages_of_sector s.geometry)) (subst (λ (p : Phase). Holds (layout_in s) s.log.numbers new (record { old = old_shown s.active s.log bodies.append; target = s.target; phase = p; may = may; copied = copied })) phase h)

  head_stood : s.course ≡ Some CourseHead → next_generation s.active < 2 ^ 32 → IsWider copied may → MayLeave (op_in s Head) old new → new ≡ after_op (op_in s Head) old
      → HoldsBanks (advanced s CourseHead) bodies new may copied
  head_stood course few wide leaves done =
      let phase = ap (λ (c : Option Course). phase_shown c s bodies.copy) course in
      by_answer Head Done tt phase (sym (same_head s.active s bodies.append), few, wide) tt leaves done

  head_again : s.course ≡ Some CourseHead → next_generation s.active < 2 ^ 32 → IsWider copied may → MayLeave (op_in s Head) old new
      → HoldsBanks (fallen_back s CourseHead) bodies new may copied
  head_again course few wide leaves =
      let phase = ap (λ (c : Option Course). phase_shown c s bodies.copy) course in
      let h = by_answer Head Failed tt phase (sym (same_head s.active s bodies.append), few, wide) tt leaves leaves in
      let none : 0 ≡ 0 * pages_of_sector s.geometry = omega arith in
      cleared (Erasing (0 * pages_of_sector s.geometry)) (subst (λ (n : ℕ). Holds (layout_in s) s.log.numbers new (record { old = old_shown s.active s.log bodies.append; target = s.target; phase = Erasing n; may = may; copied = copied })) none h)

pub erases_go_on : ErasesGoOn
erases_go_on s bodies old new may copied n is course lt sound holds leaves done = erased s bodies old new may copied is holds n course lt sound leaves done

pub erases_fail : ErasesFail
erases_fail s bodies old new may copied n is course lt sound holds leaves = erase_again s bodies old new may copied is holds n course lt sound leaves

pub heads_stand : HeadsStand
heads_stand s bodies old new may copied is course few wide holds leaves done = head_stood s bodies old new may copied is holds course few wide leaves done

pub heads_fail : HeadsFail
heads_fail s bodies old new may copied is course few wide holds leaves = head_again s bodies old new may copied is holds course few wide leaves
