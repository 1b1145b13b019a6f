-- Laws of the erases of a target and of its head.
use Rattle.std.specs.Prelude.{◌≡◌, ◌<◌, ◌+◌, ◌^◌, ℕ, List, Some}
use Rattle.nv_base.specs.Geometry.{sectors_of_bank}
use Rattle.fls_model.specs.Op.{Op, MayLeave, after_op}
use Rattle.fee_image.specs.Sound.{IsSoundImage}
use Rattle.fee_image.specs.May.{May, IsWider}
use Rattle.fee_course.specs.declared.course.Course.TheVariants.{Erase as CourseErase, Head as CourseHead}
use Rattle.fee_switch.specs.declared.target.Stage.{Stage}
use Rattle.fee_switch.specs.declared.target.Stage.TheVariants.{Erase, Head}
use Rattle.fee_switch.specs.Target.{op_at}
use Rattle.fee_switch.specs.Banks.{BanksState, IsBanksState, target_at, next_generation, advanced, fallen_back}
use Rattle.fee_switch_laws.specs.Shown.{Bodies, layout_in, HoldsBanks}

-- the operation of the target at a stage
abbrev pub op_in : BanksState → Stage → Op
op_in s stage = op_at (target_at s stage) stage

-- an erase of a sound image before the last one is done
abbrev pub ErasesGoOn : Type 0
ErasesGoOn =
    (s : BanksState) (bodies : Bodies) (old new : List ℕ) (may copied : May) (n : ℕ)
    → IsBanksState s → s.course ≡ Some (CourseErase n) → n + 1 < sectors_of_bank s.geometry s.banks → IsSoundImage (layout_in s) old → HoldsBanks s bodies old may copied
    → MayLeave (op_in s (Erase n)) old new → new ≡ after_op (op_in s (Erase n)) old
    → HoldsBanks (advanced s (CourseErase n)) bodies new may copied

-- whatever a failed one leaves, it is made again
abbrev pub ErasesFail : Type 0
ErasesFail =
    (s : BanksState) (bodies : Bodies) (old new : List ℕ) (may copied : May) (n : ℕ)
    → IsBanksState s → s.course ≡ Some (CourseErase n) → n < sectors_of_bank s.geometry s.banks → IsSoundImage (layout_in s) old → HoldsBanks s bodies old may copied
    → MayLeave (op_in s (Erase n)) old new
    → HoldsBanks (fallen_back s (CourseErase n)) bodies new may copied

-- the head is done, where nothing but what may be found is copied
abbrev pub HeadsStand : Type 0
HeadsStand =
    (s : BanksState) (bodies : Bodies) (old new : List ℕ) (may copied : May)
    → IsBanksState s → s.course ≡ Some CourseHead → next_generation s.active < 2 ^ 32 → IsWider copied may → HoldsBanks s bodies old may copied
    → MayLeave (op_in s Head) old new → new ≡ after_op (op_in s Head) old
    → HoldsBanks (advanced s CourseHead) bodies new may copied

-- whatever a failed one leaves, the first erase comes
abbrev pub HeadsFail : Type 0
HeadsFail =
    (s : BanksState) (bodies : Bodies) (old new : List ℕ) (may copied : May)
    → IsBanksState s → s.course ≡ Some CourseHead → next_generation s.active < 2 ^ 32 → IsWider copied may → HoldsBanks s bodies old may copied
    → MayLeave (op_in s Head) old new
    → HoldsBanks (fallen_back s CourseHead) bodies new may copied
