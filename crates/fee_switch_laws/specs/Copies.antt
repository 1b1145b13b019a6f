-- Laws of the copies of a switch, from the last erase of its target on.
use Rattle.std.specs.Prelude.{◌≡◌, ◌+◌, ℕ, false, List, Some}
use Rattle.nv_base.specs.Geometry.{sectors_of_bank}
use Rattle.fls_model.specs.declared.flash.FlashAnswer.TheVariants.{Done, Failed}
use Rattle.fls_model.specs.Op.{MayLeave, after_op}
use Rattle.fee_image.specs.Sound.{IsSoundImage}
use Rattle.fee_image.specs.May.{May}
use Rattle.fee_image.specs.Banks.{ImageShows}
use Rattle.fee_image.specs.Copies.{Flag, Each}
use Rattle.fee_log.specs.Log.{log_of}
use Rattle.fee_log.specs.Step.{op_of, after_step}
use Rattle.fee_course.specs.declared.course.Copying.{Copying}
use Rattle.fee_course.specs.declared.course.Course.TheVariants.{Erase as CourseErase, Copy}
use Rattle.fee_switch_laws.specs.Flags.{all_clear, flags_copied}
use Rattle.fee_switch.specs.declared.target.Stage.TheVariants.{Erase}
use Rattle.fee_switch.specs.Banks.{BanksState, IsBanksState, advanced, fallen_back}
use Rattle.fee_switch_laws.specs.Flagged.{HoldsFlags, IsErasing, IsCopyLog, IsInWork}
use Rattle.fee_switch_laws.specs.Shown.{Bodies, layout_in}
use Rattle.fee_switch_laws.specs.Targets.{op_in}

-- the last erase of a sound image is done: the copies start with an empty log
abbrev pub LastErasesStand : Type 0
LastErasesStand =
    (s : BanksState) (bodies : Bodies) (old new : List ℕ) (may : May) (fs : List Flag) (n : ℕ)
    → IsBanksState s → s.course ≡ Some (CourseErase n) → n + 1 ≡ sectors_of_bank s.geometry s.banks → IsErasing s fs → IsSoundImage (layout_in s) old → HoldsFlags s bodies old may fs
    → MayLeave (op_in s (Erase n)) old new → new ≡ after_op (op_in s (Erase n)) old
    → HoldsFlags (advanced s (CourseErase n)) bodies new may fs

-- a page of the copy in work is done, the last one with its flag
abbrev pub CopiesGoOn : Type 0
CopiesGoOn =
    (s : BanksState) (bodies : Bodies) (old new : List ℕ) (may : May) (fs : List Flag) (w : Copying)
    → IsBanksState s → IsCopyLog s → s.course ≡ Some (Copy (Some w)) → IsInWork s bodies.copy w fs → HoldsFlags s bodies old may fs
    → MayLeave (op_of s.copies bodies.copy) old new → new ≡ after_op (op_of s.copies bodies.copy) old
    → HoldsFlags (advanced (record s { copies = after_step s.copies Done }) (Copy (Some w))) bodies new may
    (flags_copied s.geometry.page w.sets (log_of s.copies bodies.copy).tail fs)

-- whatever a failed page leaves, the first erase comes with no flag
abbrev pub CopiesFallBack : Type 0
CopiesFallBack =
    (s : BanksState) (bodies : Bodies) (old new : List ℕ) (may : May) (fs : List Flag) (w : Copying)
    → IsBanksState s → IsCopyLog s → s.course ≡ Some (Copy (Some w)) → IsInWork s bodies.copy w fs → HoldsFlags s bodies old may fs
    → MayLeave (op_of s.copies bodies.copy) old new
    → HoldsFlags (fallen_back (record s { copies = after_step s.copies Failed }) (Copy (Some w))) bodies new may (all_clear fs)
    × Each (λ f. f.copied ≡ false) (all_clear fs)

-- a start-up on whatever a cut before or within a page leaves finds what may be found, in sound bytes where they were sound
abbrev pub CutCopiesShow : Type 0
CutCopiesShow =
    (s : BanksState) (bodies : Bodies) (old image : List ℕ) (may : May) (fs : List Flag) (w : Copying)
    → IsBanksState s → IsCopyLog s → s.course ≡ Some (Copy (Some w)) → IsInWork s bodies.copy w fs → HoldsFlags s bodies old may fs
    → MayLeave (op_of s.copies bodies.copy) old image → ImageShows (layout_in s) image may × (IsSoundImage (layout_in s) old → IsSoundImage (layout_in s) image)
