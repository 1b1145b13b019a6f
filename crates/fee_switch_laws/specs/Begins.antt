-- Laws of the first operation of a copy, for the layers above.
use Rattle.std.specs.Prelude.{◌≡◌, ℕ, false, List, [], length, Some, None}
use Rattle.nv_base.specs.declared.instance.DeviceNumber.{DeviceNumber}
use Rattle.fls_model.specs.declared.flash.FlashAnswer.TheVariants.{Done, Failed}
use Rattle.fls_model.specs.Op.{MayLeave, after_op}
use Rattle.fee_format.specs.declared.rec_head.RecHead.{RecHead}
use Rattle.fee_image.specs.Sound.{IsSoundImage}
use Rattle.fee_image.specs.declared.place.Place.TheVariants.{Content}
use Rattle.fee_image.specs.May.{May}
use Rattle.fee_image.specs.Banks.{ImageShows}
use Rattle.fee_image.specs.Copies.{Flag, Each, Copies}
use Rattle.fee_log.specs.declared.tail.Tail.TheVariants.{Open}
use Rattle.fee_log.specs.Log.{IsLogState, begun}
use Rattle.fee_log.specs.Step.{IsPageOf, due_bytes, op_of, after_step}
use Rattle.fee_course.specs.declared.copies.Source.{Source}
use Rattle.fee_course.specs.declared.course.Course.TheVariants.{Copy}
use Rattle.fee_switch_laws.specs.Flags.{all_clear}
use Rattle.fee_switch.specs.Banks.{BanksState, IsBanksState, reads_place, advanced, fallen_back}
use Rattle.fee_switch.specs.Copy.{IsNext, CanBegin, head_at}
use Rattle.fee_switch_laws.specs.Flagged.{HoldsFlags, IsCopyLog}
use Rattle.fee_switch_laws.specs.Shown.{Bodies, layout_in}

-- the copy of the number that comes next begins where no record stands behind the target's log, with its settled mark
pub record IsBeginning (s : BanksState) (source : Source) (number : DeviceNumber) (body : List ℕ) (fs : List Flag) : Type 0 where
  pub course : s.course ≡ Some (Copy None)
  pub tail : s.copies.tail ≡ Open
  pub next : IsNext s source number
  pub can : CanBegin s number source
  pub size : length body ≡ (head_at source.place number source.length).length
  pub copies : Each (Copies (head_at source.place number source.length) body) fs

-- the header of a mark without content is programmed at once
abbrev pub mark_head : Source → DeviceNumber → RecHead
mark_head source number = head_at source.place number source.length

pub record IsMarkBeginning (s : BanksState) (source : Source) (number : DeviceNumber) (fs : List Flag) : Type 0 where
  pub place : reads_place source.place ≡ false
  pub begins : IsBeginning s source number [] fs
  pub state : IsLogState (begun s.copies (mark_head source number))
  pub page : IsPageOf s.geometry.page (due_bytes (begun s.copies (mark_head source number)) [])

-- a content is read
abbrev pub ContentsBegin : Type 0
ContentsBegin =
    (s : BanksState) (bodies : Bodies) (bytes buffer body : List ℕ) (may : May) (fs : List Flag) (source : Source) (number : DeviceNumber) (at count : ℕ)
    → IsBanksState s → IsCopyLog s → source.place ≡ Content at count → IsBeginning s source number body fs → HoldsFlags s bodies bytes may fs
    → HoldsFlags (advanced (record s { copies = begun s.copies (head_at source.place number source.length); buffer = buffer }) (Copy None))
    (record bodies { copy = body }) bytes may fs

-- it failed: the first erase comes with no flag
abbrev pub ContentsFallBack : Type 0
ContentsFallBack =
    (s : BanksState) (bodies : Bodies) (bytes buffer : List ℕ) (may : May) (fs : List Flag)
    → IsBanksState s → s.course ≡ Some (Copy None) → HoldsFlags s bodies bytes may fs
    → HoldsFlags (fallen_back (record s { buffer = buffer }) (Copy None)) bodies bytes may (all_clear fs) × Each (λ f. f.copied ≡ false) (all_clear fs)

-- the header of a mark is done
abbrev pub MarksBegin : Type 0
MarksBegin =
    (s : BanksState) (bodies : Bodies) (old new : List ℕ) (may : May) (fs : List Flag) (source : Source) (number : DeviceNumber)
    → IsBanksState s → IsCopyLog s → IsMarkBeginning s source number fs → HoldsFlags s bodies old may fs
    → let copies = begun s.copies (mark_head source number) in
    MayLeave (op_of copies []) old new → new ≡ after_op (op_of copies []) old
    → HoldsFlags (advanced (record s { copies = after_step copies Done }) (Copy None)) (record bodies { copy = [] }) new may fs

-- whatever a failed one leaves, the first erase comes with no flag
abbrev pub MarksFallBack : Type 0
MarksFallBack =
    (s : BanksState) (bodies : Bodies) (old new : List ℕ) (may : May) (fs : List Flag) (source : Source) (number : DeviceNumber)
    → IsBanksState s → IsCopyLog s → IsMarkBeginning s source number fs → HoldsFlags s bodies old may fs
    → let copies = begun s.copies (mark_head source number) in
    MayLeave (op_of copies []) old new
    → HoldsFlags (fallen_back (record s { copies = after_step copies Failed }) (Copy None)) bodies new may (all_clear fs) × Each (λ f. f.copied ≡ false) (all_clear fs)

-- a start-up on whatever a cut before or within it leaves finds what may be found, in sound bytes where they were sound
abbrev pub CutMarksShow : Type 0
CutMarksShow =
    (s : BanksState) (bodies : Bodies) (old image : List ℕ) (may : May) (fs : List Flag) (source : Source) (number : DeviceNumber)
    → IsBanksState s → IsCopyLog s → IsMarkBeginning s source number fs → HoldsFlags s bodies old may fs
    → MayLeave (op_of (begun s.copies (mark_head source number)) []) old image → ImageShows (layout_in s) image may × (IsSoundImage (layout_in s) old → IsSoundImage (layout_in s) image)
