-- The flags of the numbers, beside the banks in memory.
use Rattle.std.specs.Prelude.{◌≡◌, ◌+◌, ◌<◌, ℕ, false, List, Some, slice_get}
use Rattle.fee_format.specs.Formats.{new_format}
use Rattle.fee_format.specs.declared.rec_head.RecHead.{RecHead}
use Rattle.fee_image.specs.RecordList.{pages_of_head}
use Rattle.fee_image.specs.May.{May}
use Rattle.fee_image.specs.Copies.{Flag, Each, copied_of}
use Rattle.fee_log.specs.declared.tail.Tail.TheVariants.{Writes}
use Rattle.fee_log.specs.Log.{IsLogState, erased_state}
use Rattle.fee_log.specs.Step.{IsPageOf, due_bytes}
use Rattle.fee_course.specs.declared.course.Copying.{Copying}
use Rattle.fee_switch_laws.specs.Flags.{AreFlagsOf, CopiesOrNot}
use Rattle.fee_switch.specs.Banks.{BanksState}
use Rattle.fee_switch_laws.specs.Shown.{Bodies, HoldsBanks}

-- the bytes of a flash hold the banks, whose target may show what these flags say
pub record HoldsFlags (s : BanksState) (bodies : Bodies) (bytes : List ℕ) (may : May) (fs : List Flag) : Type 0 where
  pub banks : HoldsBanks s bodies bytes may (copied_of fs)
  pub flags : AreFlagsOf s.log.numbers s.log.places s.log.flags fs

-- while a target is erased its log is empty, and no flag is set
pub record IsErasing (s : BanksState) (fs : List Flag) : Type 0 where
  pub copies : s.copies ≡ erased_state s.geometry s.banks s.target s.copies.numbers
  pub clear : Each (λ f. f.copied ≡ false) fs

-- the log of the target, in the format that is written
pub record IsCopyLog (s : BanksState) : Type 0 where
  pub state : IsLogState s.copies
  pub format : s.copies.format ≡ new_format

-- the copy in work is of the number at its place in the list, with as many pages left, and copies its settled mark
pub record IsInWork (s : BanksState) (body : List ℕ) (w : Copying) (fs : List Flag) : Type 0 where
  pub head : RecHead
  pub done : ℕ
  pub tail : s.copies.tail ≡ Writes head done
  pub length : ℕ
  pub named : slice_get s.log.numbers w.index ≡ Some (head.number, length)
  pub left : 0 < w.pages
  pub pages : done + w.pages ≡ pages_of_head s.geometry.page head
  pub copies : CopiesOrNot w.sets head body fs
  pub page : IsPageOf s.geometry.page (due_bytes s.copies body)
