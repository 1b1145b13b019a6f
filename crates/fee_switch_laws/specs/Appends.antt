-- Laws of the appends to the active log, with a switch open beside them or without one.
use Rattle.std.specs.Prelude.{◌≡◌, ◌==◌, ◌≤◌, ℕ, IsTrue, List, length, Some, None, IsSome}
use Rattle.nv_base.specs.Pages.{record_pages_of}
use Rattle.fls_model.specs.declared.flash.FlashAnswer.{FlashAnswer}
use Rattle.fls_model.specs.declared.flash.FlashAnswer.TheVariants.{Done, Off}
use Rattle.fls_model.specs.Op.{MayLeave}
use Rattle.fls_model.specs.Step.{Leaves}
use Rattle.fee_format.specs.declared.rec_head.RecHead.{RecHead}
use Rattle.fee_image.specs.Found.{fits}
use Rattle.fee_image.specs.Sound.{IsSoundImage}
use Rattle.fee_image.specs.Log.{Tail, Writes}
use Rattle.fee_image.specs.May.{May, MayCommit}
use Rattle.fee_image.specs.Banks.{ImageShows}
use Rattle.fee_image.specs.Copies.{Flag, Each, cleared}
use Rattle.fee_image.specs.BankLaws.{TakesAppends}
use Rattle.fee_log.specs.Laws.{MayFollow, may_after}
use Rattle.fee_log.specs.Log.{IsLogState, IsFor, log_of, work_in, free_in}
use Rattle.fee_log.specs.Step.{IsPageOf, due_bytes, op_of, after_step, given_up}
use Rattle.fee_switch.specs.declared.active.ActiveBank.{ActiveBank}
use Rattle.fee_switch_laws.specs.Flags.{IsAppendTo, flags_appended}
use Rattle.fee_switch.specs.Banks.{BanksState, IsBanksState, TakesRecord, append_begun}
use Rattle.fee_switch_laws.specs.Flagged.{HoldsFlags}
use Rattle.fee_switch_laws.specs.Shown.{Bodies, phase_shown, layout_in, HoldsBanks}

-- the active log, whose records are written as its bank says
pub record IsActiveLog (s : BanksState) (a : ActiveBank) : Type 0 where
  pub is : s.active ≡ Some a
  pub state : IsLogState s.log
  pub format : s.log.format ≡ a.head.format

-- the bytes hold the banks, and a record that waits for an owed gate may be committed
pub record HoldsWork (s : BanksState) (bodies : Bodies) (bytes : List ℕ) (may copied : May) : Type 0 where
  pub banks : HoldsBanks s bodies bytes may copied
  pub follows : MayFollow may s.log.tail bodies.append

-- no switch is open, or one that erases or copies
abbrev pub IsTaking : BanksState → Bodies → Type 0
IsTaking s bodies = TakesAppends (phase_shown s.course s bodies.copy)

-- a page is due of the record in work
pub record IsDueNow (s : BanksState) (body : List ℕ) : Type 0 where
  pub work : IsSome (work_in s.log.tail)
  pub page : IsPageOf s.log.geometry.page (due_bytes s.log body)

-- A RECORD BEGINS
-- this record may: its pages are free, and its mark may be found
pub record MayBegin (s : BanksState) (head : RecHead) (body : List ℕ) (may : May) : Type 0 where
  pub taken : TakesRecord head.kind s.course
  pub idle : work_in s.log.tail ≡ None
  pub configured : IsFor s.log.numbers head
  pub room : record_pages_of head.length s.log.geometry.page ≤ free_in s.log
  pub size : length body ≡ head.length
  pub commit : MayCommit may head body

abbrev pub AppendsBegin : Type 0
AppendsBegin =
    (s : BanksState) (bodies : Bodies) (bytes body : List ℕ) (may copied : May) (a : ActiveBank) (head : RecHead)
    → IsBanksState s → IsActiveLog s a → MayBegin s head body may → HoldsWork s bodies bytes may copied
    → HoldsWork (append_begun s head) (record bodies { append = body }) bytes may copied

-- in a switch its number's flag is cleared
abbrev pub AppendsClear : Type 0
AppendsClear =
    (s : BanksState) (bodies : Bodies) (bytes body : List ℕ) (may : May) (fs : List Flag) (a : ActiveBank) (head : RecHead)
    → IsBanksState s → IsActiveLog s a → MayBegin s head body may → MayFollow may s.log.tail bodies.append → HoldsFlags s bodies bytes may fs
    → HoldsFlags (append_begun s head) (record bodies { append = body }) bytes may (cleared head.number.0 fs)

-- ITS PAGES
-- done or failed, the banks are held
abbrev pub AppendsGoOn : Type 0
AppendsGoOn =
    (s : BanksState) (bodies : Bodies) (old new : List ℕ) (may copied : May) (a : ActiveBank) (answer : FlashAnswer)
    → IsBanksState s → IsActiveLog s a → IsTaking s bodies → IsDueNow s bodies.append → HoldsWork s bodies old may copied → (answer ≡ Off → ⊥)
    → MayLeave (op_of s.log bodies.append) old new → Leaves (op_of s.log bodies.append) answer old new
    → HoldsWork (record s { log = after_step s.log answer }) bodies new (may_after s.log bodies.append answer may) copied

-- a start-up on whatever a cut before or within a page leaves finds what may be found, in sound bytes where they were sound
abbrev pub CutAppendsShow : Type 0
CutAppendsShow =
    (s : BanksState) (bodies : Bodies) (old image : List ℕ) (may copied : May) (a : ActiveBank)
    → IsBanksState s → IsActiveLog s a → IsTaking s bodies → IsDueNow s bodies.append → HoldsWork s bodies old may copied
    → MayLeave (op_of s.log bodies.append) old image → ImageShows (layout_in s) image may × (IsSoundImage (layout_in s) old → IsSoundImage (layout_in s) image)

-- it is given up
abbrev pub AppendsGivenUp : Type 0
AppendsGivenUp =
    (s : BanksState) (bodies : Bodies) (bytes body : List ℕ) (may copied : May) (a : ActiveBank)
    → IsBanksState s → IsActiveLog s a → IsTaking s bodies → HoldsWork s bodies bytes may copied
    → HoldsWork (record s { log = given_up s.log }) (record bodies { append = body }) bytes may copied

-- IN A SWITCH
-- a record is one of each flag with its number
abbrev pub FitsFlags : Tail → List Flag → Type 0
FitsFlags (Writes h body done) fs = Each (λ f. IsTrue (f.number == h.number.0) → IsTrue (fits f.number f.length h)) fs
FitsFlags _ fs = Unit {0}

-- its last page settles the mark of its number, whose flag is clear
abbrev pub AppendsSettle : Type 0
AppendsSettle =
    (s : BanksState) (bodies : Bodies) (old new : List ℕ) (may : May) (fs : List Flag) (a : ActiveBank)
    → IsBanksState s → IsActiveLog s a → IsTaking s bodies → IsDueNow s bodies.append
    → let tail = (log_of s.log bodies.append).tail in
    IsAppendTo tail fs → FitsFlags tail fs → MayFollow may s.log.tail bodies.append → HoldsFlags s bodies old may fs
    → MayLeave (op_of s.log bodies.append) old new → Leaves (op_of s.log bodies.append) Done old new
    → HoldsFlags (record s { log = after_step s.log Done }) bodies new (may_after s.log bodies.append Done may) (flags_appended s.geometry.page tail fs)
