-- What the banks in memory keep of the bytes of their flash, whatever these were when the device was made.
use Rattle.std.specs.Prelude.{◌≡◌, ◌⊎◌, ◌<◌, ◌*◌, ◌&&◌, ℕ, suc, Bool, true, false, IsTrue, List, Option, Some, None, IfSome}
use Rattle.nv_base.specs.Geometry.{pages_of_sector}
use Rattle.fls_model.specs.Told.{Change}
use Rattle.fee_format.specs.Formats.{new_format}
use Rattle.fee_format.specs.declared.bank_head.BankHead.{BankHead}
use Rattle.fee_format.specs.BankHead.{bank_head_page}
use Rattle.fee_format.specs.Pages.{blank_page}
use Rattle.fee_image.specs.Image.{image_page, BankStands, ComesFirst, active_of}
use Rattle.fee_image.specs.Places.{places_of}
use Rattle.fee_image.specs.RecordList.{IsClosed, records_of, end_of}
use Rattle.fee_image.specs.May.{May}
use Rattle.fee_image.specs.Banks.{AreBlank}
use Rattle.fee_image.specs.Laws.{place_of_sector}
use Rattle.fee_switch_laws.specs.fee_log.Index.{clear_flags}
use Rattle.fee_switch_laws.specs.fee_log.Laws.{HoldsState}
use Rattle.fee_switch_laws.specs.fee_log.Log.{LogState, bank_of, work_in, is_closed}
use Rattle.fee_switch_laws.specs.fee_switch.declared.active.ActiveBank.{ActiveBank}
use Rattle.fee_switch_laws.specs.fee_switch.Active.{active_shown}
use Rattle.fee_course.specs.declared.course.Course.{Course}
use Rattle.fee_course.specs.declared.course.Course.TheVariants.{Erase, Copy, Head, Gate}
use Rattle.fee_switch_laws.specs.fee_switch.Banks.{BanksState, next_generation}
use Rattle.fee_switch_laws.specs.fee_switch.declared.target.Stage.TheVariants as stage
use Rattle.fee_switch_laws.specs.Shown.{layout_in}
use Rattle.promise_device.specs.Bridge.{may_be_closed}
use Rattle.promise_device.specs.Wear.{failed_in, is_repeated, is_in_order, comes_behind}
use Rattle.fee_laws.specs.Inside.{Parts, body_of}
use Rattle.fee_laws.specs.Switches.{op_in}

-- any mark may be found
abbrev pub anything : May
anything number length = None

-- THE ACTIVE LOG
-- a program of its bank failed since that was erased
abbrev pub failed_of : LogState → List Change → Bool
failed_of log operations = failed_in log.geometry log.banks log.bank false operations

-- that may have closed it; where no switch is open it failed since the last erase of any bank
abbrev pub may_be_closed_beside : Option Course → LogState → List Change → Bool
may_be_closed_beside None log operations = may_be_closed operations && failed_of log operations
may_be_closed_beside (Some c) log operations = failed_of log operations

-- where it is closed in memory its bank is closed in the bytes, or such a program failed
abbrev pub IsClosedFor : Option Course → LogState → List Change → List ℕ → Type 0
IsClosedFor course log operations bytes = is_closed log.tail ≡ true → (let b = bank_of log in IsClosed b bytes (end_of b bytes)) ⊎ IsTrue (may_be_closed_beside course log operations)

-- each number's place is that of its last record in the bank, or such a program failed
abbrev pub IsPlacedFor : Option Course → LogState → List Change → List ℕ → Type 0
IsPlacedFor course log operations bytes = IsTrue (may_be_closed_beside course log operations) ⊎ (log.places ≡ places_of log.numbers (records_of (bank_of log) bytes))

-- its bank holds it, whatever marks that shows
pub record FollowsLog (course : Option Course) (log : LogState) (body : List ℕ) (operations : List Change) (bytes : List ℕ) : Type 0 where
  pub holds : HoldsState log body bytes anything
  pub closed : IsClosedFor course log operations bytes
  pub placed : IsPlacedFor course log operations bytes

-- THE BANKS
-- a bank that stands beside the active one comes behind it; where none is active none stands
abbrev pub ComesBehind : Option ActiveBank → ℕ → BankHead → Type 0
ComesBehind None j other = ⊥
ComesBehind (Some a) j other = (j ≡ a.bank → ⊥) → ComesFirst a.bank a.head j other

-- the active bank stands, and every other one but the target is behind it
pub record StandsFirst (s : BanksState) (bytes : List ℕ) : Type 0 where
  pub stands : IfSome s.active (λ a. BankStands (layout_in s) bytes a.bank a.head)
  pub behind : (j : ℕ) (other : BankHead) → j < s.banks → (j ≡ s.target → ⊥) → BankStands (layout_in s) bytes j other → ComesBehind s.active j other

abbrev pub target_head : BanksState → BankHead
target_head s = record { format = new_format; generation = next_generation s.active }

-- the target's bank holds its log, in which no program failed
pub record FollowsCopies (s : BanksState) (bytes : List ℕ) : Type 0 where
  pub holds : HoldsState s.copies (body_of (work_in s.copies.tail) s.buffer) bytes anything
  pub placed : s.copies.places ≡ places_of s.copies.numbers (records_of (bank_of s.copies) bytes)

-- the target, as far as the switch has come: so many of its pages are blank, and no number is copied; copies behind a blank head and
-- gate; its head
abbrev pub FollowsTarget : BanksState → Course → List ℕ → Type 0
FollowsTarget s (Erase done) bytes = AreBlank (layout_in s) bytes s.target (done * pages_of_sector s.geometry) × (s.log.flags ≡ clear_flags s.log.numbers)
FollowsTarget s (Copy work) bytes = AreBlank (layout_in s) bytes s.target 2 × FollowsCopies s bytes
FollowsTarget s Head bytes = AreBlank (layout_in s) bytes s.target 2 × FollowsCopies s bytes
FollowsTarget s (Gate failed) bytes = (image_page (layout_in s) bytes s.target 0 ≡ bank_head_page s.geometry.page (target_head s)) × FollowsCopies s bytes

-- with no switch open the active bank is the one that the bytes show
abbrev pub FollowsBanks : BanksState → Option Course → List ℕ → Type 0
FollowsBanks s None bytes = active_shown s.active ≡ active_of (layout_in s) bytes
FollowsBanks s (Some c) bytes = StandsFirst s bytes × FollowsTarget s c bytes

-- THE NEXT OPERATION
-- Of a switch's next operation: an erase behind the first comes in its turn, the gate comes behind the head, over a blank page, and is
-- made again behind itself, which failed.
abbrev pub FollowsNext : BanksState → Course → List Change → List ℕ → Type 0
FollowsNext s (Erase (suc done)) operations bytes = IsTrue (is_in_order s.geometry s.banks operations (place_of_sector s.geometry s.banks s.target (suc done)) s.geometry.sector)
FollowsNext s (Gate true) operations bytes = IsTrue (is_repeated s.geometry s.banks operations (op_in s stage.Gate)) × IsTrue (comes_behind s.geometry (op_in s stage.Gate) operations)
FollowsNext s (Gate false) operations bytes = (image_page (layout_in s) bytes s.target 1 ≡ blank_page s.geometry.page) × IsTrue (comes_behind s.geometry (op_in s stage.Gate) operations)
FollowsNext s c operations bytes = Unit {0}

-- this is the content of the record in work
pub record FollowsBytes (s : BanksState) (content : List ℕ) (operations : List Change) (bytes : List ℕ) : Type 0 where
  pub log : IfSome s.active (λ a. FollowsLog s.course s.log (body_of (work_in s.log.tail) content) operations bytes)
  pub banks : FollowsBanks s s.course bytes
  pub next : IfSome s.course (λ c. FollowsNext s c operations bytes)

-- THE DEVICE
-- while it is started and its power is on, its banks follow the bytes of its flash, where these are told
abbrev pub Follows : Parts → Type 0
Follows s = s.started ≡ true → s.fls.flash.off ≡ false → IfSome s.fls.flash.bytes (λ b. FollowsBytes s.banks s.content s.operations b.now)
