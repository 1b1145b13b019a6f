-- The changing operations of a device.
use Rattle.std.specs.Prelude.{◌≡◌, ◌++◌, ◌∷◌, [], ℕ, List, length, unwrap_or, IfSome, Result, Ok, Err}
use Rattle.fls_model.specs.Bytes.{piece}
use Rattle.ea_slots.specs.declared.starts.ReadFailed.{ReadFailed}
use Rattle.fls_model.specs.declared.call.Call.{Call}
use Rattle.fls_model.specs.declared.flash.FlashAnswer.{FlashAnswer}
use Rattle.fls_model.specs.Call.{op_of}
use Rattle.fls_model.specs.Op.{Op}
use Rattle.fls_model.specs.Step.{IsStep}
use Rattle.fls_model.specs.Told.{Change, bytes_now}
use Rattle.fls_jobs.specs.CallOf.{closed_as}
use Rattle.fls_jobs.specs.State.{FlsState}
use Rattle.ea_told.specs.fls_told.Clock.{change_of}
use Rattle.fee_format.specs.Pages.{gate_page}
use Rattle.fee_format.specs.RecordPages.{body_page}
use Rattle.ea_image.specs.declared.slot_head.SlotHead.{SlotHead}
use Rattle.ea_image.specs.declared.step.SlotStep.{SlotStep}
use Rattle.ea_image.specs.declared.step.SlotStep.TheVariants.{EraseHead, EraseBody, Body, Head, Gate}
use Rattle.ea_image.specs.SlotHead.{slot_head_page}
use Rattle.ea_slots.specs.Starts.{HasRead, HasFailed}

-- a call of what the driver once was
abbrev pub change_at : List FlsState → Call → FlashAnswer → Change
change_at (f ∷ fs) call answer = record { op = op_of f.flash.geometry call; before = unwrap_or (bytes_now f.flash) []; answer = answer }
change_at [] call answer = record { op = op_of (record { page = 0; sector = 0; sectors = 0 }) call; before = []; answer = answer }

-- an operation was asked for, this was answered, and it is listed
pub record IsListed (op : Op) (fls : FlsState) (operations : List Change) (answer : FlashAnswer) (f : FlsState) (list : List Change) : Type 0 where
  pub step : IsStep op fls.flash answer f.flash
  pub same : f ≡ record fls { flash = f.flash; result = closed_as answer }
  pub listed : list ≡ operations ++ change_of op fls.flash answer ∷ []

-- the page that a step programs
abbrev pub page_of : (page : ℕ) → SlotHead → (content : List ℕ) → SlotStep → (before : List ℕ) → List ℕ
page_of p h content EraseHead before = before
page_of p h content EraseBody before = before
page_of p h content (Body i) before = body_page p content i
page_of p h content Head before = slot_head_page p h
page_of p h content Gate before = gate_page p

-- a sector was read whole, or that failed and was counted
abbrev pub ReadsSector : ℕ → Result (Unit {0}) ReadFailed → FlsState → List ℕ → FlsState → List ℕ → Type 0
ReadsSector address (Ok _) fls before f into = IfSome fls.flash.bytes (λ b. into ≡ piece address (length into) b.now) × HasRead fls f
ReadsSector address (Err _) fls before f into = HasFailed fls f
