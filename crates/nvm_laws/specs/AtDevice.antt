-- What the first half of a turn does to the job in hand and its device.
use Rattle.std.specs.Prelude.{◌≡◌, ◌⊎◌, ℕ, true, false, Option, Some, None, IfSome, Ok}
use Rattle.memif.specs.Told.{DeviceTold, is_open, IfElse}
use Rattle.memif.specs.Calls.{Wish, AcceptsAs, IsCanceled}
use Rattle.nvm_figures.specs.Job.{IsOperation}
use Rattle.nv_desk_copies.specs.nv_desk.Desk.{DeskState}
use Rattle.job_progress.specs.Hand.{HandState, is_finished, with_start}
use Rattle.nvm_laws.specs.Turns.{hand_in}
use Rattle.nvm_laws.specs.declared.turned.Turned.TheVariants as turned
use Rattle.nvm_laws.specs.declared.turned.Act.{Act}
use Rattle.nvm_laws.specs.declared.turned.Act.TheVariants.{Ended, Device}

-- the device took the operation that the job in hand is at
pub record Begins (h : HandState) (old new : DeviceTold) : Type 0 where
  pub wish : Wish
  pub index : ℕ
  pub operation : IsOperation h.program index wish.job
  pub accepts : AcceptsAs wish (Ok tt) old new

-- a job in hand isn't finished, and its operation is open: it was, or it was begun
abbrev pub GoesOn : Option HandState → DeviceTold → Option HandState → DeviceTold → Type 0
GoesOn None old hand new = (hand ≡ None) × (new ≡ old)
GoesOn (Some h) old hand new = (is_finished h.step ≡ false) × (hand ≡ Some (with_start h)) × ((new ≡ old) ⊎ Begins h old new)

-- A Pick takes the machine's job in hand, and cancels what is open; a Post is of a finished job, or with none in
-- hand, and leaves none; else it goes on.
abbrev pub AtDevice : Act → Option HandState → DeviceTold → DeskState → Option HandState → DeviceTold → Type 0
AtDevice (Ended turned.Picked) hand old desk_new hand_new new = (hand_new ≡ hand_in desk_new) × IfElse (is_open old.stand) (IsCanceled old new) (new ≡ old)
AtDevice (Ended turned.Posted) hand old desk_new hand_new new = IfSome hand (λ h. is_finished h.step ≡ true) × (hand_new ≡ None) × (new ≡ old)
AtDevice (Ended answer) hand old desk_new hand_new new = (hand_new ≡ hand) × (new ≡ old)
AtDevice Device hand old desk_new hand_new new = GoesOn hand old hand_new new
