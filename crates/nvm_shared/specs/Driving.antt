-- The driver between its turns, and in them.
use Rattle.std.specs.Prelude.{◌≡◌, ◌⊎◌, ℕ, Bool, true, false, List, Option, None, IfSome}
use Rattle.nvm_core.specs.nv_base.Count.{Rose}
use Rattle.nvm_core.specs.memif.Told.{DeviceTold, Part, PartTold, nothing_open, ops_of}
use Rattle.nvm_core.specs.memif.Clock.{Clock, SameClock}
use Rattle.nvm_core.specs.memif.Calls.{FreesReady, InOrder, RoomIsLeft, Turns}
use Rattle.nvm_core.specs.memif.declared.answer.DeviceTurn.{DeviceTurn}
use Rattle.nvm_core.specs.block_machine.Words.{Entry}
use Rattle.nvm_core.specs.ram_blocks.Told.{Told}
use Rattle.nvm_core.specs.nv_desk.Desk.{DeskState, state_of}
use Rattle.nvm_core.specs.nv_desk_copies.Front.{AreSynchronized}
use Rattle.nvm_core.specs.job_progress.Hand.{HandState}
use Rattle.nvm_core.specs.nvm_laws.Ties.{IsTied}
use Rattle.nvm_core.specs.nvm_laws.Turns.{AddsBy, hand_by}
use Rattle.nvm_core.specs.nvm_laws.Keeps.{StackKeepsAsTold, StaysKept}
use Rattle.nvm_core.specs.nvm_laws.declared.turned.Act.{Act}
use Rattle.nvm_core.specs.nvm_laws.declared.turned.Act.TheVariants.{Ended, Device}
use Rattle.nvm_core.specs.nvm_laws.declared.turned.Turned.{Turned}
use Rattle.nvm_core.specs.nvm_laws.declared.turned.Turned.TheVariants as turned
use Rattle.nvm_core.specs.nvm_laws.Due.{IsDue, IsDueInHand, IsNearer, PostsDue}
use Rattle.nvm_core.specs.nvm_laws.DueLaws.{AreReplied, IsServed, NextIsPending}
use Rattle.nvm_core.specs.nvm_laws.DueCalls.{IsCalmTurn}
use Rattle.nvm_core.specs.nvm_device_laws.Cuts.{CutsInATurnKeep}
use Rattle.nvm_core.specs.nvm_laws.Calls.{DeviceTurnsKeep}
use Rattle.nvm_core.specs.BehindDevice.{TurnsDevice, asked_by}
pub use Rattle.nvm_core.specs.declared.driver.Driver.{Driver as DriverState}
pub use Rattle.nvm_core.specs.Stack.{driver_of, stack_of}
use Rattle.nvm_core.specs.Turns.{IsFirstHalf}
use Rattle.nvm_core.specs.Due.{now_of}
use Rattle.nvm_core.specs.Work.{LowersWork}
use Rattle.turn_gate.specs.Pass.{knows}
use Rattle.nvm_shared.specs.Behind.{AreAsks, AsksStandBehind, HandIsPending, with_more}
use Rattle.nvm_shared.specs.Locked.{desk_with}
use Rattle.nvm_shared.specs.Passes.{PassValue, SharedState, IsUserOf}

module _ {D C : Type 0} (told : D → DeviceTold) (clock : D → Clock) (copies : C → List Told) where
  -- The parts are tied to a desk, and where it was picked that the device tells what it holds, the promise is kept, as far as it
  -- tells that now.
  pub record Drives (tells : Bool) (desk : DeskState) (s : DriverState D C) : Type 0 where
    pub tied : IsTied desk s.hand (told s.device)
    pub pending : HandIsPending (state_of desk)
    pub next : NextIsPending desk.config (state_of desk)
    pub synchronized : AreSynchronized desk.config (copies s.copies)
    pub kept : tells ≡ true → (before : Part → PartTold) × StackKeepsAsTold before desk s.hand (told s.device) (clock s.device)

  -- The pass of this stack that has the mark, with the parts that are tied to what it has seen.
  pub record IsDriverOf (shared : SharedState) (pass : PassValue) (s : DriverState D C) : Type 0 where
    pub own : IsUserOf shared pass
    pub mark : (knows pass).mark ≡ true
    pub drives : Drives shared.terms.tells (desk_with shared.terms (knows pass).seen) s

-- What a look at the device tells: it is in order, what is free is ready for urgent writes, and a job that has room takes no more
-- turns than its pages.
pub record TellsReady (d : DeviceTold) (clock : Clock) : Type 0 where
  pub order : InOrder d clock
  pub frees : FreesReady d clock
  pub room : RoomIsLeft d clock

-- What was seen since is requests, each with the machine's reply, while the driver stood beside its device.
pub record SeesRequests {D C : Type 0} (told : D → DeviceTold) (clock : D → Clock) (desk desk_new : DeskState) (s : DriverState D C) : Type 0 where
  pub asks : List Entry
  pub are : AreAsks asks
  pub replied : AreReplied desk.config desk.cap (state_of desk) asks
  pub grows : desk_new ≡ with_more desk asks
  pub ready : TellsReady (told s.device) (clock s.device)

-- the first half of a turn, behind requests of others
pub record BeginsTurn {D C : Type 0} (told : D → DeviceTold) (clock : D → Clock) (copies : C → List Told) (is_store : C → ℕ → ℕ → List ℕ → Type 0)
    (looked : C → C → ℕ → ℕ → Type 0) (act : Act) (desk desk_new : DeskState) (old new : DriverState D C) : Type 0 where
  pub asks : List Entry
  pub are : AreAsks asks
  -- each has the machine's reply, and leaves tied what is tied
  pub replied : AreReplied desk.config desk.cap (state_of desk) asks
  pub tied : IsTied (with_more desk asks) old.hand (told old.device)
  pub ready : TellsReady (told old.device) (clock old.device)
  pub clock_stays : SameClock (clock old.device) (clock new.device)
  pub order : InOrder (told new.device) (clock new.device)
  pub half : IsFirstHalf told copies is_store looked act (stack_of (with_more desk asks) old) (stack_of desk_new new)
  -- what is kept stays so through these requests, and behind them
  pub stands : StaysKept desk old.hand (told old.device) (clock old.device) (with_more desk asks) old.hand (told old.device) (clock old.device)
  pub kept : StaysKept (with_more desk asks) old.hand (told old.device) (clock old.device) desk_new new.hand (told new.device) (clock new.device)
  -- with the power off it is told so
  pub off : act ≡ Ended turned.Off → (state_of desk_new).off ≡ true
  -- what is due behind these requests is served
  pub served : (number turns : ℕ) → IsDue number turns (now_of told (stack_of (with_more desk asks) old))
      → IsServed act number turns (now_of told (stack_of (with_more desk asks) old)) (now_of told (stack_of desk_new new))

-- the device's own turn: what it keeps with any desk that its parts are tied to, that each cut within it leaves only marks which
-- such a desk's state allows, and that requests may have come before it
pub record IsTurned {D C : Type 0} (told : D → DeviceTold) (clock : D → Clock) (answer : DeviceTurn) (old new : DriverState D C) : Type 0 where
  pub turns : Turns answer (told old.device) (clock old.device) (told new.device) (clock new.device)
  pub keeps : DeviceTurnsKeep answer (told old.device) (clock old.device) (told new.device) (clock new.device)
  pub cuts : CutsInATurnKeep (told old.device) (clock old.device) (told new.device) (clock new.device)
  pub stand : AsksStandBehind (told old.device) (clock old.device)
  pub ready : TellsReady (told old.device) (clock old.device)
  pub only : new ≡ record old { device = new.device }

-- the second half is due: the device made its turn, at the operation of the job in hand, if one is in hand, with parts that are
-- tied to a desk whose power is on
pub record MayEnd {D C : Type 0} (told : D → DeviceTold) (clock : D → Clock) (copies : C → List Told) (tells : Bool)
    (answer : DeviceTurn) (desk : DeskState) (before now : DriverState D C) : Type 0 where
  pub drives : Drives told clock copies tells desk before
  pub on : (state_of desk).off ≡ false
  pub started : IfSome before.hand (λ h. h.started ≡ true)
  pub turned : IsTurned told clock answer before now

-- the device's turn with the second half, behind requests of others
pub record EndsTurn {D C : Type 0} (told : D → DeviceTold) (clock : D → Clock) (answer : Turned) (desk desk_new : DeskState) (before new : DriverState D C) : Type 0 where
  pub asks : List Entry
  pub are : AreAsks asks
  pub replied : AreReplied desk.config desk.cap (state_of desk) asks
  pub tied : IsTied (with_more desk asks) before.hand (told before.device)
  pub ready : TellsReady (told before.device) (clock before.device)
  pub turns : TurnsDevice answer (told before.device) (clock before.device) (told new.device) (clock new.device)
  pub adds : AddsBy (asked_by answer (told before.device).stand (told new.device).stand (ops_of (told new.device))) (with_more desk asks) desk_new
  pub hand : new.hand ≡ hand_by (told before.device).stand (told new.device).stand before.hand
  pub copies : new.copies ≡ before.copies
  pub keeps : StaysKept desk before.hand (told before.device) (clock before.device) desk_new new.hand (told new.device) (clock new.device)
  -- through these requests, and behind them
  pub stands : StaysKept desk before.hand (told before.device) (clock before.device) (with_more desk asks) before.hand (told before.device) (clock before.device)
  pub kept : StaysKept (with_more desk asks) before.hand (told before.device) (clock before.device) desk_new new.hand (told new.device) (clock new.device)
  -- the work of a drain falls, where the job in hand is at the device
  pub lowers : answer ≡ turned.Worked → IfSome before.hand (λ h. h.started ≡ true) → LowersWork told (stack_of desk before) (stack_of desk_new new)
  -- and what is due in hand behind these requests comes nearer
  pub nearer : (number turns : ℕ) → IfSome before.hand (λ h. h.started ≡ true) → nothing_open (told before.device) ≡ false
      → ¬ Rose (told before.device).first.faults (told new.device).first.faults → (state_of desk_new).off ≡ false
      → IsDueInHand number turns (now_of told (stack_of (with_more desk asks) before)) → IsNearer number turns (now_of told (stack_of desk_new new))

-- A turn is its first half alone, or behind one that adds nothing the device's turn, whose cuts leave only marks that the state
-- then allows, with the second half; requests of others come before each half.
abbrev pub TurnsBehind : {D C : Type 0} → (told : D → DeviceTold) → (clock : D → Clock) → (copies : C → List Told)
    → (is_store : C → ℕ → ℕ → List ℕ → Type 0) → (looked : C → C → ℕ → ℕ → Type 0)
    → Turned → (desk desk_new : DeskState) → (old new : DriverState D C) → Type 0
TurnsBehind {D} {C} told clock copies is_store looked answer desk desk_new old new =
    BeginsTurn told clock copies is_store looked (Ended answer) desk desk_new old new
    ⊎ ((desk_between : DeskState) × (between : DriverState D C) × BeginsTurn told clock copies is_store looked Device desk desk_between old between
    × CutsInATurnKeep (told between.device) (clock between.device) (told new.device) (clock new.device) × EndsTurn told clock answer desk_between desk_new between new)

-- In a whole turn in which no fault of the first part is counted and the power stays on, what is due is posted behind requests of
-- others, or comes a turn nearer.
abbrev pub ServesDue : {D C : Type 0} → (told : D → DeviceTold) → (desk desk_new : DeskState) → (old new : DriverState D C) → Type 0
ServesDue told desk desk_new old new =
    (number turns : ℕ) → IsCalmTurn (now_of told (stack_of desk old)) (now_of told (stack_of desk_new new)) → IsDue number turns (now_of told (stack_of desk old))
    → ((asks : List Entry) × AreAsks asks × PostsDue number (with_more desk asks) desk_new) ⊎ IsNearer number turns (now_of told (stack_of desk_new new))

-- No turn need follow it: it had nothing to do, the power is off, or it worked with no job in hand.
abbrev pub NeedsNoMore : Turned → Option HandState → Type 0
NeedsNoMore turned.Idle hand = Unit {0}
NeedsNoMore turned.Off hand = Unit {0}
NeedsNoMore turned.Worked hand = hand ≡ None
NeedsNoMore answer hand = ⊥
