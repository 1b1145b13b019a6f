-- What a driver's turns did, one behind another, with requests of others between them.
use Rattle.std.specs.Prelude.{◌≡◌, ◌≤◌, ◌⊎◌, ℕ, zero, suc, List}
use Rattle.driver_moves.specs.memif.Told.{DeviceTold, faults_of}
use Rattle.driver_moves.specs.memif.Clock.{Clock}
use Rattle.driver_moves.specs.memif.Trials.{Lasts}
use Rattle.driver_moves.specs.block_machine.Words.{Entry}
use Rattle.driver_moves.specs.ram_blocks.Told.{Told}
use Rattle.driver_moves.specs.nvm_laws.Keeps.{StaysKept}
use Rattle.driver_moves.specs.nvm_laws.declared.turned.Turned.{Turned}
use Rattle.driver_moves.specs.nvm_laws.declared.turned.Turned.TheVariants as turned
use Rattle.driver_moves.specs.nvm_shared.declared.terms.Terms.{Terms}
use Rattle.driver_moves.specs.nvm_shared.Locked.{desk_with}
use Rattle.driver_moves.specs.nvm_shared.Noted.{PickIsShown}
use Rattle.driver_moves.specs.nvm_laws.Ties.{IsTied}
use Rattle.driver_moves.specs.nvm_core.Work.{TakesTurns}
use Rattle.driver_moves.specs.nvm_shared.Driving.{DriverState, Drives, SeesRequests, TurnsBehind, stack_of}

module _ {D C : Type 0} (told : D → DeviceTold) (clock : D → Clock) (copies : C → List Told)
    (is_store : C → ℕ → ℕ → List ℕ → Type 0) (looked : C → C → ℕ → ℕ → Type 0) (over : C → C → Type 0)
    (stands : C → ℕ → ℕ → List Entry → Type 0) (t : Terms) where
  -- from a list that was seen, with the driver's parts, the promise stays kept to a later one
  abbrev pub StaysKeptOver : (seen seen_new : List Entry) → (old new : DriverState D C) → Type 0
  StaysKeptOver seen seen_new old new =
      StaysKept (desk_with t seen) old.hand (told old.device) (clock old.device) (desk_with t seen_new) new.hand (told new.device) (clock new.device)

  -- a turn, as its contract tells it
  pub record TurnsOn (seen seen_new : List Entry) (old new : DriverState D C) : Type 0 where
    pub answer : Turned
    pub drives : Drives told clock copies t.tells (desk_with t seen) old
    pub turns : TurnsBehind told clock copies is_store looked answer (desk_with t seen) (desk_with t seen_new) old new
    pub keeps : StaysKeptOver seen seen_new old new
    pub tied : IsTied (desk_with t seen_new) new.hand (told new.device)
    pub left : TakesTurns told answer (stack_of (desk_with t seen) old) (stack_of (desk_with t seen_new) new)
    pub counted : faults_of (told old.device) ≤ faults_of (told new.device)
    pub lasts : Lasts (told old.device) (clock old.device) (told new.device) (clock new.device)
    pub stores_stay : (b n : ℕ) (x : List ℕ) → is_store old.copies b n x → is_store new.copies b n x
    pub stays_over : (first : C) → over first old.copies → over first new.copies
    pub shown : answer ≡ turned.Picked → PickIsShown is_store looked over stands t.config seen_new old.copies new.copies

  -- no turn, and requests alone
  pub record SeesOn (seen seen_new : List Entry) (old new : DriverState D C) : Type 0 where
    pub drives : Drives told clock copies t.tells (desk_with t seen) old
    pub sees : SeesRequests told clock (desk_with t seen) (desk_with t seen_new) old
    pub same : new ≡ old
    pub keeps : StaysKeptOver seen seen_new old new

  abbrev pub DrivesOn : (seen seen_new : List Entry) → (old new : DriverState D C) → Type 0
  DrivesOn seen seen_new old new = TurnsOn seen seen_new old new ⊎ SeesOn seen seen_new old new

  -- so many of these, one behind another
  abbrev pub DrivesBy : ℕ → (seen seen_new : List Entry) → (old new : DriverState D C) → Type 0
  DrivesBy zero seen seen_new old new = (seen_new ≡ seen) × (new ≡ old)
  DrivesBy (suc n) seen seen_new old new = (seen_between : List Entry) × (between : DriverState D C) × DrivesBy n seen seen_between old between × DrivesOn seen_between seen_new between new

  -- any number of them
  abbrev pub HasDriven : (seen seen_new : List Entry) → (old new : DriverState D C) → Type 0
  HasDriven seen seen_new old new = (n : ℕ) × DrivesBy n seen seen_new old new

  -- one behind another they are still
  abbrev pub DrivesFollow : Type 0
  DrivesFollow =
      (seen seen_between seen_new : List Entry) (old between new : DriverState D C) → HasDriven seen seen_between old between → HasDriven seen_between seen_new between new
      → HasDriven seen seen_new old new
