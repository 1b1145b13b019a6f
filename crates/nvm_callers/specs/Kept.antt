-- What any number of a driver's turns keeps.
use Rattle.std.specs.Prelude.{ℕ, List}
use Rattle.driver_moves.specs.memif.Told.{DeviceTold}
use Rattle.driver_moves.specs.memif.Clock.{Clock}
use Rattle.driver_moves.specs.memif.Trials.{Lasts}
use Rattle.driver_moves.specs.block_machine.Words.{Entry}
use Rattle.driver_moves.specs.ram_blocks.Told.{Told}
use Rattle.driver_moves.specs.nv_desk_copies.Front.{AreSynchronized}
use Rattle.driver_moves.specs.nvm_shared.declared.terms.Terms.{Terms}
use Rattle.driver_moves.specs.nvm_shared.Driving.{DriverState}
use Rattle.nvm_callers.specs.Driven.{HasDriven, StaysKeptOver}

module _ {D C : Type 0} (told : D → DeviceTold) (clock : D → Clock) (copies : C → List Told)
    (is_store : C → ℕ → ℕ → List ℕ → Type 0) (looked : C → C → ℕ → ℕ → Type 0) (over : C → C → Type 0)
    (stands : C → ℕ → ℕ → List Entry → Type 0) (t : Terms) where
  -- The promise stays kept, as far as the device tells what it holds; no count of the device falls; and of the application's copies
  -- stay which blocks they are of, each store that was, and what they are over.
  pub record HasKept (seen seen_new : List Entry) (old new : DriverState D C) : Type 0 where
    pub keeps : StaysKeptOver told clock copies is_store looked over stands t seen seen_new old new
    pub lasts : Lasts (told old.device) (clock old.device) (told new.device) (clock new.device)
    pub synchronized : AreSynchronized t.config (copies old.copies) → AreSynchronized t.config (copies new.copies)
    pub stores_stay : (b n : ℕ) (x : List ℕ) → is_store old.copies b n x → is_store new.copies b n x
    pub stays_over : (first : C) → over first old.copies → over first new.copies

  abbrev pub DrivingKeeps : Type 0
  DrivingKeeps =
      (seen seen_new : List Entry) (old new : DriverState D C) → HasDriven told clock copies is_store looked over stands t seen seen_new old new
      → HasKept seen seen_new old new
