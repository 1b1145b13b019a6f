-- What the driver did beside the callers.
use Rattle.std.specs.Prelude.{◌≡◌, ℕ, true, List}
use Rattle.driver_moves.specs.memif.Told.{DeviceTold}
use Rattle.driver_moves.specs.memif.Clock.{Clock}
use Rattle.driver_moves.specs.block_machine.Words.{Entry}
use Rattle.driver_moves.specs.nvm_device_laws.Turn.{TellsSlots}
use Rattle.driver_moves.specs.ram_blocks.Told.{Told}
use Rattle.turn_gate.specs.declared.pass.View.{View}
use Rattle.driver_moves.specs.nvm_shared.declared.terms.Terms.{Terms}
use Rattle.driver_moves.specs.nvm_shared.Driving.{DriverState}
use Rattle.nvm_callers.specs.Driven.{HasDriven}
use Rattle.nvm_callers.specs.Shares.{Share}
use Rattle.nvm_callers.specs.Joins.{Collects}

-- where the stack was shared as one whose device tells what it holds, each of these devices tells it
abbrev pub TellsAlways : {D : Type 0} → (D → DeviceTold) → Terms → Type 0
TellsAlways {D} told t = t.tells ≡ true → (d : D) → TellsSlots (told d)

-- what the pass took in it keeps
abbrev pub KeepsShares : View Entry Terms → View Entry Terms → Type 0
KeepsShares v w = (shares : List Share) → Collects shares v → Collects shares w

-- the driver made turns, and its pass keeps what it took in, and its parts
pub record HasSteered {D C : Type 0}
    (told : D → DeviceTold) (clock : D → Clock) (copies : C → List Told) (is_store : C → ℕ → ℕ → List ℕ → Type 0)
    (looked : C → C → ℕ → ℕ → Type 0) (over : C → C → Type 0) (stands : C → ℕ → ℕ → List Entry → Type 0)
    (t : Terms) (v w : View Entry Terms) (old new : DriverState D C) : Type 0 where
  pub driven : HasDriven told clock copies is_store looked over stands t v.seen w.seen old new
  pub shares : KeepsShares v w
  pub parts : w.parts ≡ v.parts
