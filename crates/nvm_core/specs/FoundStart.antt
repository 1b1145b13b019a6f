-- What a start-up of a stack adds and keeps.
use Rattle.std.specs.Prelude.{◌≡◌, ◌⊎◌, ◌++◌, ◌∷◌, [], List, Result, Ok, Err}
use Rattle.nvm_laws.specs.nv_base.declared.mark.Mark.{Mark}
use Rattle.nvm_laws.specs.memif.Told.{DeviceTold, ops_of, Part, PartTold}
use Rattle.nvm_laws.specs.memif.Clock.{Clock}
use Rattle.nvm_laws.specs.block_machine.Words.{Instance, Found}
use Rattle.nvm_laws.specs.promise_blocks.OverDevice.{HasStarted}
use Rattle.nvm_laws.specs.nvm_device_laws.Turn.{Keeps, TellsSlots, down}
use Rattle.nvm_laws.specs.nv_desk.Desk.{DeskState}
use Rattle.nvm_found.specs.Found.{Finds}

-- its one entry lists what was found, at the operations of its moment
pub record IsListed (old new : DeskState) (device device_new : DeviceTold) : Type 0 where
  pub marks : List (Instance × Mark)
  pub finds : Finds marks device device_new
  pub entry : new ≡ record old { entries = old.entries ++ Found marks (ops_of device_new) ∷ [] }

-- Where the device tells what it holds, then too, the desk's history keeps all, the first start-up before any operation; at a fault
-- until a start-up answers Ok.
abbrev pub StartKeeps : {T E : Type 0} → Result T E → DeskState → DeskState → DeviceTold → Clock → DeviceTold → Clock → Type 0
StartKeeps (Ok _) old new device clock device_new clock_new =
    (before : Part → PartTold) → TellsSlots device_new → HasStarted old.entries ⊎ (device_new.ops ≡ 0)
    → Keeps old.config old.cap old.entries before (down device) clock → Keeps new.config new.cap new.entries before device_new clock_new
StartKeeps (Err fault) old new device clock device_new clock_new =
    (before : Part → PartTold) → Keeps old.config old.cap old.entries before (down device) clock
    → TellsSlots device_new → Keeps new.config new.cap new.entries before (down device_new) clock_new
