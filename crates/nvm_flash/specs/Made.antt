-- A stack over a flash, from its making on.
use Rattle.std.specs.Prelude.{◌≡◌, ◌≢◌, ◌≤◌, ℕ, true, false, List, [], length, None, IfSome}
use Rattle.memif_fee_ea.specs.fee_core.nv_base.Count.{Rose}
use Rattle.memif_fee_ea.specs.fee_core.nv_base.Geometry.{size_of}
use Rattle.memif_fee_ea.specs.fee_core.nv_base.declared.geometry.Geometry.{Geometry}
use Rattle.nvm_core.specs.block_config.Config.{Configuration}
use Rattle.memif_fee_ea.specs.fee_core.memif.Told.{Part, PartTold, DeviceTold, First, Second, no_part, figures_at}
use Rattle.memif_fee_ea.specs.fee_core.memif.Clock.{Clock}
use Rattle.memif_fee_ea.specs.fee_core.fls_model.Told.{Told, Change}
use Rattle.memif_fee_ea.specs.fee_core.fls_model.declared.flash.AttachFault.{AttachFault}
use Rattle.memif_fee_ea.specs.fee_core.fls_model.declared.flash.AttachFault.TheVariants as attach
use Rattle.fls_devices.specs.Cutter.{cutting, told_cutting}
use Rattle.memif_fee_ea.specs.fee_core.promise_device.Making.{Making}
use Rattle.memif_fee_ea.specs.fee_core.promise_device.Reading.{Reading}
use Rattle.memif_fee_ea.specs.fee_core.promise_device.Bridge.{Bridges, reading_of}
use Rattle.memif_fee_ea.specs.fee_core.promise_device.Wear.{OperationsAreDue}
use Rattle.memif_fee_ea.specs.fee_core.promise_device.SwitchErases.{RestartsAreFew}
use Rattle.memif_fee_ea.specs.fee_core.fee_told.Device.{Device, told_of}
use Rattle.memif_fee_ea.specs.fee_core.fee_laws.Made.{IsMadeOf}
use Rattle.nvm_core.specs.ram_blocks.declared.plain_block.PlainBlock.{PlainBlock}
use Rattle.nvm_core.specs.ram_blocks.Plain.{plain_blocks_of}
use Rattle.promise_run.specs.Run.{LeavesAlone, LeavesFlash}
use Rattle.promise_run.specs.Promise.{making_of}
use Rattle.nvm_core.specs.Stack.{StackState, first_stack}
use Rattle.nvm_flash.specs.Turns.{fixed_by}
use Rattle.nvm_flash.specs.declared.device.MakeFault.{MakeFault}
use Rattle.nvm_flash.specs.declared.device.MakeFault.TheVariants.{WrongSize, Flash, InUse, NoSecond, Memory}

-- what a device is made of: this configuration, over a flash that tells this, with so many power cuts that can be planned
pub record IsOrigin (c : Configuration) (inner : Told) (cuts : ℕ) (making : Making) (entry : Told) : Type 0 where
  pub made_for : making ≡ making_of c
  pub over : entry ≡ told_cutting (cutting inner cuts)

-- WITHOUT A START-UP
-- of a flash the faults alone changed, which rose
abbrev pub IsOnlyFaulty : Told → Told → Type 0
IsOnlyFaulty s t = Rose s.faults t.faults × LeavesAlone (record s { faults = t.faults }) t

-- why a device isn't made or started over a flash of this shape: the flash has another size, and is left alone; a fault of the flash; another
-- call has the flash in use; or want of memory
abbrev pub IsFlashCause : Geometry → MakeFault → Told → Told → Type 0
IsFlashCause g (WrongSize found) s t = IfSome s.bytes (λ b. (length b.now ≡ found) × (found ≢ 0) × (found ≢ size_of g)) × LeavesAlone s t
IsFlashCause g Flash s t = Rose s.faults t.faults
IsFlashCause g InUse s t = IsOnlyFaulty s t
IsFlashCause g NoSecond s t = ⊥
IsFlashCause g Memory s t = Unit {0}

-- or a second device is missing
abbrev pub IsCause : Configuration → MakeFault → Told → Told → Type 0
IsCause c NoSecond s t = t ≡ s
IsCause c fault s t = IsFlashCause c.geometry fault s t

-- a second device is said to be missing where the configuration names one, and no other reason is given then
abbrev pub MissesSecond : Configuration → MakeFault → Type 0
MissesSecond c NoSecond = c.eeprom ≢ None
MissesSecond c _ = c.eeprom ≡ None

-- the flash comes back as it was, or attached
pub record ComesBack (c : Configuration) (fault : MakeFault) (s t : Told) : Type 0 where
  pub cause : IsCause c fault s t
  pub second : MissesSecond c fault
  pub flash : LeavesFlash c.geometry (record { entry = s; exit = t; operations = [] })
  pub faults : s.faults ≤ t.faults
  pub cuts : s.cuts ≤ t.cuts

-- a flash comes back likewise
pub record LeavesOne (g : Geometry) (s t : Told) : Type 0 where
  pub flash : LeavesFlash g (record { entry = s; exit = t; operations = [] })
  pub faults : s.faults ≤ t.faults
  pub cuts : s.cuts ≤ t.cuts

-- THE DEVICE IS TAKEN APART

-- What one part told of its flash is so, whatever it makes of the bytes.
pub record IsPartBack (r : Reading) (inner exit : Told) (operations : List Change) (before : PartTold) (now : DeviceTold) (clock : Clock) : Type 0 where
  pub bridges : Bridges r true (record { entry = inner; exit = exit; operations = operations }) before now clock
  pub geometry : exit.geometry ≡ r.geometry
  -- no plan stands in the flash while its power is on
  pub no_plan : exit.off ≡ false → exit.planning.plan ≡ None
  pub faults : exit.faults ≡ now.first.flash_faults
  pub more : inner.faults ≤ exit.faults
  pub none : now.ops ≡ 0 → now.first.planning.unplanned ≡ inner.cuts → (operations ≡ []) × (exit.ops ≡ inner.ops) × (exit.cuts ≡ inner.cuts)

-- What its part told of the flash is so, its operations were due, and few switches began again. Where it asked for no operation, the flash counted none.
pub record IsBackFrom (m : Making) (inner exit : Told) (before : PartTold) (now : DeviceTold) (clock : Clock) : Type 0 where
  pub operations : List Change
  pub bridges : Bridges (reading_of m) true (record { entry = inner; exit = exit; operations = operations }) before now clock
  pub wear : OperationsAreDue m (record { entry = inner; exit = exit; operations = operations })
  pub restarts : RestartsAreFew m operations now
  -- all numbers are of its one part
  pub parts : (n : ℕ) → (figures_at now.fixed n).part ≡ First
  pub geometry : exit.geometry ≡ m.geometry
  -- no plan stands in the flash while its power is on
  pub no_plan : exit.off ≡ false → exit.planning.plan ≡ None
  pub faults : exit.faults ≡ now.first.flash_faults
  pub more : inner.faults ≤ exit.faults
  pub none : now.ops ≡ 0 → now.first.planning.unplanned ≡ inner.cuts → (operations ≡ []) × (exit.ops ≡ inner.ops) × (exit.cuts ≡ inner.cuts)

-- of the device of a configuration over one flash
abbrev pub IsBack : Configuration → (inner exit : Told) → PartTold → DeviceTold → Clock → Type 0
IsBack c = IsBackFrom (making_of c)

-- THE STACK

-- a device of one part
abbrev pub one_part : PartTold → Part → PartTold
one_part p First = p
one_part p Second = no_part

-- all numbers are of its one part
abbrev pub AreOfFirst : Device → Type 0
AreOfFirst d = (n : ℕ) → (figures_at (told_of d).fixed n).part ≡ First

-- a stack before its first start-up has room for the entry of that, and an Off behind it
pub record IsUnstarted {D C : Type 0} (s : StackState D C) : Type 0 where
  pub only : s ≡ first_stack s.desk.config s.desk.cap s.device s.copies
  pub room : 2 ≤ s.desk.cap

-- it is made for a history of at most so many entries, a start-up's and an Off's at least, with these copies of the application's RAM,
-- and has made no start-up
pub record IsMadeWith {C : Type 0} (c : Configuration) (most : ℕ) (making : Making) (entry : Told) (copies : C) (s : StackState Device C) : Type 0 where
  pub device : IsMadeOf making entry s.device
  pub parts : AreOfFirst s.device
  pub fixed : (told_of s.device).fixed ≡ fixed_by c
  pub only : s ≡ first_stack c most s.device copies
  pub room : 2 ≤ most
  pub one_device : c.eeprom ≡ None

-- with the copies that a player has at first
abbrev pub IsMadeStack : Configuration → ℕ → Making → Told → StackState Device (List PlainBlock) → Type 0
IsMadeStack c most making entry s = IsMadeWith c most making entry (plain_blocks_of c) s

-- why the flash isn't attached
abbrev pub fault_of : AttachFault → MakeFault
fault_of attach.Failed = Flash
fault_of attach.InUse = InUse
fault_of (attach.WrongSize found) = WrongSize found
fault_of attach.Memory = Memory
