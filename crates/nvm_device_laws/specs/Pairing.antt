-- What a memory device holds, against the state of the block machine.
use Rattle.std.specs.Prelude.{◌≡◌, ◌≢◌, ℕ, List, [], Option, Some, None}
use Rattle.std.specs.List.{Contains}
use Rattle.block_machine.specs.nv_base.Cell.{Cell, MayStand}
use Rattle.block_machine.specs.nv_base.declared.instance.DeviceNumber.{DeviceNumber}
use Rattle.block_machine.specs.nv_base.declared.mark.Mark.{Mark}
use Rattle.block_machine.specs.nv_base.Marks.{instance_of}
use Rattle.block_machine.specs.block_config.Lengths.{lengths_of}
use Rattle.block_machine.specs.block_config.Rules.{IsLegalConfig}
use Rattle.memif.specs.Told.{DeviceTold, Slot, Held, slot_at, figures_at, part_of_block}
use Rattle.memif.specs.Marks.{IsPossible}
use Rattle.block_machine.specs.Words.{Configuration}
use Rattle.block_machine.specs.State.{State, InstanceState}
use Rattle.block_machine.specs.Blocks.{instance_at}
use Rattle.block_machine.specs.History.{MayStandIn}
use Rattle.promise_blocks.specs.Counts.{MayCount}

-- a mark may stand, and its count is due, or one more where a job took a mark since
pub record MayHold (due : ℕ) (cell : Cell) (held : Held) : Type 0 where
  pub mark : MayStand cell held.mark
  pub count : MayCount cell due held.count

-- each mark that a start-up may find may stand, with its count
abbrev pub Allows : ℕ → Cell → Slot → Type 0
Allows due cell slot = (held : Held) → IsPossible slot held → MayHold due cell held

-- what is settled is the same, with the count that is due, and each doubt may stand
pub record Agrees (due : ℕ) (cell : Cell) (slot : Slot) : Type 0 where
  pub settled : slot.settled.mark ≡ cell.settled
  pub count : slot.settled.count ≡ due
  pub doubts : (held : Held) → Contains slot.doubts held → MayHold due cell held

-- a fact on the count that is due, the machine's cell and the device's slot of each configured instance, where the slots are
-- told
abbrev pub Pairs : (ℕ → Cell → Slot → Type 0) → Configuration → State → (ℕ → ℕ) → List (DeviceNumber × ℕ) → Option (List Slot) → Type 0
Pairs P c s due numbers None = ⊥
Pairs P c s due numbers (Some slots) =
    (x : DeviceNumber × ℕ) → Contains (lengths_of c) x → (y : InstanceState)
    × (instance_at s (instance_of x.0) ≡ Some y) × P (due x.0.0) y.cell (slot_at numbers slots x.0.0)

-- a job took a mark for an instance since its last Wrote
abbrev pub HasDoubt : Option InstanceState → Type 0
HasDoubt (Some y) = y.cell.doubts ≢ []
HasDoubt None = ⊥

-- a mark, if there is one, that a job took for the instance of a number may stand there
abbrev pub IsStaged : Configuration → State → ℕ → Option Mark → Type 0
IsStaged c s number None = Unit {0}
IsStaged c s number (Some mark) = (x : DeviceNumber × ℕ) → Contains (lengths_of c) x → x.0.0 ≡ number
    → MayStandIn (instance_at s (instance_of x.0)) mark × HasDoubt (instance_at s (instance_of x.0))

-- a device for a configuration that keeps its rules; all numbers of a block are of one part
pub record IsFor (c : Configuration) (d : DeviceTold) : Type 0 where
  pub rules : IsLegalConfig c
  pub numbers : d.fixed.numbers ≡ lengths_of c
  pub parts : (x : DeviceNumber × ℕ) → Contains (lengths_of c) x → (figures_at d.fixed x.0.0).part ≡ part_of_block d.fixed (instance_of x.0).block
