-- What a turn and a start-up make of the part of a device that is its flash's.
use Rattle.std.specs.Prelude.{◌≡◌, ◌≢◌, ◌⊎◌, ◌≤◌, true, false}
use Rattle.nv_base.specs.Count.{Rose, next_count, last_count}
use Rattle.nv_base.specs.Plan.{dropped}
use Rattle.memif.specs.Calls.{PartTurns, PowersUp}
use Rattle.fls_model.specs.declared.flash.FlashAnswer.{FlashAnswer}
use Rattle.fls_model.specs.declared.flash.FlashAnswer.TheVariants.{Off}
use Rattle.fls_model.specs.Op.{Op}
use Rattle.fls_told.specs.Device.{FlashDevice, asked_ops, flash_part}
use Rattle.fls_told.specs.Clock.{Makes}
use Rattle.fls_told.specs.Runs.{counts_fault}

-- A CHANGING OPERATION
-- while its flash is on; a failure is counted
pub record Counts (op : Op) (answer : FlashAnswer) (d t : FlashDevice) : Type 0 where
  pub makes : Makes op answer d t
  pub on : d.flash.off ≡ false
  pub faults : t.faults ≡ counts_fault answer d.faults
  pub small : d.faults ≤ last_count

abbrev pub PartsWork : Type 0
PartsWork = (op : Op) (answer : FlashAnswer) (d t : FlashDevice) → Counts op answer d t → answer ≢ Off → PartTurns false (asked_ops d) (asked_ops t) (flash_part d) (flash_part t)

abbrev pub PartsCut : Type 0
PartsCut = (op : Op) (d t : FlashDevice) → Counts op Off d t → PartTurns true (asked_ops d) (asked_ops t) (flash_part d) (flash_part t)

-- WITHOUT ONE
-- a read, or nothing: the flash may count a fault, and what the device counts it counted
pub record Reads (d t : FlashDevice) : Type 0 where
  pub flash : t.flash ≡ record d.flash { faults = t.flash.faults }
  pub operations : t.operations ≡ d.operations
  pub more : d.flash.faults ≤ t.flash.faults
  pub faults : ((t.faults ≡ d.faults) ⊎ ((t.faults ≡ next_count d.faults) × Rose d.flash.faults t.flash.faults))
  pub small : d.faults ≤ last_count

abbrev pub PartsRead : Type 0
PartsRead = (d t : FlashDevice) → Reads d t → d.flash.off ≡ false → PartTurns false (asked_ops d) (asked_ops t) (flash_part d) (flash_part t)

-- a start-up turns the power on, which drops a plan, and reads
pub record Powers (d t : FlashDevice) : Type 0 where
  pub off : t.flash.off ≡ false
  pub planning : t.flash.planning ≡ dropped d.flash.planning
  pub operations : t.operations ≡ d.operations
  pub more : d.flash.faults ≤ t.flash.faults
  pub faults : ((t.faults ≡ d.faults) ⊎ ((t.faults ≡ next_count d.faults) × Rose d.flash.faults t.flash.faults))
  pub small : d.faults ≤ last_count

abbrev pub PartsPower : Type 0
PartsPower = (d t : FlashDevice) → Powers d t → PowersUp (flash_part d) (flash_part t)
