-- From the run of a cutter to the run of the flash within it.
use Rattle.std.specs.Prelude.{◌≡◌, ℕ, true, false, List, IfSome}
use Rattle.memif_fee_ea.specs.fee_core.memif.Told.{PartTold}
use Rattle.memif_fee_ea.specs.fee_core.fls_model.Told.{Told, Change, changes_in}
use Rattle.fls_devices.specs.Cutter.{Cutting, cutting, told_cutting, OnlyCuts}
use Rattle.memif_fee_ea.specs.fee_core.promise_device.Reading.{Reading}
use Rattle.memif_fee_ea.specs.fee_core.promise_device.Bridge.{Bridges}
use Rattle.memif_fee_ea.specs.fee_core.promise_device.FlashRun.{FlashRun}
use Rattle.memif_fee_ea.specs.fee_core.fls_told.Device.{FlashDevice, flash_told}
use Rattle.memif_fee_ea.specs.fee_core.fls_told.Clock.{flash_clock}

-- the run of a cutter, from its making on, and that of the flash within it
abbrev pub run_of_cutter : Told → ℕ → Cutting → List Change → FlashRun
run_of_cutter inner cuts c operations = record { entry = told_cutting (cutting inner cuts); exit = told_cutting c; operations = operations }

abbrev pub run_within : Told → Cutting → List Change → FlashRun
run_within inner c operations = record { entry = inner; exit = c.flash.inner; operations = operations }

-- What a device promises of a cutter that it hands back: where the cutter tells its changes they are those that the device
-- asked for.
pub record HandsBack (d : FlashDevice) (c : Cutting) : Type 0 where
  pub told : told_cutting c ≡ d.flash
  pub changes : IfSome (changes_in (told_cutting c).bytes) (λ changes. changes ≡ d.operations)

-- What any device over a flash tells of the cutter is so of the flash within it, but for the operations that the cutter broke
-- off, of each of which the flash saw as many bytes as its cut let be done.
abbrev pub DevicesBridge : Type 0
DevicesBridge =
    (r : Reading) (inner : Told) (cuts : ℕ) (c : Cutting) (d : FlashDevice) (before : PartTold)
    → OnlyCuts c → HandsBack d c → before.planning.unplanned ≡ inner.cuts → before.planning.withheld ≡ 0
    → Bridges r false (run_of_cutter inner cuts c d.operations) before (flash_told d) (flash_clock d)
    → Bridges r true (run_within inner c d.operations) before (flash_told d) (flash_clock d)
