-- The two halves of the promise: what is said over any device, and what ties the device to its flash.
use Rattle.std.specs.Prelude.{◌≡◌, ◌⊎◌, ◌≤◌, ℕ, true, None}
use Rattle.block_machine.specs.nv_base.Count.{last_count}
use Rattle.memif.specs.Told.{Part, PartTold, DeviceTold, First}
use Rattle.memif.specs.Clock.{Clock}
use Rattle.promise_blocks.specs.OverDevice.{KeepsOver, KeepsEarly, is_of}
use Rattle.promise_device.specs.FlashRun.{TellsBytes}
use Rattle.promise_device.specs.Bridge.{Bridges, reading_of, cuts_of}
use Rattle.promise_device.specs.Wear.{OperationsAreDue}
use Rattle.promise_run.specs.Run.{Run, HasOrder, has_cutter, CutsExplain}
use Rattle.promise_run.specs.Refusals.{RefusesAsAsked}
use Rattle.promise_run.specs.Promise.{Promise, BeginsWell, making_of}

-- what the stack promises of a run over any device of one part, as it is told before the first start-up and at the end
pub record BlockHalf (r : Run) (before : Part → PartTold) (now : DeviceTold) (clock : Clock) : Type 0 where
  pub alone : r.beside ≡ None
  pub order : HasOrder r r.history
  pub over : KeepsOver r.configuration r.most r.history before now clock
  pub refusals : (id : ℕ) → RefusesAsAsked r.configuration r.course r.history id
  pub off : CutsExplain r.course r.history r.cuts (before First).planning.unplanned now.first.planning.unplanned
  -- the planned cuts that came are those that it tells
  pub came : cuts_of (has_cutter r.course) now ≡ r.cuts
  -- each block is of its one part
  pub one : (block : ℕ) → is_of First now.fixed block ≡ true

-- what its device over the run's flash promises
abbrev pub DeviceHalf : Run → PartTold → DeviceTold → Clock → Type 0
DeviceHalf r before now clock = Bridges (reading_of (making_of r.configuration)) (has_cutter r.course) r.flash before now clock

-- what is told of where the power went off; past the end of the count it may have gone off in any operation
abbrev pub beyond_end : Clock → Clock
beyond_end clock = record clock { off_in = λ k. (last_count ≤ k) ⊎ clock.off_in k }

-- until the first operation, over a flash that tells its bytes
abbrev pub EarlyMakesIt : Clock → Type 0
EarlyMakesIt clock =
    (r : Run) (before : PartTold) (now : DeviceTold) → KeepsEarly r.configuration r.most r.history clock → DeviceHalf r before now (beyond_end clock) → TellsBytes r.flash → BeginsWell r

-- both halves make the promise, where the device's erases are due
abbrev pub HalvesMakeIt : Clock → Type 0
HalvesMakeIt clock =
    (r : Run) (before : Part → PartTold) (now : DeviceTold)
    → BlockHalf r before now clock → DeviceHalf r (before First) now (beyond_end clock) → OperationsAreDue (making_of r.configuration) r.flash
    → Promise r
