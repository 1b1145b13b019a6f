-- All that a device keeps.
use Rattle.std.specs.Prelude.{ℕ, Bool, false, List, [], None}
use Rattle.nv_base.specs.declared.instance.DeviceNumber.{DeviceNumber}
use Rattle.memif.specs.declared.answer.DeviceTurn.{DeviceTurn}
use Rattle.memif.specs.Told.{DeviceTold}
use Rattle.memif.specs.Clock.{Clock}
use Rattle.memif.specs.Calls.{Turns}
use Rattle.memif.specs.declared.answer.JobResult.TheVariants.{JobOk}
use Rattle.fls_model.specs.Told.{Told}
use Rattle.fls_jobs.specs.State.{FlsState}
use Rattle.fee_laws.specs.fee_switch.Banks.{BanksState}
use Rattle.promise_device.specs.Making.{Making}
use Rattle.fee_laws.specs.fee_told.Device.{told_of, clock_of}
use Rattle.fee_laws.specs.fee_told.Turns.{TakesTurn}
use Rattle.fee_laws.specs.Inside.{Parts, device_of, IsSound}
use Rattle.fee_laws.specs.Follows.{Follows}
use Rattle.fee_laws.specs.Wears.{Wears}
use Rattle.fee_laws.specs.Restarts.{Restarts}

-- its parts, and beside them what it keeps of its making and of what is told of these
pub record Whole : Type 0 where
  pub parts : Parts
  pub numbers : List (DeviceNumber × ℕ)
  pub reserve : ℕ
  -- the changing operations, until their last count, and whether a power cut stands
  pub ops : ℕ
  pub off : Bool

-- its parts are sound, its banks follow the bytes of its flash, each of its operations was due, and few switches began again
pub record Sound (m : Making) (entry : Told) (w : Whole) : Type 0 where
  pub parts : IsSound m entry w.parts w.numbers w.reserve w.ops w.off
  pub follows : Follows w.parts
  pub wears : Wears m entry w.parts.operations
  pub restarts : Restarts m w.parts

abbrev pub told_in : Making → Told → Whole → DeviceTold
told_in m entry w = told_of (device_of m entry w.parts)

abbrev pub clock_in : Making → Told → Whole → Clock
clock_in m entry w = clock_of (device_of m entry w.parts)

-- what is kept of a device that has these, and did nothing yet
abbrev pub unstarted : FlsState → BanksState → List (DeviceNumber × ℕ) → ℕ → List ℕ → Whole
unstarted fls banks numbers reserve content = record {
  parts = record { fls = fls; banks = banks; content = content; job = None; last = JobOk; given = 0; starts = 0; started = false; faults = 0; worn = None; operations = [] };
  numbers = numbers;
  reserve = reserve;
  ops = 0;
  off = false;
}

-- it turned as a memory device does, and is sound
pub record TurnedTo (m : Making) (entry : Told) (answer : DeviceTurn) (w v : Whole) : Type 0 where
  pub turns : Turns answer (told_in m entry w) (clock_in m entry w) (told_in m entry v) (clock_in m entry v)
  pub sound : Sound m entry v
  pub takes : TakesTurn answer (device_of m entry w.parts) (device_of m entry v.parts)
