-- A device over the banks of a flash, and what it tells.
use Rattle.std.specs.Prelude.{ℕ, Bool, true, false, if◌then◌else◌, ◌&&◌, List, Option}
use Rattle.memif.specs.Told.{Slot, Figures, Fixed, DeviceTold}
use Rattle.memif.specs.Clock.{Clock}
use Rattle.fls_model.specs.Told.{Told, Change}
use Rattle.fee_image.specs.Image.{Layout}
use Rattle.fee_image.specs.Banks.{Phase, Idle}
use Rattle.promise_device.specs.Making.{Making, banks_of}
use Rattle.promise_device.specs.Bridge.{reading_of}
use Rattle.fls_told.specs.Device.{FlashDevice, tells_held, tells_now as flash_tells_now, slots_now, flash_told}
use Rattle.fls_told.specs.Clock.{flash_clock}
use Rattle.fee_told.specs.Slots.{Memory, slots_held, slots_found}

-- What a device knows, with what its flash tells.
pub record Device : Type 0 where
  pub making : Making
  -- the figures of its numbers, and the most turns of a switch
  pub figures : List Figures
  pub own : ℕ
  -- what its flash told when it was made, and what it tells now
  pub entry : Told
  pub flash : Told
  -- the changing operations that it asked for since, each with the bytes before it and its answer
  pub operations : List Change
  -- the flash calls that failed
  pub faults : ℕ
  -- from when on it is worn out, if it is
  pub worn : Option ℕ
  -- how often it was started up; the last start-up answered Ok, and the rest of its memory is of use
  pub starts : ℕ
  pub started : Bool
  pub memory : Memory
  -- the turns of its work, and how an urgent write stands
  pub left : ℕ
  pub ready : ℕ
  pub wait : Option ℕ

abbrev pub layout_in : Device → Layout
layout_in d = banks_of d.making

abbrev pub slots_in : Device → List ℕ → List Slot
slots_in d bytes = if d.started then slots_held (layout_in d) d.making.numbers bytes d.memory else slots_found (layout_in d) d.making.numbers bytes

abbrev pub fixed_of : Device → Fixed
fixed_of d = record { numbers = d.making.numbers; figures = d.figures; reserve = d.making.reserve; own = d.own; two = false }

abbrev pub is_switching : Phase → Bool
is_switching Idle = false
is_switching _ = true

-- as a device over any flash
abbrev pub flash_device : Device → FlashDevice
flash_device d = record {
  reading = reading_of d.making;
  fixed = fixed_of d;
  entry = d.entry;
  flash = d.flash;
  operations = d.operations;
  faults = d.faults;
  worn = λ n. d.worn;
  started = d.started;
  slots = slots_in d;
  stand = d.memory.stand;
  switching = d.started && is_switching d.memory.phase;
  starts = d.starts;
  left = d.left;
  ready = d.ready;
  wait = d.wait;
}

-- WHAT IT TELLS
-- what its numbers hold, from a sound image on; and before its first operation from any
abbrev pub tells : Device → Bool
tells d = tells_held (flash_device d)

abbrev pub tells_now : Device → Bool
tells_now d = flash_tells_now (flash_device d)

abbrev pub slots_told : Device → Option (List Slot)
slots_told d = slots_now (flash_device d)

abbrev pub told_of : Device → DeviceTold
told_of d = flash_told (flash_device d)

abbrev pub clock_of : Device → Clock
clock_of d = flash_clock (flash_device d)
