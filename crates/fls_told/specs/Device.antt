-- A memory device over a flash, whatever it keeps on it, and what it tells of its numbers.
use Rattle.std.specs.Prelude.{◌==◌, ◌&&◌, ◌||◌, ℕ, min, Bool, false, if◌then◌else◌, List, length, Option, Some, None, is_some, option_map}
use Rattle.nv_base.specs.Count.{last_count}
use Rattle.memif.specs.Told.{Slot, Fixed, Stand, PartTold, DeviceTold, no_part, slot_at}
use Rattle.fls_model.specs.Told.{Told, Change, bytes_now}
use Rattle.promise_device.specs.FlashRun.{FlashRun}
use Rattle.promise_device.specs.Reading.{Reading}

-- What a device knows, with what its flash tells.
pub record FlashDevice : Type 0 where
  pub reading : Reading
  pub fixed : Fixed
  -- what its flash told when it was made, and what it tells now
  pub entry : Told
  pub flash : Told
  -- the changing operations that it asked for since, each with the bytes before it and its answer
  pub operations : List Change
  -- the flash calls that failed
  pub faults : ℕ
  -- from when on it is worn out for a number, if it is
  pub worn : ℕ → Option ℕ
  -- how often it was started up; the last start-up answered Ok
  pub starts : ℕ
  pub started : Bool
  -- what its numbers hold where its flash has these bytes
  pub slots : List ℕ → List Slot
  pub stand : Stand
  pub switching : Bool
  -- the turns of its work, and how an urgent write stands
  pub left : ℕ
  pub ready : ℕ
  pub wait : Option ℕ

abbrev pub flash_run : FlashDevice → FlashRun
flash_run d = record { entry = d.entry; exit = d.flash; operations = d.operations }

-- an image is told, and sound
abbrev pub is_told_sound : Reading → Option (List ℕ) → Bool
is_told_sound r None = false
is_told_sound r (Some image) = r.is_sound image

-- it tells what its numbers hold where its flash told its bytes, and the image was sound, when it was made
abbrev pub tells_held : FlashDevice → Bool
tells_held d = is_told_sound d.reading (bytes_now d.entry)

-- its flash told its bytes when it was made
abbrev pub told_first : FlashDevice → Bool
told_first d = is_some (bytes_now d.entry)

-- then it tells until its first operation, whatever the image
abbrev pub tells_now : FlashDevice → Bool
tells_now d = tells_held d || (told_first d && (length d.operations == 0))

abbrev pub slots_now : FlashDevice → Option (List Slot)
slots_now d = if tells_now d then option_map d.slots (bytes_now d.flash) else None

-- what it tells of a number where its flash has these bytes
abbrev pub slot_with : FlashDevice → List ℕ → ℕ → Slot
slot_with d bytes n = slot_at d.fixed.numbers (d.slots bytes) n

-- the operations that it asked for, as far as they are counted
abbrev pub asked_ops : FlashDevice → ℕ
asked_ops d = min (length d.operations) last_count

-- its one part: it is off while its flash is, and takes the plans that its flash takes
abbrev pub flash_part : FlashDevice → PartTold
flash_part d = record { faults = d.faults; flash_faults = d.flash.faults; off = d.flash.off; planning = d.flash.planning }

abbrev pub flash_told : FlashDevice → DeviceTold
flash_told d = record {
  fixed = d.fixed;
  slots = slots_now d;
  tells = told_first d;
  started = d.started;
  stand = d.stand;
  switching = d.switching;
  ops = asked_ops d;
  starts = d.starts;
  first = flash_part d;
  second = no_part;
  left = d.left;
  ready = d.ready;
  wait = d.wait;
}
