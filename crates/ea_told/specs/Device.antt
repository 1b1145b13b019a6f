-- A device over slots, and what it tells.
use Rattle.std.specs.Prelude.{◌+◌, ◌==◌, ◌&&◌, ◌++◌, if◌then◌else◌, ℕ, Bool, true, false, List, [], ◌∷◌, map, take, slice_index_or, Option, Some, None, is_none}
use Rattle.nv_base.specs.declared.job.DeviceOp.{DeviceOp}
use Rattle.nv_base.specs.declared.job.DeviceOp.TheVariants.{Read, Write, Invalidate, Erase}
use Rattle.nv_base.specs.declared.mark.Mark.{Mark}
use Rattle.nv_base.specs.declared.mark.Mark.TheVariants as mark
use Rattle.nv_base.specs.Held.{Held, held_next}
use Rattle.memif.specs.declared.answer.JobResult.{JobResult}
use Rattle.memif.specs.Told.{Figures, First, Fixed, Slot, Stand, Open, Ended, DeviceTold}
use Rattle.memif.specs.Clock.{Clock}
use Rattle.fls_model.specs.Told.{Told}
use Rattle.fls_told.specs.Device.{FlashDevice, flash_told}
use Rattle.fls_told.specs.Clock.{flash_clock}
use Rattle.fee_format.specs.declared.rec_head.RecordKind.{RecordKind}
use Rattle.fee_format.specs.declared.rec_head.RecordKind.TheVariants as kind
use Rattle.fee_format.specs.Pages.{body_pages_of}
use Rattle.ea_image.specs.declared.memory.SlotMemory.{SlotMemory}
use Rattle.ea_image.specs.declared.slot_head.SlotHead.{SlotHead}
use Rattle.ea_image.specs.declared.which.Which.{Which}
use Rattle.ea_image.specs.Memory.{has_next_head, sequence_next, settled_of}
use Rattle.ea_image.specs.Slots.{SlotBytes, slot_bytes, held_by, found_at}
use Rattle.ea_image.specs.Steps.{steps_left}
use Rattle.ea_told.specs.declared.job.EaJob.{EaJob}
use Rattle.ea_told.specs.declared.state.SlotState.{SlotState}
use Rattle.ea_told.specs.Making.{Making, entry_of, at_entry, listed}
use Rattle.ea_told.specs.Parts.{Parts}
use Rattle.ea_told.specs.Reading.{reading_of}
use Rattle.ea_told.specs.States.{no_state}

-- WHAT NEVER CHANGES
-- the turns of a write: its body's pages, two erases, the head and the gate; each operation but a read may take as many
abbrev pub figures_for : (page length : ℕ) → Figures
figures_for p length = let most = body_pages_of length p + 4 in record { part = First; pages = most; read = 1; write = most; invalidate = most; erase = most }

abbrev pub fixed_for : Making → Fixed
fixed_for m = record { numbers = m.numbers; figures = map (λ x. figures_for m.geometry.page x.1) m.numbers; reserve = 0; own = 0; two = false }

-- THE OPEN JOB
abbrev pub mark_of : DeviceOp → List ℕ → Option Mark
mark_of Read content = None
mark_of Write content = Some (mark.Content content)
mark_of Invalidate content = Some mark.Invalid
mark_of Erase content = Some mark.Erased

abbrev pub stand_of : List ℕ → Option EaJob → JobResult → ℕ → Stand
stand_of content (Some j) last given = Open (record { number = j.number.0; mark = mark_of j.op (take j.length content); urgent = j.urgent })
stand_of content None last given = Ended last (take given content)

abbrev pub state_at : List SlotState → ℕ → SlotState
state_at states place = slice_index_or states place no_state

-- a number can be written: it isn't worn out, and its settled head hasn't the last sequence
abbrev pub can_write : SlotState → Bool
can_write s = is_none s.worn && has_next_head s.memory.settled

-- the kind of an operation's head; a read has none
abbrev pub kind_of : DeviceOp → RecordKind
kind_of Read = kind.Erased
kind_of Write = kind.Content
kind_of Invalidate = kind.Invalid
kind_of Erase = kind.Erased

-- the head that a job writes
abbrev pub head_of : EaJob → SlotState → SlotHead
head_of j s = record { kind = kind_of j.op; length = j.length; sequence = sequence_next s.memory.settled }

-- the turns that are left of it
abbrev pub job_left : (page : ℕ) → EaJob → DeviceOp → Bool → ℕ
job_left p j Read writable = 1
job_left p j op writable = if writable then steps_left (body_pages_of j.length p) j.step else 1

abbrev pub left_of : (page : ℕ) → List SlotState → Option EaJob → ℕ
left_of p states None = 0
left_of p states (Some j) = job_left p j j.op (can_write (state_at states j.place))

-- nothing is promised of an urgent write, and none waits before it is open
abbrev pub wait_of : Option EaJob → Option ℕ
wait_of None = Some 0
wait_of (Some j) = if j.urgent then None else Some 0

-- WHAT THE NUMBERS HOLD
-- the mark that the open job may leave, for its number
abbrev pub left_by : Option Mark → List Mark
left_by None = []
left_by (Some m) = m ∷ []

abbrev pub job_leaves : Stand → ℕ → List Mark
job_leaves (Open j) n = if j.number == n then left_by j.mark else []
job_leaves (Ended result given) n = []

abbrev pub doubts_as : Option SlotHead → SlotBytes → List Held
doubts_as None b = []
doubts_as (Some h) b = held_by h b.body ∷ []

-- of one number: what its memory says of its slots, and what a job may leave, counted one more than what is settled
abbrev pub slot_told : SlotMemory → (Which → SlotBytes) → List Mark → Slot
slot_told m slots marks = record { settled = settled_of m slots; doubts = map (λ x. held_next x (settled_of m slots)) marks ++ doubts_as m.doubt (slots m.target) }

abbrev pub slots_held : Making → List SlotState → Stand → List ℕ → List Slot
slots_held m states stand bytes = listed (λ i x. slot_told (state_at states i).memory (slot_bytes m.geometry bytes i) (job_leaves stand x.0.0)) 0 m.numbers

-- before it was started: what a start-up finds, and no doubt
abbrev pub slots_found : Making → List ℕ → List Slot
slots_found m bytes = listed (λ i x. record { settled = found_at m.geometry bytes i x.1; doubts = [] }) 0 m.numbers

abbrev pub slots_in : Making → Bool → List SlotState → Stand → List ℕ → List Slot
slots_in m true states stand bytes = slots_held m states stand bytes
slots_in m false states stand bytes = slots_found m bytes

abbrev pub worn_in : Making → List SlotState → ℕ → Option ℕ
worn_in m states n = at_entry None (λ i x. (state_at states i).worn) (entry_of m n)

-- AS A DEVICE OVER ANY FLASH
abbrev pub flash_device : Making → Told → Parts → FlashDevice
flash_device m entry s = record {
  reading = reading_of m;
  fixed = fixed_for m;
  entry = entry;
  flash = s.fls.flash;
  operations = s.operations;
  faults = s.faults;
  worn = worn_in m s.states;
  starts = s.starts;
  started = s.started;
  slots = slots_in m s.started s.states (stand_of s.content s.job s.last s.given);
  stand = stand_of s.content s.job s.last s.given;
  switching = false;
  left = left_of m.geometry.page s.states s.job;
  ready = 0;
  wait = wait_of s.job;
}

abbrev pub told_of : Making → Told → Parts → DeviceTold
told_of m entry s = flash_told (flash_device m entry s)

abbrev pub clock_of : Making → Told → Parts → Clock
clock_of m entry s = flash_clock (flash_device m entry s)
