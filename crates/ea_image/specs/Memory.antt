-- What a device over slots has in memory of one instance, and how the bytes hold it.
use Rattle.std.specs.Prelude.{◌≡◌, ◌⊎◌, ◌<◌, ◌≤◌, ◌+◌, nat_lt, ℕ, Bool, true, Option, Some, None}
use Rattle.nv_base.specs.Held.{Held, never_written}
use Rattle.ea_image.specs.declared.slot_head.SlotHead.{SlotHead}
use Rattle.ea_image.specs.declared.memory.SlotMemory.{SlotMemory}
use Rattle.ea_image.specs.declared.which.Which.{Which}
use Rattle.ea_image.specs.declared.which.Which.TheVariants.{Slot0, Slot1}
use Rattle.ea_image.specs.declared.step.SlotStep.{SlotStep}
use Rattle.ea_image.specs.declared.step.SlotStep.TheVariants.{EraseHead, Gate}
use Rattle.ea_image.specs.Slots.{SlotBytes, other, standing, newest_of, held_by}

-- never written
abbrev pub no_memory : SlotMemory
no_memory = record { target = Slot0; settled = None; doubt = None }

-- the last sequence, which no other follows
abbrev pub last_sequence : ℕ
last_sequence = 4294967295

-- a write more may follow, as a test and as a fact
abbrev pub has_next_head : Option SlotHead → Bool
has_next_head None = true
has_next_head (Some h) = nat_lt h.sequence last_sequence

abbrev pub HasNext : Option SlotHead → Type 0
HasNext None = Unit {0}
HasNext (Some h) = h.sequence < last_sequence

-- the sequence of the next write
abbrev pub sequence_next : Option SlotHead → ℕ
sequence_next None = 1
sequence_next (Some h) = h.sequence + 1

abbrev pub held_with : Option SlotHead → SlotBytes → Held
held_with None b = never_written
held_with (Some h) b = held_by h b.body

-- what is settled, and what is in doubt
abbrev pub settled_of : SlotMemory → (Which → SlotBytes) → Held
settled_of m slots = held_with m.settled (slots (other m.target))

abbrev pub doubt_of : SlotMemory → (Which → SlotBytes) → Held
doubt_of m slots = held_with m.doubt (slots m.target)

-- a head of this slot doesn't count before the settled one
abbrev pub IsOlder : Which → SlotHead → Option SlotHead → Type 0
IsOlder s h None = ⊥
IsOlder Slot0 h (Some settled) = h.sequence < settled.sequence
IsOlder Slot1 h (Some settled) = h.sequence ≤ settled.sequence

-- THE BYTES HOLD IT
pub record HoldsSlots (p length : ℕ) (m : SlotMemory) (slots : Which → SlotBytes) : Type 0 where
  pub settled : standing p length (slots (other m.target)) ≡ m.settled
  -- where the target stands it does so with the head that is in doubt, or with one that doesn't count
  pub target : (h : SlotHead) → standing p length (slots m.target) ≡ Some h → (m.doubt ≡ Some h) ⊎ IsOlder m.target h m.settled
  pub doubt : (h : SlotHead) → m.doubt ≡ Some h → h.sequence ≡ sequence_next m.settled

-- LOADED
abbrev pub memory_as : Option (Which × SlotHead) → SlotMemory
memory_as None = no_memory
memory_as (Some x) = record { target = other x.0; settled = Some x.1; doubt = None }

abbrev pub memory_loaded : (page length : ℕ) → (Which → SlotBytes) → SlotMemory
memory_loaded p length slots = memory_as (newest_of p length slots)

-- A STEP OF A WRITE
-- once a step was done: behind the first one nothing is in doubt, and behind the gate its head is settled and the other slot is
-- the next target
abbrev pub memory_done : SlotStep → SlotHead → SlotMemory → SlotMemory
memory_done EraseHead h m = record m { doubt = None }
memory_done Gate h m = record { target = other m.target; settled = Some h; doubt = None }
memory_done step h m = m

-- once it failed or was cut: a gate is in doubt
abbrev pub memory_failed : SlotStep → SlotHead → SlotMemory → SlotMemory
memory_failed Gate h m = record m { doubt = Some h }
memory_failed step h m = m
