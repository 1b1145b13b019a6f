-- What a history over a device keeps from turn to turn, and what each entry and each call of the device does to it.
use Rattle.std.specs.Prelude.{◌≡◌, ◌⊎◌, ◌<◌, ◌≤◌, ℕ, Bool, true, false, length, List, [], ◌∷◌, ◌++◌, Contains, Option, Some, None, is_some, Result, Ok, Err}
use Rattle.block_machine.specs.nv_base.Count.{last_count}
use Rattle.block_machine.specs.nv_base.Entry.{ops_of}
use Rattle.block_machine.specs.nv_base.Marks.{instance_of}
use Rattle.block_machine.specs.nv_base.declared.instance.DeviceNumber.{DeviceNumber}
use Rattle.memif.specs.Told as device
use Rattle.memif.specs.Told.{DeviceTold, Part, Slot, Held, Stand, Open, Ended, part_at, slot_at, PartTold}
use Rattle.memif.specs.Clock.{Clock, After, ArePossible}
use Rattle.memif.specs.Calls.{Wish}
use Rattle.memif.specs.declared.answer.DeviceTurn.{DeviceTurn}
use Rattle.memif.specs.declared.answer.DeviceTurn.TheVariants as turn
use Rattle.memif.specs.declared.answer.JobResult.TheVariants.{JobOk}
use Rattle.memif.specs.declared.answer.StartFault.{StartFault}
use Rattle.block_machine.specs.block_config.Lengths.{lengths_of}
use Rattle.block_machine.specs.Words.{Instance, Mark, Content, Entry, Ask, Pick, Wrote, Post, Off, Found, Configuration}
use Rattle.block_machine.specs.StartUp.{listed_mark}
use Rattle.block_machine.specs.Steps.{after}
use Rattle.block_machine.specs.Legal.{IsAllowed}
use Rattle.promise_blocks.specs.Counts.{count_due, counts_in, last_found}
use Rattle.promise_blocks.specs.Payment.{IsPaid}
use Rattle.promise_blocks.specs.OverDevice.{KeepsOver, HasStarted, is_of}
use Rattle.nvm_device_laws.specs.Pairing.{Allows, Agrees, Pairs, IsStaged, IsFor}

-- these counts are those that the last start-up of a history found
abbrev pub IsBase : Configuration → List Entry → (ℕ → ℕ) → Clock → Type 0
IsBase c h base clock =
    (ops : ℕ) (found : ℕ → Held) → last_found h ≡ Some ops → ops < last_count → clock.may_find (After ops) found
    → (x : DeviceNumber × ℕ) → Contains (lengths_of c) x → counts_in found x.0.0 ≡ base x.0.0

-- Between two turns: the block side's half of the promise, the marks of the machine and of the device, and what a start-up
-- would find now.
pub record Keeps (c : Configuration) (cap : ℕ) (h : List Entry) (before : Part → PartTold) (d : DeviceTold) (clock : Clock) : Type 0 where
  pub device : IsFor c d
  pub over : KeepsOver c cap h before d clock
  pub few : d.ops ≤ last_count
  -- the counts that the last start-up found
  pub base : ℕ → ℕ
  pub based : IsBase c h base clock
  -- what the device holds may stand, and is what the machine says where its last start-up answered Ok
  pub marks : HasStarted h → Pairs Allows c (after c h) (count_due h base) d.fixed.numbers d.slots
  pub settled : HasStarted h → d.started ≡ true → Pairs Agrees c (after c h) (count_due h base) d.fixed.numbers d.slots
  pub finds : (held : ℕ → Held) → clock.may_find (After d.ops) held → ArePossible d d.slots held

-- ENTRIES
-- an entry that settles nothing and isn't of the power: a request, a Pick or a Post
abbrev pub is_plain : Entry → Bool
is_plain (Ask caller r reply) = true
is_plain (Pick block kind t ops) = true
is_plain (Post block r given refused ops) = true
is_plain e = false

-- a driver entry tells the operations of its moment
abbrev pub IsTimed : DeviceTold → Entry → Type 0
IsTimed d (Ask caller r reply) = Unit {0}
IsTimed d e = ops_of e ≡ Some (device.ops_of d)

-- a Post must be paid for
abbrev pub Pays : Configuration → (Part → PartTold) → DeviceTold → Clock → List Entry → Entry → Type 0
Pays c before d clock h (Post block r given refused ops) =
    (p : Part) → IsPaid (is_of p d.fixed) c clock.worn (before p).faults (part_at p d).faults (h ++ Post block r given refused ops ∷ [])
Pays c before d clock h e = Unit {0}

-- such an entry keeps all, where the machine allows it
abbrev pub EntriesKeep : DeviceTold → Clock → Type 0
EntriesKeep d clock =
    (c : Configuration) (cap : ℕ) (h : List Entry) (before : Part → PartTold) (e : Entry) → HasStarted h → Keeps c cap h before d clock
    → is_plain e ≡ true → IsAllowed c cap (after c h) e → IsTimed d e → Pays c before d clock h e
    → Keeps c cap (h ++ e ∷ []) before d clock

-- WHAT A START ASKS FOR
abbrev pub read_wish : ℕ → ℕ → Wish
read_wish number size = record { job = record { number = number; mark = None; urgent = false }; length = Some size }

abbrev pub write_wish : ℕ → List ℕ → Bool → Wish
write_wish number content urgent = record { job = record { number = number; mark = Some (Content content); urgent = urgent }; length = Some (length content) }

-- of an invalidation or an erase
abbrev pub mark_wish : ℕ → Mark → Wish
mark_wish number mark = record { job = record { number = number; mark = Some mark; urgent = false }; length = None }

-- CALLS
-- what the numbers hold is told
abbrev pub TellsSlots : DeviceTold → Type 0
TellsSlots d = is_some d.slots ≡ true

-- a call behind which that is told keeps all with the history that stands
abbrev pub Stays : DeviceTold → Clock → DeviceTold → Clock → Type 0
Stays old clock new clock_new =
    (c : Configuration) (cap : ℕ) (h : List Entry) (before : Part → PartTold) → HasStarted h → Keeps c cap h before old clock
    → TellsSlots new → Keeps c cap h before new clock_new

-- so does the start of a job, where its mark is one that the machine's job took
abbrev pub StartsStay : Wish → DeviceTold → Clock → DeviceTold → Clock → Type 0
StartsStay w old clock new clock_new =
    (c : Configuration) (cap : ℕ) (h : List Entry) (before : Part → PartTold) → HasStarted h → IsStaged c (after c h) w.job.number w.job.mark
    → Keeps c cap h before old clock → TellsSlots new → Keeps c cap h before new clock_new

-- one that asks for an entry keeps all with that entry, where the machine allows it
abbrev pub StaysWith : Entry → DeviceTold → Clock → DeviceTold → Clock → Type 0
StaysWith e old clock new clock_new =
    (c : Configuration) (cap : ℕ) (h : List Entry) (before : Part → PartTold) → HasStarted h → IsAllowed c cap (after c h) e
    → Keeps c cap h before old clock → TellsSlots new → Keeps c cap (h ++ e ∷ []) before new clock_new

-- the entry of a job that was open and ended well, if it settled a mark
abbrev pub wrote_by : ℕ → Option Mark → ℕ → Option Entry
wrote_by number None ops = None
wrote_by number (Some mark) ops = Some (Wrote (instance_of (record { 0 = number })) mark ops)

abbrev pub settled_by : Stand → Stand → ℕ → Option Entry
settled_by (Open j) (Ended JobOk given) ops = wrote_by j.number j.mark ops
settled_by old new ops = None

abbrev pub StaysBy : Option Entry → DeviceTold → Clock → DeviceTold → Clock → Type 0
StaysBy None = Stays
StaysBy (Some e) = StaysWith e

-- a turn asks for a Wrote exactly where a job settled its mark, and for an Off where the power is off
abbrev pub TurnsKeep : DeviceTurn → DeviceTold → Clock → DeviceTold → Clock → Type 0
TurnsKeep turn.Off old clock new clock_new = StaysWith (Off (device.ops_of new)) old clock new clock_new
TurnsKeep answer old clock new clock_new = StaysBy (settled_by old.stand new.stand (device.ops_of new)) old clock new clock_new

-- START-UP
-- these marks are listed as they are settled
abbrev pub ListsSettled : Configuration → List (Instance × Mark) → List (DeviceNumber × ℕ) → Option (List Slot) → Type 0
ListsSettled c marks numbers None = ⊥
ListsSettled c marks numbers (Some slots) =
    (x : DeviceNumber × ℕ) → Contains (lengths_of c) x → listed_mark marks (instance_of x.0) ≡ (slot_at numbers slots x.0.0).settled.mark

-- the same device, its start-up taken for one that failed: what it holds for certain isn't the machine's before its entry
abbrev pub down : DeviceTold → DeviceTold
down d = record d { started = false }

-- A start-up that answers Ok asks for a Found that lists what is settled, the first before any operation; one that
-- doesn't keeps all with the history that stands.
abbrev pub StartUpsKeep : Result (Unit {0}) StartFault → DeviceTold → Clock → DeviceTold → Clock → Type 0
StartUpsKeep (Ok _) old clock new clock_new =
    (c : Configuration) (cap : ℕ) (h : List Entry) (before : Part → PartTold) (marks : List (Instance × Mark)) → HasStarted h ⊎ (new.ops ≡ 0)
    → IsAllowed c cap (after c h) (Found marks (device.ops_of new)) → ListsSettled c marks new.fixed.numbers new.slots
    → Keeps c cap h before (down old) clock → Keeps c cap (h ++ Found marks (device.ops_of new) ∷ []) before new clock_new
StartUpsKeep (Err _) old clock new clock_new =
    (c : Configuration) (cap : ℕ) (h : List Entry) (before : Part → PartTold) → Keeps c cap h before (down old) clock → TellsSlots new
    → Keeps c cap h before new clock_new

-- until there is its entry, a call keeps all with the history that stands
abbrev pub StaysDown : DeviceTold → Clock → DeviceTold → Clock → Type 0
StaysDown old clock new clock_new =
    (c : Configuration) (cap : ℕ) (h : List Entry) (before : Part → PartTold) → Keeps c cap h before (down old) clock
    → TellsSlots new → Keeps c cap h before (down new) clock_new

-- a start-up may follow at any time
abbrev pub ComesDown : DeviceTold → Clock → Type 0
ComesDown d clock = (c : Configuration) (cap : ℕ) (h : List Entry) (before : Part → PartTold) → Keeps c cap h before d clock → Keeps c cap h before (down d) clock

-- THE MACHINE'S STATE
-- its operations are at most the device's, and it is started behind a start-up
abbrev pub IsBehind : DeviceTold → Clock → Type 0
IsBehind d clock =
    (c : Configuration) (cap : ℕ) (h : List Entry) (before : Part → PartTold) → Keeps c cap h before (down d) clock
    → ((after c h).ops ≤ device.ops_of d) × (HasStarted h → (after c h).started ≡ true)

-- BEFORE THE FIRST START-UP
-- nothing was asked for and nothing went off
pub record IsFresh (d : DeviceTold) (clock : Clock) : Type 0 where
  pub ops : d.ops ≡ 0
  pub on : (k : ℕ) → clock.off_in k → ⊥
  pub finds : (held : ℕ → Held) → clock.may_find (After d.ops) held → ArePossible d d.slots held

abbrev pub BeginsKept : DeviceTold → Clock → Type 0
BeginsKept d clock =
    (c : Configuration) (cap : ℕ) (before : Part → PartTold) → ((p : Part) → (before p).faults ≡ (part_at p d).faults)
    → IsFor c d → IsFresh d clock → Keeps c cap [] before d clock
