-- A run of calls on a device: what is known of each number, and the theorem on power cuts.
use Rattle.std.specs.Prelude.{◌≡◌, ◌≢◌, ◌⊎◌, ◌<◌, ◌≤◌, ◌==◌, nat_le, ℕ, Bool, true, false, if◌then◌else◌, List, [], ◌∷◌, ◌++◌, map, length, Option, Some, None, is_some}
use Rattle.nv_base.specs.Count.{Rose}
use Rattle.nv_base.specs.declared.instance.DeviceNumber.{DeviceNumber}
use Rattle.nv_base.specs.declared.mark.Mark.{Mark}
use Rattle.nv_base.specs.declared.mark.Mark.TheVariants.{Content, Invalid, Erased}
use Rattle.memif.specs.declared.answer.DeviceTurn.{DeviceTurn}
use Rattle.memif.specs.declared.answer.DeviceTurn.TheVariants.{Idle, Worked, Off}
use Rattle.memif.specs.declared.answer.JobResult.{JobResult}
use Rattle.memif.specs.declared.answer.JobResult.TheVariants.{JobOk, JobPending}
use Rattle.memif.specs.declared.run.DeviceCall.{DeviceCall}
use Rattle.memif.specs.declared.run.DeviceCall.TheVariants as call
use Rattle.memif.specs.declared.run.DeviceStep.{DeviceStep}
use Rattle.memif.specs.Told.{DeviceTold, Slot, Held, Job, Part, Stand, Open, Ended, held_next, no_slot, slot_at, part_at, ops_of, is_open, is_off, is_urgent, nothing_open, result_of}
use Rattle.memif.specs.Marks.{IsPossible, Keeps}
use Rattle.memif.specs.Clock.{Clock, CutIn, ArePossible}
use Rattle.memif.specs.Calls.{Wish, refusal_of}
use Rattle.memif.specs.Trials.{Lasts}

-- WHAT A RUN SHOWS
-- the start that a call asks for, if any
abbrev pub wish_of : DeviceCall → Option Wish
wish_of (call.Read number size) = Some (record { job = record { number = number.0; mark = None; urgent = false }; length = Some size })
wish_of (call.Write number content urgent) = Some (record { job = record { number = number.0; mark = Some (Content content); urgent = urgent }; length = Some (length content) })
wish_of (call.Invalidate number) = Some (record { job = record { number = number.0; mark = Some Invalid; urgent = false }; length = None })
wish_of (call.Erase number) = Some (record { job = record { number = number.0; mark = Some Erased; urgent = false }; length = None })
wish_of call.Cancel = None
wish_of call.Turn = None

-- a call, the step that tells of it, and the device behind it
pub record Made : Type 0 where
  pub call : DeviceCall
  pub step : DeviceStep
  pub device : DeviceTold

-- of each number what is settled, and what jobs may have left since; and the open job
pub record Known : Type 0 where
  pub slots : ℕ → Slot
  pub job : Option Job

-- a job took a mark, if it has one
abbrev pub doubted : Option Mark → Slot → Slot
doubted None s = s
doubted (Some mark) s = record s { doubts = s.doubts ++ held_next mark s.settled ∷ [] }

-- a job settled its mark, if it has one
abbrev pub settled_by : Option Mark → Slot → Slot
settled_by None s = s
settled_by (Some mark) s = record { settled = held_next mark s.settled; doubts = [] }

abbrev pub at_one : ℕ → (Slot → Slot) → (ℕ → Slot) → ℕ → Slot
at_one number change slots n = if n == number then change (slots n) else slots n

-- a job was taken
abbrev pub takes : Option Wish → Known → Known
takes None k = k
takes (Some w) k = record { slots = at_one w.job.number (doubted w.job.mark) k.slots; job = Some w.job }

-- the open job was done
abbrev pub settles : Option Job → Known → Known
settles None k = k
settles (Some j) k = record { slots = at_one j.number (settled_by j.mark) k.slots; job = None }

-- the open job, if there is one, came to a result
abbrev pub comes_to : JobResult → Known → Known
comes_to JobPending k = k
comes_to JobOk k = settles k.job k
comes_to result k = record k { job = None }

abbrev pub after_call : DeviceCall → Bool → JobResult → Known → Known
after_call c taken result k = if taken then takes (wish_of c) k else comes_to result k

-- what is known after all calls
abbrev pub known_after : Known → List Made → Known
known_after k [] = k
known_after k (m ∷ ms) = known_after (after_call m.call m.step.taken m.step.result k) ms

-- what was known as a changing operation, by its number from 0, was asked for: after the calls that end before it
abbrev pub known_by : ℕ → Known → List Made → Known
known_by o k [] = k
known_by o k (m ∷ ms) = if nat_le m.device.ops o then known_by o (after_call m.call m.step.taken m.step.result k) ms else k

-- THE THEOREM
abbrev pub known_slots : List (DeviceNumber × ℕ) → Option (List Slot) → ℕ → Slot
known_slots numbers (Some slots) n = slot_at numbers slots n
known_slots numbers None n = no_slot

-- what is known of a device that tells what its numbers hold, as a run begins with no job open
abbrev pub known_of : DeviceTold → Known
known_of d = record { slots = known_slots d.fixed.numbers d.slots; job = None }

abbrev pub AreKnown : List (DeviceNumber × ℕ) → Option (List Slot) → (ℕ → Slot) → Type 0
AreKnown numbers None known = Unit {0}
AreKnown numbers (Some slots) known = (n : ℕ) → Keeps (known n) (slot_at numbers slots n)

abbrev pub open_job : Stand → Option Job
open_job (Open j) = Some j
open_job (Ended result given) = None

-- where it is told, what is settled is as it is known and each doubt is known; and so is the open job
pub record Ties (d : DeviceTold) (k : Known) : Type 0 where
  pub slots : AreKnown d.fixed.numbers d.slots k.slots
  pub job : open_job d.stand ≡ k.job

-- whatever map a start-up may find after a cut at any operation of the run, each number has in it what was
-- settled then, or what a job may have left since
abbrev pub CutsAreAllowed : Known → DeviceTold → List Made → DeviceTold → Clock → Type 0
CutsAreAllowed k old run new clock = (o : ℕ) (m : ℕ → Held) → old.ops ≤ o → o < new.ops → clock.may_find (CutIn o) m
    → (n : ℕ) → IsPossible ((known_by o k run).slots n) (m n)

-- THE CALLS
abbrev pub TurnMade : DeviceTurn → DeviceTold → DeviceTold → Type 0
TurnMade Idle old new = (nothing_open old ≡ true) × (new ≡ old)
TurnMade Worked old new = (nothing_open old ≡ false) × ((new.left < old.left) ⊎ ((p : Part) × Rose (part_at p old).faults (part_at p new).faults))
TurnMade Off old new = (nothing_open old ≡ false) × (is_off new ≡ true) × (new.stand ≡ old.stand)

-- a start is taken exactly where no refusal holds, else nothing changes; a turn gives its answer; a cancel ends the open
-- job, and an urgent one isn't canceled
abbrev pub Makes : Option Wish → DeviceCall → Bool → DeviceTold → DeviceTold → Type 0
Makes (Some w) c true old new = (refusal_of old w.job.number w.length ≡ None) × (new.stand ≡ Open w.job)
Makes (Some w) c false old new = (refusal_of old w.job.number w.length ≢ None) × (new ≡ old)
Makes None call.Turn taken old new = (taken ≡ false) × ((answer : DeviceTurn) × TurnMade answer old new)
Makes None c taken old new = (taken ≡ false) × (((is_urgent old.stand ≡ true) × (new ≡ old)) ⊎ (is_open new.stand ≡ false))

-- a call was made, and its step tells what stood behind it
pub record IsMade (old : DeviceTold) (m : Made) : Type 0 where
  pub makes : Makes (wish_of m.call) m.call m.step.taken old m.device
  pub result : m.step.result ≡ result_of m.device.stand
  pub ops : m.step.ops ≡ ops_of m.device

-- all calls were made in order
abbrev pub AreMade : DeviceTold → List Made → DeviceTold → Type 0
AreMade old [] new = new ≡ old
AreMade old (m ∷ ms) new = IsMade old m × AreMade m.device ms new

pub record IsRun (old : DeviceTold) (asked : List DeviceCall) (shown : List DeviceStep) (run : List Made) (new : DeviceTold) (clock : Clock) : Type 0 where
  pub calls : map (λ m. m.call) run ≡ asked
  pub steps : map (λ m. m.step) run ≡ shown
  pub made : AreMade old run new
  -- where it is told to the end what the numbers hold, the end is as it is known, and so is each cut
  pub ends : is_some new.slots ≡ true → Ties new (known_after (known_of old) run)
  pub cuts : is_some new.slots ≡ true → CutsAreAllowed (known_of old) old run new clock

-- ON THE WAY
abbrev pub asks_urgent : Option Wish → Bool
asks_urgent (Some w) = w.job.urgent
asks_urgent None = false

-- the urgency of the last job that was taken
abbrev pub urgent_after : DeviceCall → Bool → Bool → Bool
urgent_after c taken before = if taken then asks_urgent (wish_of c) else before

-- an open job is known to be urgent
abbrev pub IsUrgentKnown : Bool → Stand → Type 0
IsUrgentKnown urgent (Open j) = j.urgent ≡ urgent
IsUrgentKnown urgent (Ended result given) = Unit {0}

-- one call keeps a device as it is known
pub record IsCallMade (c : DeviceCall) (taken : Bool) (old : DeviceTold) (clock : Clock) (new : DeviceTold) (clock_new : Clock) : Type 0 where
  pub makes : Makes (wish_of c) c taken old new
  pub fixed : new.fixed ≡ old.fixed
  -- what is told behind it was told before
  pub told : is_some new.slots ≡ true → is_some old.slots ≡ true
  pub ties : (k : Known) → Ties old k → Ties new (after_call c taken (result_of new.stand) k)
  pub urgent : (before : Bool) → IsUrgentKnown before old.stand → IsUrgentKnown (urgent_after c taken before) new.stand
  pub lasts : Lasts old clock new clock_new
  pub cut : (o : ℕ) (m : ℕ → Held) → old.ops ≤ o → o < new.ops → clock_new.may_find (CutIn o) m → ArePossible old old.slots m

-- no call was behind so many operations
abbrev pub AllBy : ℕ → List Made → Type 0
AllBy o [] = Unit {0}
AllBy o (m ∷ ms) = (m.device.ops ≤ o) × AllBy o ms
