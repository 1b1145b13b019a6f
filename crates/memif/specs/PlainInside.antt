-- The fields of a device in memory.
use Rattle.std.specs.Prelude.{◌≡◌, ◌≢◌, ◌<◌, ℕ, Bool, true, false, if◌then◌else◌, List, [], ◌∷◌, map, length, slice_get, Option, Some, None, is_some}
use Rattle.nv_base.specs.declared.instance.DeviceNumber.{DeviceNumber}
use Rattle.nv_base.specs.declared.mark.Mark.{Mark}
use Rattle.nv_base.specs.declared.mark.Mark.TheVariants as mark
use Rattle.nv_base.specs.Lengths.{place_of}
use Rattle.memif.specs.declared.answer.PlainMark.TheVariants as plain
use Rattle.memif.specs.declared.answer.JobResult.{JobResult}
use Rattle.memif.specs.declared.answer.JobResult.TheVariants.{JobPending}
use Rattle.memif.specs.declared.kept.Cell.{Cell}
use Rattle.memif.specs.declared.kept.Kept.{Kept}
use Rattle.memif.specs.declared.plain_store.PlainJob.{PlainJob}
use Rattle.memif.specs.declared.plain_store.PlainStore.TheInside.{Inside}
use Rattle.memif.specs.Told.{DeviceTold, Slot, Held, held_next, Job, Stand, Open, Ended}
use Rattle.memif.specs.Plain.{plain_store}

-- a mark of a kind, with these bytes if it is a content
abbrev pub mark_of : Cell → Mark
mark_of c = elim c.kind [ plain.Content ↦ mark.Content c.content | plain.Invalid ↦ mark.Invalid | plain.Erased ↦ mark.Erased ]

abbrev pub held_of : Kept → Held
held_of k = record { mark = mark_of k.settled; count = k.count }

abbrev pub slot_of : Kept → Slot
slot_of k = record { settled = held_of k; doubts = if k.doubted then held_next (mark_of k.next) (held_of k) ∷ [] else [] }

-- what was staged last
abbrev pub next_of : Option Kept → Mark
next_of (Some k) = mark_of k.next
next_of None = mark.Erased

abbrev pub job_of : List Kept → PlainJob → Job
job_of kept j = record {
  number = j.number.0;
  mark = if j.reads then None else Some (next_of (slice_get kept j.place));
  urgent = j.urgent;
}

abbrev pub content_of : Option Kept → List ℕ
content_of (Some k) = k.settled.content
content_of None = []

abbrev pub given_of : List Kept → Option ℕ → List ℕ
given_of kept None = []
given_of kept (Some place) = content_of (slice_get kept place)

abbrev pub stand_of : List Kept → Option PlainJob → JobResult → Option ℕ → Stand
stand_of kept (Some j) last given = Open (job_of kept j)
stand_of kept None last given = Ended last (given_of kept given)

-- one turn for an open job
abbrev pub turns_of : Bool → ℕ
turns_of open_job = if open_job then 1 else 0

abbrev pub is_urgent_job : Option PlainJob → Bool
is_urgent_job None = false
is_urgent_job (Some j) = j.urgent

-- whether it is started, and how often it was
pub record StartUps : Type 0 where
  pub started : Bool
  pub starts : ℕ

abbrev pub told_with : List (DeviceNumber × ℕ) → List Kept → StartUps → Option PlainJob → JobResult → Option ℕ → DeviceTold
told_with numbers kept up job last given = record (plain_store numbers) {
  slots = Some (map slot_of kept);
  started = up.started;
  starts = up.starts;
  stand = stand_of kept job last given;
  left = turns_of (is_some job);
  wait = Some (turns_of (is_urgent_job job));
}

abbrev pub start_ups_of : Inside → StartUps
start_ups_of p = record { started = p.started; starts = length p.starts.items }

abbrev pub told_of : Inside → DeviceTold
told_of p = told_with p.numbers p.kept.items (start_ups_of p) p.job p.last p.given

-- each number has room for its content, twice
abbrev pub AreKept : List (DeviceNumber × ℕ) → List Kept → Type 0
AreKept [] [] = Unit {0}
AreKept (x ∷ xs) (k ∷ ks) = (length k.settled.content ≡ x.1) × (length k.next.content ≡ x.1) × AreKept xs ks
AreKept [] (k ∷ ks) = ⊥
AreKept (x ∷ xs) [] = ⊥

abbrev pub IsSoundJob : List (DeviceNumber × ℕ) → Option PlainJob → Type 0
IsSoundJob numbers None = Unit {0}
IsSoundJob numbers (Some j) = place_of numbers j.number.0 ≡ Some j.place

abbrev pub IsSoundGiven : List (DeviceNumber × ℕ) → Option ℕ → Type 0
IsSoundGiven numbers None = Unit {0}
IsSoundGiven numbers (Some place) = place < length numbers

-- a content is given behind a job, and not beside one
abbrev pub GivesBehind : Option PlainJob → Option ℕ → Type 0
GivesBehind (Some j) (Some place) = ⊥
GivesBehind (Some j) None = Unit {0}
GivesBehind None given = Unit {0}

pub record IsSoundWith (numbers : List (DeviceNumber × ℕ)) (kept : List Kept) (up : StartUps) (job : Option PlainJob) (last : JobResult) (given : Option ℕ) : Type 0 where
  pub room : AreKept numbers kept
  pub at : IsSoundJob numbers job
  pub gives : IsSoundGiven numbers given
  pub behind : GivesBehind job given
  pub ended : last ≢ JobPending
  pub on : is_some job ≡ true → up.started ≡ true

abbrev pub IsSound : Inside → Type 0
IsSound p = IsSoundWith p.numbers p.kept.items (start_ups_of p) p.job p.last p.given
