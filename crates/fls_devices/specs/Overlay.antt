-- A flash over another one.
use Rattle.std.specs.Prelude.{◌≡◌, ◌+◌, ℕ, zero, suc, Bool, true, false, List, [], ◌∷◌, length, min, nat_eq, Option, IfSome, Result, Ok, Err}
use Rattle.nv_base.specs.Count.{last_count, next_count}
use Rattle.fls_model.specs.declared.flash.FlashAnswer.{FlashAnswer}
use Rattle.fls_model.specs.declared.flash.FlashAnswer.TheVariants.{Done, Off}
use Rattle.nv_base.specs.Plan.{Planning, listed_anew}
use Rattle.fls_model.specs.Plan.{PlanGoes}
use Rattle.fls_model.specs.Told.{Told, Change, changes_in, powered}
use Rattle.fls_model.specs.Op.{Op, part_of}
use Rattle.fls_model.specs.Step.{IsAsked, CountsUnplanned}
use Rattle.fls_devices.specs.declared.part.Harm.{Harm}
use Rattle.fls_devices.specs.Journal.{Harmed, Journaled, has_reached, HaveParts, listed, bytes_over, Clears, Passes, AddsOf}
use Rattle.fls_devices.specs.Part.{harmed, cuts_after, faults_after, off_of}

-- what the inner flash tells, whether a cut stands, the cuts and faults of its own, the operations that were kept
-- from the inner flash, and the events
pub record Overlaid : Type 0 where
  pub inner : Told
  pub off : Bool
  pub cuts : ℕ
  pub faults : ℕ
  pub withheld : ℕ
  pub journal : Journaled

-- the operations that the inner flash counted, and those that were kept from it
abbrev pub ops_over : ℕ → ℕ → ℕ
ops_over ops zero = ops
ops_over ops (suc withheld) = min (ops + suc withheld) last_count

-- what is told of it, with the planned cuts as the device over it tells them
abbrev pub told_over : Planning → Overlaid → Told
told_over p o = record {
  geometry = o.inner.geometry;
  bytes = bytes_over o.journal o.inner.geometry o.inner.bytes;
  ops = ops_over o.inner.ops o.withheld;
  faults = o.inner.faults + o.faults;
  cuts = o.inner.cuts + o.cuts;
  off = o.off;
  planning = p;
}

-- how many changes of the inner flash these events and what stands between them take
abbrev pub reached_count : Bool → ℕ
reached_count true = 1
reached_count false = 0

abbrev pub span : List Harmed → ℕ
span [] = 0
span (e ∷ es) = e.since + reached_count (has_reached e.keep) + span es

abbrev pub FitsChanges : Journaled → Option (List Change) → Type 0
FitsChanges j changes = IfSome changes (λ changes. length changes ≡ span j.events + j.since)

-- where no cut stands none stands in the inner flash; the events fit its changes, among which are their parts
pub record IsOverlaid (o : Overlaid) : Type 0 where
  pub power : o.off ≡ false → o.inner.off ≡ false
  pub fits : FitsChanges o.journal (changes_in o.inner.bytes)
  pub parts : IfSome (changes_in o.inner.bytes) (HaveParts o.inner.geometry o.journal.events)

-- an operation is handed to the inner flash as it is
pub record IsHandedOn (op : Op) (old : Overlaid) (answer : FlashAnswer) (new : Overlaid) : Type 0 where
  pub asked : IsAsked op old.inner answer new.inner
  pub passes : Passes old.journal new.journal
  pub same : new ≡ record old { inner = new.inner; off = off_of answer; journal = new.journal }

abbrev pub OffOrHandedOn : Bool → Op → Overlaid → FlashAnswer → Overlaid → Type 0
OffOrHandedOn true op old answer new = (answer ≡ Off) × (new ≡ old)
OffOrHandedOn false op old answer new = IsHandedOn op old answer new

-- while a cut stands nothing happens
abbrev pub IsPassed : Op → Overlaid → FlashAnswer → Overlaid → Type 0
IsPassed op old answer new = OffOrHandedOn old.off op old answer new

-- an operation is cut or fails, and nothing of it reaches the inner flash
pub record IsWithheld (harm : Harm) (op : Op) (old : Overlaid) (answer : FlashAnswer) (new : Overlaid) : Type 0 where
  pub answer_is : answer ≡ harmed harm Done
  pub journal : AddsOf old.inner.geometry op 0 answer old.journal new.journal
  pub same : new ≡ record { inner = old.inner; off = off_of answer; cuts = cuts_after harm old.cuts; faults = faults_after harm old.faults; withheld = next_count old.withheld; journal = new.journal }

-- an operation is cut or fails, and the inner flash is asked for its part
pub record IsPartDone (harm : Harm) (keep : ℕ) (op : Op) (old : Overlaid) (answer : FlashAnswer) (new : Overlaid) : Type 0 where
  pub inner : FlashAnswer
  pub part : IsAsked (part_of keep op) old.inner inner new.inner
  pub answer_is : answer ≡ harmed harm inner
  pub journal : AddsOf old.inner.geometry op keep answer old.journal new.journal
  pub same : new ≡ record { inner = new.inner; off = off_of answer; cuts = cuts_after harm old.cuts; faults = faults_after harm old.faults; withheld = old.withheld; journal = new.journal }

-- of 0 bytes nothing is done, else a part
abbrev pub WithheldOrPart : Bool → Harm → ℕ → Op → Overlaid → FlashAnswer → Overlaid → Type 0
WithheldOrPart true harm keep op old answer new = IsWithheld harm op old answer new
WithheldOrPart false harm keep op old answer new = IsPartDone harm keep op old answer new

abbrev pub IsHarmed : Harm → ℕ → Op → Overlaid → FlashAnswer → Overlaid → Type 0
IsHarmed harm keep op old answer new = WithheldOrPart (nat_eq keep 0) harm keep op old answer new

-- each cut that no plan asked for is one of the inner flash's, with the planned cuts as the device over it tells them
abbrev pub CountsInner : Planning → Overlaid → Planning → Overlaid → Type 0
CountsInner p old q new = CountsUnplanned (record old.inner { planning = p }) (record new.inner { planning = q })

-- a changing operation, as it is told whatever becomes of the plans
abbrev pub IsAskedOver : Op → Overlaid → FlashAnswer → Overlaid → Type 0
IsAskedOver op old answer new = (p q : Planning) → PlanGoes answer p q → CountsInner p old q new → IsAsked op (told_over p old) answer (told_over q new)

-- an attach of the inner flash begins the journal
abbrev pub JournalAfter : {A E : Type 0} → Result A E → Journaled → Journaled → Type 0
JournalAfter (Ok _) old new = Clears old new
JournalAfter (Err _) old new = new ≡ old

-- and the list of the planned cuts that came
abbrev pub PlanningAfter : {A E : Type 0} → Result A E → Planning → Planning → Type 0
PlanningAfter (Ok _) old new = new ≡ listed_anew old
PlanningAfter (Err _) old new = new ≡ old

-- a new one, with the power on, over all changes that the inner flash tells
abbrev pub overlaid : Told → Journaled → Overlaid
overlaid inner journal = record { inner = powered inner; off = false; cuts = 0; faults = 0; withheld = 0; journal = record journal { since = listed (changes_in inner.bytes) } }
