-- A flash whose listed calls fail.
use Rattle.std.specs.Prelude.{◌≡◌, ℕ, Bool, true, false, List, [], ◌∷◌, length, Option, Some, None, Contains, nat_eq, if◌then◌else◌}
use Rattle.nv_base.specs.Count.{next_count}
use Rattle.fls_model.specs.declared.flash.FlashAnswer.{FlashAnswer}
use Rattle.fls_model.specs.declared.flash.FlashAnswer.TheVariants.{Failed, Off}
use Rattle.fls_model.specs.Told.{Told}
use Rattle.fls_model.specs.Op.{Op}
use Rattle.fls_model.specs.Read.{IsRead}
use Rattle.fls_devices.specs.declared.part.Harm.TheVariants.{Fault}
use Rattle.fls_devices.specs.Journal.{empty_journal}
use Rattle.fls_devices.specs.Overlay.{Overlaid, overlaid, IsPassed, IsHarmed, told_over}

-- the flash that fails, the changing operations that are still to fail with the bytes that are done of each, the read
-- calls that fail, and the changing operations and read calls so far
pub record Scripted : Type 0 where
  pub flash : Overlaid
  pub changing : List (ℕ × ℕ)
  pub reads : List ℕ
  pub asked : ℕ
  pub read_calls : ℕ

-- a new one
abbrev pub scripted : Told → List (ℕ × ℕ) → List ℕ → Scripted
scripted inner changing reads = record { flash = overlaid inner (empty_journal (length changing)); changing = changing; reads = reads; asked = 0; read_calls = 0 }

-- what is told of it; its planned cuts are those of the inner flash
abbrev pub told_scripted : Scripted → Told
told_scripted s = told_over s.flash.inner.planning s.flash

-- the bytes that are done of the operation with this number, where it is listed
abbrev pub kept_of : List (ℕ × ℕ) → ℕ → Option ℕ
kept_of [] n = None
kept_of (x ∷ xs) n = if nat_eq x.0 n then Some x.1 else kept_of xs n

-- the list without its first item of this number
abbrev pub without : List (ℕ × ℕ) → ℕ → List (ℕ × ℕ)
without [] n = []
without (x ∷ xs) n = if nat_eq x.0 n then xs else x ∷ without xs n

abbrev pub FailsOrPassed : Option ℕ → Op → Overlaid → FlashAnswer → Overlaid → Type 0
FailsOrPassed (Some keep) op old answer new = IsHarmed Fault keep op old answer new
FailsOrPassed None op old answer new = IsPassed op old answer new

-- an operation that is asked for while no cut stands counts; a listed one fails, every other one is handed on
pub record IsCounted (op : Op) (old : Scripted) (answer : FlashAnswer) (new : Scripted) : Type 0 where
  pub asked : new.asked ≡ next_count old.asked
  pub flash : FailsOrPassed (kept_of old.changing new.asked) op old.flash answer new.flash
  pub changing : new.changing ≡ without old.changing new.asked
  pub reads : new.reads ≡ old.reads
  pub read_calls : new.read_calls ≡ old.read_calls

abbrev pub OffOrCounted : Bool → Op → Scripted → FlashAnswer → Scripted → Type 0
OffOrCounted true op old answer new = (answer ≡ Off) × (new ≡ old)
OffOrCounted false op old answer new = IsCounted op old answer new

-- a read that comes while no cut stands counts; a listed one fails and gives nothing, every other one is handed on
pub record IsReadCounted (address : ℕ) (old : Scripted) (before : List ℕ) (answer : FlashAnswer) (into : List ℕ) (new : Scripted) : Type 0 where
  pub read_calls : new.read_calls ≡ next_count old.read_calls
  pub fails : Contains old.reads new.read_calls → (answer ≡ Failed) × (into ≡ before) × (new.flash ≡ record old.flash { faults = next_count old.flash.faults })
  pub reads : ¬ Contains old.reads new.read_calls → IsRead address old.flash.inner before answer into new.flash.inner
  pub same : new ≡ record old { flash = new.flash; read_calls = new.read_calls }

abbrev pub OffOrReadCounted : Bool → ℕ → Scripted → List ℕ → FlashAnswer → List ℕ → Scripted → Type 0
OffOrReadCounted true address old before answer into new = (answer ≡ Off) × (new ≡ old)
OffOrReadCounted false address old before answer into new = IsReadCounted address old before answer into new
