-- What a program or an erase does.
use Rattle.std.specs.Prelude.{◌≡◌, ◌⊎◌, ◌≤◌, ◌+◌, ◌*◌, ℕ, Bool, true, false, List, [], ◌∷◌, ◌++◌, Option, Some, None}
use Rattle.nv_base.specs.Count.{Rose, next_count, last_count}
use Rattle.nv_base.specs.declared.geometry.Geometry.{Geometry}
use Rattle.fls_model.specs.declared.flash.FlashAnswer.{FlashAnswer}
use Rattle.fls_model.specs.declared.flash.FlashAnswer.TheVariants.{Done, Failed, Off}
use Rattle.fls_model.specs.Op.{Op, Program, Erase, after_op, MayLeave}
use Rattle.fls_model.specs.Plan.{PlanGoes}
use Rattle.fls_model.specs.Told.{Told, ToldBytes, Change, TellsFor, IfBothTold}

abbrev pub programs : ℕ → List ℕ → Op
programs = Program

abbrev pub erases : Geometry → ℕ → Op
erases g sector = Erase (sector * g.sector) g.sector

-- the bytes after an answer: a failed operation may have any effect of one that was cut
abbrev pub Leaves : Op → FlashAnswer → List ℕ → List ℕ → Type 0
Leaves op Done old new = new ≡ after_op op old
Leaves op Failed old new = MayLeave op old new
Leaves op Off old new = MayLeave op old new

-- the list of changes goes on by one, or isn't told any more
abbrev pub Notes : Change → Option (List Change) → Option (List Change) → Type 0
Notes change (Some old) (Some new) = new ≡ old ++ change ∷ []
Notes change None (Some new) = ⊥
Notes change old None = Unit {0}

-- what is told of the bytes, one changing operation further
pub record IsChanged (op : Op) (answer : FlashAnswer) (old new : ToldBytes) : Type 0 where
  pub bytes : Leaves op answer old.now new.now
  -- whatever the answer, the bytes are some that a cut may leave, all else is as it was
  pub within : MayLeave op old.now new.now
  pub changes : Notes (record { op = op; before = old.now; answer = answer }) old.changes new.changes
  -- it takes one place at most of those that the list surely has
  pub room : (n : ℕ) → TellsFor (n + 1) old → TellsFor n new

-- a fault and a cut have their counts, and a cut stands from its operation on; a cut may hide a fault
abbrev pub HasCause : FlashAnswer → Told → Told → Type 0
HasCause Done s t = (t.faults ≡ s.faults) × (t.cuts ≡ s.cuts) × (t.off ≡ false)
HasCause Failed s t = Rose s.faults t.faults × (t.cuts ≡ s.cuts) × (t.off ≡ false)
HasCause Off s t = (s.faults ≤ t.faults) × Rose s.cuts t.cuts × (t.off ≡ true)

-- each cut that no plan asked for is one of its cuts, whose count stands still at its end
abbrev pub CountsUnplanned : Told → Told → Type 0
CountsUnplanned s t = (t.planning.unplanned + s.cuts ≤ s.planning.unplanned + t.cuts) ⊎ (last_count ≤ t.cuts)

-- a changing operation that was asked for while no cut stood
pub record IsAsked (op : Op) (s : Told) (answer : FlashAnswer) (t : Told) : Type 0 where
  pub geometry : t.geometry ≡ s.geometry
  pub ops : t.ops ≡ next_count s.ops
  pub bytes : IfBothTold s.bytes t.bytes (IsChanged op answer)
  pub cause : HasCause answer s t
  pub planning : PlanGoes answer s.planning t.planning
  pub counted : CountsUnplanned s t

abbrev pub OffOrAsked : Bool → Op → Told → FlashAnswer → Told → Type 0
OffOrAsked true op s answer t = (answer ≡ Off) × (t ≡ s)
OffOrAsked false op s answer t = IsAsked op s answer t

-- while a cut stands nothing happens
abbrev pub IsStep : Op → Told → FlashAnswer → Told → Type 0
IsStep op s answer t = OffOrAsked s.off op s answer t
