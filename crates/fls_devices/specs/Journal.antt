-- The operations that a device cut or failed, and the list of all changes.
use Rattle.std.specs.Prelude.{◌≡◌, ◌+◌, ℕ, zero, suc, Bool, true, false, List, [], ◌∷◌, ◌++◌, take, drop, length, Option, Some, None, option_map}
use Rattle.nv_base.specs.declared.geometry.Geometry.{Geometry}
use Rattle.fls_model.specs.Told.{Told, Change, ToldBytes, changes_in}
use Rattle.fls_model.specs.declared.flash.FlashAnswer.{FlashAnswer}
use Rattle.fls_model.specs.Op.{Op, part_of}
use Rattle.fls_model.specs.declared.call.Call.{Call}
use Rattle.fls_model.specs.Call.{op_of}

-- an operation that was cut or failed: how many operations reached the inner flash since the last such one, how many bytes
-- of this one were let be done, and the answer
pub record Harmed : Type 0 where
  pub call : Call
  pub since : ℕ
  pub keep : ℕ
  pub answer : FlashAnswer

-- where nothing of it is to be done nothing reaches the inner flash
abbrev pub has_reached : ℕ → Bool
has_reached zero = false
has_reached (suc keep) = true

-- the events since the attach, the operations that reached the inner flash since the last of them, and for how many more
-- events it has room
pub record Journaled : Type 0 where
  pub events : List Harmed
  pub since : ℕ
  pub room : ℕ

abbrev pub empty_journal : ℕ → Journaled
empty_journal room = record { events = []; since = 0; room = room }

-- the operations that a flash tells
abbrev pub listed : Option (List Change) → ℕ
listed (Some changes) = length changes
listed None = 0

-- by the first of these
abbrev pub listed_first : List Told → ℕ
listed_first [] = 0
listed_first (t ∷ ts) = listed (changes_in t.bytes)

-- it begins anew
pub record Clears (old new : Journaled) : Type 0 where
  pub events : new.events ≡ []
  pub since : new.since ≡ 0
  pub room : new.room ≡ old.room + length old.events

-- one operation more reached the inner flash
pub record Passes (old new : Journaled) : Type 0 where
  pub events : new.events ≡ old.events
  pub since : new.since ≡ old.since + 1
  pub room : new.room ≡ old.room

-- one event more
pub record Adds (e : Harmed) (old new : Journaled) : Type 0 where
  pub events : new.events ≡ old.events ++ e ∷ []
  pub since : new.since ≡ 0
  pub room : new.room + 1 ≡ old.room

-- one event more, of this operation
pub record AddsOf (g : Geometry) (op : Op) (keep : ℕ) (answer : FlashAnswer) (old new : Journaled) : Type 0 where
  pub event : Harmed
  pub asked : op_of g event.call ≡ op
  pub since : event.since ≡ old.since
  pub kept : event.keep ≡ keep
  pub answered : event.answer ≡ answer
  pub adds : Adds event old new

-- THE LIST OF ALL CHANGES
-- what an event changed, with the bytes before it
abbrev pub change_of : Geometry → Harmed → List ℕ → Change
change_of g e before = record { op = op_of g e.call; before = before; answer = e.answer }

-- the bytes before these changes, of which the last left `now`
abbrev pub before_all : List Change → List ℕ → List ℕ
before_all [] now = now
before_all (c ∷ cs) now = c.before

-- without the first one, where it is the part of an event that reached the inner flash
abbrev pub without_part : Bool → List Change → List Change
without_part true (c ∷ cs) = cs
without_part true [] = []
without_part false cs = cs

-- the inner flash's changes, with each event in its place
abbrev pub merged : Geometry → List Harmed → List Change → List ℕ → List Change
merged g [] changes now = changes
merged g (e ∷ es) changes now = take e.since changes ++ change_of g e (before_all (drop e.since changes) now) ∷ merged g es (without_part (has_reached e.keep) (drop e.since changes)) now

-- told where the inner flash tells its own
abbrev pub all_changes : Geometry → List Harmed → ToldBytes → Option (List Change)
all_changes g es b = option_map (λ changes. merged g es changes b.now) b.changes

-- THE PARTS OF EVENTS
-- the change of the inner flash is the part of so many bytes of the operation that was cut or failed
abbrev pub HasPart : ℕ → Op → List Change → Type 0
HasPart zero op cs = Unit {0}
HasPart (suc keep) op [] = ⊥
HasPart (suc keep) op (c ∷ cs) = c.op ≡ part_of (suc keep) op

-- each event that reached the inner flash has its part among these changes, at its place
abbrev pub HaveParts : Geometry → List Harmed → List Change → Type 0
HaveParts g [] changes = Unit {0}
HaveParts g (e ∷ es) changes = HasPart e.keep (op_of g e.call) (drop e.since changes) × HaveParts g es (without_part (has_reached e.keep) (drop e.since changes))

-- the inner flash's bytes with the list of all changes, where it tells its bytes
abbrev pub bytes_over : Journaled → Geometry → Option ToldBytes → Option ToldBytes
bytes_over j g bytes = option_map (λ b. record { now = b.now; changes = all_changes g j.events b; room = b.room }) bytes
