-- What is told of a flash.
use Rattle.std.specs.Prelude.{◌≡◌, ◌<◌, ◌≤◌, ◌+◌, ◌%◌, ℕ, Bool, false, List, Option, Some, None, IsSome, option_map}
use Rattle.nv_base.specs.declared.geometry.Geometry.{Geometry}
use Rattle.nv_base.specs.Geometry.{size_of}
use Rattle.fls_model.specs.declared.flash.FlashAnswer.{FlashAnswer}
use Rattle.fls_model.specs.Op.{Op}
use Rattle.nv_base.specs.Plan.{Planning, planned, dropped}

-- a changing operation that was asked for, with the bytes before it and its answer
pub record Change : Type 0 where
  pub op : Op
  pub before : List ℕ
  pub answer : FlashAnswer

-- what is told of the bytes: the bytes now, and each changing operation since the attach, where these are told too, with how
-- many more are surely told from here on
pub record ToldBytes : Type 0 where
  pub now : List ℕ
  pub changes : Option (List Change)
  pub room : ℕ

-- the changes are told, and so many more will be
abbrev pub TellsFor : ℕ → ToldBytes → Type 0
TellsFor n b = IsSome b.changes × (n ≤ b.room)

pub record Told : Type 0 where
  -- all zeros until it is attached
  pub geometry : Geometry
  -- where it tells its bytes
  pub bytes : Option ToldBytes
  -- the changing operations that it was asked for
  pub ops : ℕ
  pub faults : ℕ
  pub cuts : ℕ
  -- a cut stands
  pub off : Bool
  -- the cuts that are planned, and those that came without a plan
  pub planning : Planning

-- the bytes now, where they are told
abbrev pub bytes_now : Told → Option (List ℕ)
bytes_now t = option_map (λ b. b.now) t.bytes

-- the list of changes, where it is told
abbrev pub changes_in : Option ToldBytes → Option (List Change)
changes_in (Some b) = b.changes
changes_in None = None

-- behind a call of arm
abbrev pub armed : ℕ → ℕ → Told → Told
armed nth keep t = record t { planning = planned nth keep t.planning }

-- the power is on, and no plan stands
abbrev pub powered : Told → Told
powered t = record t { off = false; planning = dropped t.planning }

-- both are told and a fact holds of them, or neither is told
abbrev pub IfBothTold : {A : Type 0} → Option A → Option A → (A → A → Type 0) → Type 0
IfBothTold (Some a) (Some b) P = P a b
IfBothTold None None P = Unit {0}
IfBothTold _ _ P = ⊥

-- WHERE A CALL MAY REACH

pub record HasRange (t : Told) (address n : ℕ) : Type 0 where
  pub inside : address + n ≤ size_of t.geometry

pub record HasPage (t : Told) (address n : ℕ) : Type 0 where
  pub attached : 0 < t.geometry.page
  pub page : n ≡ t.geometry.page
  pub small : n ≤ 256
  pub aligned : address % t.geometry.page ≡ 0
  pub inside : address + n ≤ size_of t.geometry

pub record HasSector (t : Told) (sector : ℕ) : Type 0 where
  pub inside : sector < t.geometry.sectors
