-- What an attach does.
use Rattle.std.specs.Prelude.{◌≡◌, ◌≢◌, ◌⊎◌, ◌≤◌, ℕ, List, [], ◌∷◌, length, replicate, IfSome, Result, Ok, Err}
use Rattle.nv_base.specs.Count.{Rose}
use Rattle.nv_base.specs.Plan.{listed_anew}
use Rattle.nv_base.specs.Geometry.{size_of}
use Rattle.nv_base.specs.declared.geometry.Geometry.{Geometry}
use Rattle.fls_model.specs.declared.flash.AttachFault.{AttachFault}
use Rattle.fls_model.specs.declared.flash.AttachFault.TheVariants.{Failed, InUse, WrongSize, Memory}
use Rattle.fls_model.specs.Told.{Told, ToldBytes, TellsFor, IfBothTold}
use Rattle.fls_model.specs.Bytes.{AreBytes}

-- a flash of no bytes is blank
abbrev pub enlarged : ℕ → List ℕ → List ℕ
enlarged size [] = replicate size 255
enlarged size (x ∷ xs) = x ∷ xs

-- blank, or as large as a geometry
abbrev pub HasSize : Geometry → List ℕ → Type 0
HasSize g bytes = (bytes ≡ []) ⊎ (length bytes ≡ size_of g)

-- the bytes of a flash of a geometry: as many as it has, each of eight bits
pub record AreBytesOf (g : Geometry) (image : List ℕ) : Type 0 where
  pub size : length image ≡ size_of g
  pub bytes : AreBytes image

-- what is told of the bytes at an attach: they have the geometry's size from here on, and the list of changes
-- begins, for at least as many as before
pub record IsFilled (g : Geometry) (old new : ToldBytes) : Type 0 where
  pub size : HasSize g old.now
  pub bytes : new.now ≡ enlarged (size_of g) old.now
  pub are_bytes : AreBytesOf g new.now
  pub changes : IfSome new.changes (λ changes. changes ≡ [])
  pub room : (n : ℕ) → TellsFor n old → TellsFor n new

pub record IsAttached (g : Geometry) (s t : Told) : Type 0 where
  pub geometry : t.geometry ≡ g
  pub bytes : IfBothTold s.bytes t.bytes (IsFilled g)
  pub ops : t.ops ≡ s.ops
  pub faults : t.faults ≡ s.faults
  pub cuts : t.cuts ≡ s.cuts
  pub off : t.off ≡ s.off
  pub planning : t.planning ≡ listed_anew s.planning
  -- the cuts that came without a plan are among its cuts
  pub unplanned : t.planning.unplanned ≤ t.cuts

-- by its answer: attached, failed or in use by another call, each with a counted fault, of a wrong size, or without memory
abbrev pub IsAttach : Geometry → Told → Result (Unit {0}) AttachFault → Told → Type 0
IsAttach g s (Ok _) t = IsAttached g s t
IsAttach g s (Err Failed) t = Rose s.faults t.faults × (t ≡ record s { faults = t.faults })
IsAttach g s (Err InUse) t = Rose s.faults t.faults × (t ≡ record s { faults = t.faults })
IsAttach g s (Err (WrongSize found)) t = IfSome s.bytes (λ b. (length b.now ≡ found) × (found ≢ 0) × (found ≢ size_of g)) × (t ≡ s)
IsAttach g s (Err Memory) t = t ≡ s
