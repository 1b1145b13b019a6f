-- What a device over slots is made for.
use Rattle.std.specs.Prelude.{◌≤◌, ◌*◌, ◌==◌, if◌then◌else◌, ℕ, suc, List, [], ◌∷◌, length, Option, Some, None}
use Rattle.nv_base.specs.declared.geometry.Geometry.{Geometry}
use Rattle.nv_base.specs.declared.instance.DeviceNumber.{DeviceNumber}
use Rattle.nv_base.specs.Geometry.{IsLegal}
use Rattle.nv_base.specs.Lengths.{AreLengths}

-- the shape of its flash, and its numbers with their lengths
pub record Making : Type 0 where
  pub geometry : Geometry
  pub numbers : List (DeviceNumber × ℕ)

-- a sector has room for each content
abbrev pub AllFit : ℕ → List (DeviceNumber × ℕ) → Type 0
AllFit sector [] = Unit {0}
AllFit sector (x ∷ xs) = (x.1 ≤ sector) × AllFit sector xs

-- each number has four sectors
pub record HasSlots (m : Making) : Type 0 where
  pub legal : IsLegal m.geometry
  pub lengths : AreLengths 0 m.numbers
  pub room : 4 * length m.numbers ≤ m.geometry.sectors
  pub fit : AllFit m.geometry.sector m.numbers

-- PLACES
-- where a number stands, from the j-th on, with its length
abbrev pub entry_from : ℕ → List (DeviceNumber × ℕ) → ℕ → Option (ℕ × (DeviceNumber × ℕ))
entry_from j [] n = None
entry_from j (x ∷ xs) n = if x.0.0 == n then Some (j, x) else entry_from (suc j) xs n

abbrev pub entry_of : Making → ℕ → Option (ℕ × (DeviceNumber × ℕ))
entry_of m n = entry_from 0 m.numbers n

-- what is said of a place, or this of a number that isn't configured
abbrev pub at_entry : {A : Type 0} → A → (ℕ → DeviceNumber × ℕ → A) → Option (ℕ × (DeviceNumber × ℕ)) → A
at_entry none f None = none
at_entry none f (Some e) = f e.0 e.1

-- what is said of each place, from the j-th on
abbrev pub listed : {A : Type 0} → (ℕ → DeviceNumber × ℕ → A) → ℕ → List (DeviceNumber × ℕ) → List A
listed f j [] = []
listed f j (x ∷ xs) = f j x ∷ listed f (suc j) xs
