-- Members of a JSON object, as a configuration has them. Where a key stands twice its last value counts, as in the
-- value that a JSON reader makes of the text.
use Rattle.std.specs.Prelude.{ℕ, ◌&&◌, nat_le, Bool, false, if◌then◌else◌, List, [], ◌∷◌, Option, Some, None, option_and_then, option_map}
use Rattle.std.specs.Borrow.{Bor}
use Rattle.std.specs.List.{list_all}
use Rattle.serde_json.specs.Data.{Data, Members, no_members, member}
use Rattle.serde_json.specs.Find.{get, as_number, as_u64}
use Rattle.serde_json.specs.View.{view}
use Rattle.serde_json.specs.declared.value.Value.{Value}

-- what a value is, where there is one
abbrev pub shown : Option (Bor Value) → Option Data
shown o = option_map (λ v. view v.now) o

abbrev pub keys_of : Members → List (List ℕ)
keys_of no_members = []
keys_of (member k d ms) = k ∷ keys_of ms

-- an object whose keys all pass a test
abbrev pub has_keys : (List ℕ → Bool) → Option Members → Bool
has_keys is_key None = false
has_keys is_key (Some ms) = list_all is_key (keys_of ms)

abbrev pub within : ℕ → ℕ → ℕ → Option ℕ
within low high n = if nat_le low n && nat_le n high then Some n else None

-- a number of digits alone, without sign, fraction and exponent, within bounds
abbrev pub number_in : ℕ → ℕ → Data → Option ℕ
number_in low high d = option_and_then (within low high) (option_and_then as_u64 (as_number d))

-- what a member is read as
abbrev pub needed : {A : Type 0} → List ℕ → (Data → Option A) → Data → Option A
needed key f d = option_and_then f (get key d)

abbrev pub if_given : {A : Type 0} → A → (Data → Option A) → Option Data → Option A
if_given absent f None = Some absent
if_given absent f (Some d) = f d

-- what a member is read as, or what holds where it is absent
abbrev pub optional : {A : Type 0} → List ℕ → A → (Data → Option A) → Data → Option A
optional key absent f d = if_given absent f (get key d)
