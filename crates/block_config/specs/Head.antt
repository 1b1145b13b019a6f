-- The rules of a configuration's text that aren't about one block: 2 to 10, and 29.
use Rattle.std.specs.Prelude.{ℕ, ◌*◌, ◌%◌, ◌==◌, ◌&&◌, ◌||◌, nat_le, Bool, if◌then◌else◌, List, [], ◌∷◌, length, codes, Option, Some, None, option_and_then, Result, Ok, Err, ⊤}
use Rattle.std.specs.Option.{ok_or}
use Rattle.std.specs.Str.{bytes_eq}
use Rattle.serde_json.specs.Data.{Data, Items, no_items, item}
use Rattle.serde_json.specs.Find.{as_array, as_object}
use Rattle.nv_base.specs.declared.geometry.Geometry.{Geometry}
use Rattle.block_config.specs.declared.fault.ConfigFault.{ConfigFault}
use Rattle.block_config.specs.declared.fault.ConfigFault.TheVariants.{Broken}
use Rattle.block_config.specs.declared.head.Head.{Head}
use Rattle.block_config.specs.Field.{has_keys, number_in, needed, optional}

-- a value, or the fault of a rule that isn't about one block
abbrev pub rule : {A : Type 0} → ℕ → Option A → Result A ConfigFault
rule number o = ok_or o (Broken number 0)

-- a rule that only tests
abbrev pub holds : ℕ → Bool → Result ⊤ ConfigFault
holds number test = if test then Ok tt else Err (Broken number 0)

-- the rules that follow, where those before held
infixl 10 ◌>>=◌
abbrev pub ◌>>=◌ : {A B : Type 0} → Result A ConfigFault → (A → Result B ConfigFault) → Result B ConfigFault
Ok a >>= f = f a
Err e >>= f = Err e

-- 2: the value is an object whose keys are all among the nine
abbrev pub is_head_key : List ℕ → Bool
is_head_key k =
    bytes_eq k (codes "id") || bytes_eq k (codes "page") || bytes_eq k (codes "sector") || bytes_eq k (codes "sectors")
    || bytes_eq k (codes "standard") || bytes_eq k (codes "immediate") || bytes_eq k (codes "blocks") || bytes_eq k (codes "eeprom") || bytes_eq k (codes "banks")

-- 4: a page has 16, 32, 64, 128 or 256 bytes
abbrev pub page_at : Data → Option ℕ
page_at d = option_and_then (λ n. if n == 16 || n == 32 || n == 64 || n == 128 || n == 256 then Some n else None) (needed (codes "page") (number_in 16 256) d)

-- 5: a sector has whole pages, four or more, and at most 65,536 bytes
abbrev pub sector_at : ℕ → Data → Option ℕ
sector_at page d = option_and_then (λ n. if n % page == 0 && nat_le (4 * page) n then Some n else None) (needed (codes "sector") (number_in 0 65536) d)

-- 6: there are 2 to 64 sectors, an even number
abbrev pub sectors_at : Data → Option ℕ
sectors_at d = option_and_then (λ n. if n % 2 == 0 then Some n else None) (needed (codes "sectors") (number_in 2 64) d)

-- 4 to 7; 7: the flash has at most 4,194,304 bytes
abbrev pub geometry_of : Data → Result Geometry ConfigFault
geometry_of d = do
  page ← rule 4 (page_at d)
  sector ← rule 5 (sector_at page d)
  sectors ← rule 6 (sectors_at d)
  _ ← holds 7 (nat_le (sector * sectors) 4194304)
  Ok (record { page = page; sector = sector; sectors = sectors })

-- 2 to 9; 3: the configuration id is 0 to 65,535; 8 and 9: a queue has room for 1 to 256 jobs
abbrev pub head_of : Data → Result Head ConfigFault
head_of d = do
  _ ← holds 2 (has_keys is_head_key (as_object d))
  id ← rule 3 (needed (codes "id") (number_in 0 65535) d)
  geometry ← geometry_of d
  standard ← rule 8 (needed (codes "standard") (number_in 1 256) d)
  immediate ← rule 9 (needed (codes "immediate") (number_in 1 256) d)
  Ok (record { id = id; geometry = geometry; standard = standard; immediate = immediate })

-- the values of an array
abbrev pub list_of : Items → List Data
list_of no_items = []
list_of (item d ds) = d ∷ list_of ds

-- 10: there are 1 to 511 blocks
abbrev pub blocks_at : Data → Option (List Data)
blocks_at d =
    option_and_then (λ ds. if nat_le 1 (length (list_of ds)) && nat_le (length (list_of ds)) 511 then Some (list_of ds) else None) (needed (codes "blocks") as_array d)

-- 29: so many banks share the sectors, 2 to 8, and two where none is named
abbrev pub banks_at : Geometry → Data → Option ℕ
banks_at g d = option_and_then (λ n. if g.sectors % n == 0 then Some n else None) (optional (codes "banks") 2 (number_in 2 8) d)
