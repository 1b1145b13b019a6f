-- The second device, and the rules on its shape and its blocks: 26 to 28.
use Rattle.std.specs.Prelude.{◌≡◌, ℕ, ◌+◌, ◌*◌, ◌≤◌, ◌==◌, ◌||◌, nat_le, Bool, true, false, if◌then◌else◌, List, [], ◌∷◌, codes, Option, Some, None, option_map, All}
use Rattle.std.specs.List.{list_all}
use Rattle.std.specs.Result.{result_ok}
use Rattle.std.specs.Str.{bytes_eq}
use Rattle.serde_json.specs.Data.{Data}
use Rattle.serde_json.specs.Find.{as_object}
use Rattle.nv_base.specs.Geometry.{IsLegal}
use Rattle.nv_base.specs.declared.geometry.Geometry.{Geometry}
use Rattle.block_config.specs.declared.block.BlockDesc.{BlockDesc}
use Rattle.block_config.specs.Field.{has_keys}
use Rattle.block_config.specs.Head.{geometry_of}
use Rattle.block_config.specs.Sizes.{second_instances}

-- whether these blocks are all the first device's
abbrev pub are_first : List BlockDesc → Bool
are_first blocks = list_all (λ b. b.device == 0) blocks

-- 26: a shape is an object of exactly these keys that keep rules 4 to 7
abbrev pub is_shape_key : List ℕ → Bool
is_shape_key k = bytes_eq k (codes "page") || bytes_eq k (codes "sector") || bytes_eq k (codes "sectors")

abbrev pub shape_in : Data → Option Geometry
shape_in d = if has_keys is_shape_key (as_object d) then result_ok (geometry_of d) else None

-- 26: one is named exactly where a block isn't the first device's
abbrev pub eeprom_for : Bool → Option Data → Option (Option Geometry)
eeprom_for true None = Some None
eeprom_for true (Some d) = None
eeprom_for false None = None
eeprom_for false (Some d) = option_map Some (shape_in d)

-- 27: a block of the second device is at most one sector long
abbrev pub fits_in : ℕ → BlockDesc → Bool
fits_in sector b = b.device == 0 || nat_le b.length sector

-- the first that isn't, of blocks whose ids count from this one on
abbrev pub too_long : ℕ → ℕ → List BlockDesc → Option ℕ
too_long sector id [] = None
too_long sector id (b ∷ bs) = if fits_in sector b then too_long sector (id + 1) bs else Some id

-- the rules of the second device's flash
pub record IsSecond (blocks : List BlockDesc) (g : Geometry) : Type 0 where
  -- 4 to 7
  pub shape : IsLegal g
  pub lengths : All (λ b. fits_in g.sector b ≡ true) blocks
  -- 28: two slots of two sectors for each of its instances
  pub slots : 4 * second_instances blocks ≤ g.sectors
