-- What a configuration line means.
use Rattle.std.specs.Prelude.{ℕ, ◌+◌, ◌*◌, nat_le, true, if◌then◌else◌, List, [], ◌∷◌, map, codes, Option, Some, None, option_map, Result, Ok, Err, ⊤}
use Rattle.std.specs.Option.{option_map_or}
use Rattle.std.specs.List.{range_with_len}
use Rattle.std.specs.Str.{bytes_eq, is_utf8}
use Rattle.serde_json.specs.Data.{Data}
use Rattle.serde_json.specs.Find.{get}
use Rattle.serde_json.specs.Read.{read as json_value}
use Rattle.nv_base.specs.Geometry.{pages_of_bank}
use Rattle.nv_base.specs.declared.geometry.Geometry.{Geometry}
use Rattle.block_config.specs.declared.block.BlockDesc.{BlockDesc}
use Rattle.block_config.specs.declared.fault.ConfigFault.{ConfigFault}
use Rattle.block_config.specs.declared.fault.ConfigFault.TheVariants.{Broken}
use Rattle.block_config.specs.declared.head.Head.{Head}
use Rattle.block_config.specs.Block.{manager_block}
use Rattle.block_config.specs.Config.{Configuration}
use Rattle.block_config.specs.DemoConfig.{demo_config}
use Rattle.block_config.specs.Head.{◌>>=◌, rule, holds, head_of, blocks_at, banks_at}
use Rattle.block_config.specs.Item.{keeps, block_of}
use Rattle.block_config.specs.Second.{are_first, eeprom_for, too_long}
use Rattle.block_config.specs.Sizes.{measures_of, second_instances, need_of}
use Rattle.block_config.specs.declared.sizes.Measures.{Measures}

-- the first block that breaks a rule, of blocks whose ids count from this one on
abbrev pub breaker : ℕ → ℕ → List Data → Option ℕ
breaker number id [] = None
breaker number id (d ∷ ds) = if keeps number d then breaker number (id + 1) ds else Some id

-- the first of these rules that a block breaks, with the first such block; the items begin at block 2
abbrev pub first_fault : List ℕ → List Data → Option ConfigFault
first_fault [] ds = None
first_fault (r ∷ rs) ds = option_map_or (λ block. Some (Broken r block)) (breaker r 2 ds) (first_fault rs ds)

-- 11 to 22
abbrev pub item_rules : List ℕ
item_rules = range_with_len 11 12

abbrev pub unless_fault : Option ConfigFault → Result ⊤ ConfigFault
unless_fault None = Ok tt
unless_fault (Some fault) = Err fault

-- 23: there are at most 4,096 instances; 24, where rule 29 holds: the pages that are needed have room in a bank
abbrev pub sized : Geometry → Option ℕ → Measures → Result ⊤ ConfigFault
sized g shared m = do
  _ ← holds 23 (nat_le m.instances 4096)
  holds 24 (option_map_or (λ banks. nat_le (need_of m) (pages_of_bank g banks)) shared true)

-- 27; 28: two slots of two sectors for each instance
abbrev pub second_fits : List BlockDesc → Option Geometry → Result ⊤ ConfigFault
second_fits blocks None = Ok tt
second_fits blocks (Some g) = do
  _ ← unless_fault (option_map (λ block. Broken 27 block) (too_long g.sector 1 blocks))
  holds 28 (nat_le (4 * second_instances blocks) g.sectors)

-- 26 to 28
abbrev pub second_of : Option Data → List BlockDesc → Result (Option Geometry) ConfigFault
second_of shape blocks = do
  second ← rule 26 (eeprom_for (are_first blocks) shape)
  _ ← second_fits blocks second
  Ok second

-- of a head, so many banks, a second device and these blocks
abbrev pub configuration : Head → ℕ → Option Geometry → List BlockDesc → Configuration
configuration h banks second blocks =
    record { id = h.id; geometry = h.geometry; banks = banks; eeprom = second; standard = h.standard; immediate = h.immediate; blocks = blocks }

-- 23 to 29
abbrev pub described : Head → Data → List Data → List BlockDesc → Result Configuration ConfigFault
described h d items blocks = do
  _ ← sized h.geometry (banks_at h.geometry d) (measures_of h.geometry.page blocks)
  _ ← unless_fault (first_fault (25 ∷ []) items)
  second ← second_of (get (codes "eeprom") d) blocks
  banks ← rule 29 (banks_at h.geometry d)
  Ok (configuration h banks second blocks)

-- 2 to 29; block 1 stands before those that the items describe
abbrev pub config_of : Data → Result Configuration ConfigFault
config_of d = do
  head ← head_of d
  items ← rule 10 (blocks_at d)
  _ ← unless_fault (first_fault item_rules items)
  described head d items (manager_block head.id ∷ map block_of items)

-- 1: the line is UTF-8 and a JSON text of nesting at most 127. Where a key stands twice, the last value counts.
-- The configuration, or the first broken rule with its first block.
abbrev pub meaning_of : List ℕ → Result Configuration ConfigFault
meaning_of line = if bytes_eq line (codes "@demo") then Ok demo_config else (rule 1 (if is_utf8 line then json_value line else None) >>= config_of)
