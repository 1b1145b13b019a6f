-- One item of a configuration's blocks: its rules, 11 to 22 and 25, and the block that it describes.
use Rattle.std.specs.Prelude.{ℕ, ◌==◌, ◌&&◌, ◌||◌, nat_le, Bool, true, false, not, if◌then◌else◌, List, [], length, map, codes, Option, Some, None, is_some, unwrap_or, option_and_then, option_map}
use Rattle.std.specs.List.{list_all}
use Rattle.std.specs.Str.{bytes_eq}
use Rattle.serde_json.specs.Data.{Data}
use Rattle.serde_json.specs.Find.{get, as_array, as_bool, as_object, as_str}
use Rattle.block_config.specs.declared.block.BlockDesc.{BlockDesc}
use Rattle.block_config.specs.declared.block.BlockKind.{BlockKind}
use Rattle.block_config.specs.declared.block.BlockKind.TheVariants.{Native, Redundant, Dataset}
use Rattle.block_config.specs.declared.block.RamKind.{RamKind}
use Rattle.block_config.specs.declared.block.RamKind.TheVariants.{Permanent, Sync}
use Rattle.block_config.specs.declared.block.RamKind.TheVariants as ram
use Rattle.block_config.specs.Content.{content_of}
use Rattle.block_config.specs.Field.{has_keys, number_in, needed, optional}
use Rattle.block_config.specs.Head.{list_of}

abbrev pub is_content_key : List ℕ → Bool
is_content_key k = bytes_eq k (codes "kind") || bytes_eq k (codes "length") || bytes_eq k (codes "defaults") || bytes_eq k (codes "nv") || bytes_eq k (codes "rom")

abbrev pub is_flag_key : List ℕ → Bool
is_flag_key k = bytes_eq k (codes "ram") || bytes_eq k (codes "readall") || bytes_eq k (codes "writeall")
    || bytes_eq k (codes "once") || bytes_eq k (codes "protected") || bytes_eq k (codes "resistant")

abbrev pub is_number_key : List ℕ → Bool
is_number_key k = bytes_eq k (codes "priority") || bytes_eq k (codes "reads") || bytes_eq k (codes "writes") || bytes_eq k (codes "repeats") || bytes_eq k (codes "device")

-- 11: an item is an object whose keys are all among these
abbrev pub is_item_key : List ℕ → Bool
is_item_key k = is_content_key k || is_flag_key k || is_number_key k

-- 12: a block without a kind is native
abbrev pub kind_named : List ℕ → Option BlockKind
kind_named k = if bytes_eq k (codes "native") then Some Native else (if bytes_eq k (codes "redundant") then Some Redundant else (if bytes_eq k (codes "dataset") then Some Dataset else None))

abbrev pub kind_at : Data → Option BlockKind
kind_at d = optional (codes "kind") Native (λ v. option_and_then kind_named (as_str v)) d

abbrev pub kind_of : Data → BlockKind
kind_of d = unwrap_or (kind_at d) Native

abbrev pub is_dataset : BlockKind → Bool
is_dataset Native = false
is_dataset Redundant = false
is_dataset Dataset = true

-- 13: a content has 1 to 4,096 bytes
abbrev pub length_at : Data → Option ℕ
length_at d = needed (codes "length") (number_in 1 4096) d

abbrev pub length_of : Data → ℕ
length_of d = unwrap_or (length_at d) 0

-- 14: a block without a priority has 100
abbrev pub priority_at : Data → Option ℕ
priority_at d = optional (codes "priority") 100 (number_in 0 255) d

-- 15: a block has no RAM where none is named
abbrev pub ram_named : List ℕ → Option RamKind
ram_named k = if bytes_eq k (codes "none") then Some ram.None else (if bytes_eq k (codes "permanent") then Some Permanent else (if bytes_eq k (codes "sync") then Some Sync else None))

abbrev pub ram_at : Data → Option RamKind
ram_at d = optional (codes "ram") ram.None (λ v. option_and_then ram_named (as_str v)) d

abbrev pub ram_of : Data → RamKind
ram_of d = unwrap_or (ram_at d) ram.None

abbrev pub has_ram : RamKind → Bool
has_ram ram.None = false
has_ram Permanent = true
has_ram Sync = true

-- a string that is a content
abbrev pub content_in : Data → Option (List ℕ)
content_in d = option_and_then content_of (as_str d)

abbrev pub has_length : ℕ → Option (List ℕ) → Bool
has_length n None = false
has_length n (Some bytes) = length bytes == n

-- 16: defaults are a content of the block's length, and the block isn't a dataset
abbrev pub are_defaults : BlockKind → ℕ → Option Data → Bool
are_defaults kind n None = true
are_defaults kind n (Some d) = not (is_dataset kind) && has_length n (content_in d)

-- 17: a dataset names 1 to 64 stored datasets, and no other block names any
abbrev pub count_for : BlockKind → Option Data → Option ℕ
count_for Native nv = if is_some nv then None else Some 0
count_for Redundant nv = if is_some nv then None else Some 0
count_for Dataset nv = option_and_then (number_in 1 64) nv

abbrev pub count_at : Data → Option ℕ
count_at d = count_for (kind_of d) (get (codes "nv") d)

-- 18: only a dataset has ROM datasets, at most 16 contents of the block's length
abbrev pub are_contents : ℕ → Option (List Data) → Bool
are_contents n None = false
are_contents n (Some ds) = nat_le (length ds) 16 && list_all (λ d. has_length n (content_in d)) ds

abbrev pub items_in : Data → Option (List Data)
items_in d = option_map list_of (as_array d)

abbrev pub are_rom_datasets : BlockKind → ℕ → Option Data → Bool
are_rom_datasets kind n None = true
are_rom_datasets kind n (Some d) = is_dataset kind && are_contents n (items_in d)

-- 19: true or false, and false where it is absent
abbrev pub truth_at : List ℕ → Data → Option Bool
truth_at key d = optional key false as_bool d

abbrev pub truth_of : List ℕ → Data → Bool
truth_of key d = unwrap_or (truth_at key d) false

abbrev pub are_truths : Data → Bool
are_truths d = is_some (truth_at (codes "readall") d) && is_some (truth_at (codes "writeall") d)
    && is_some (truth_at (codes "once") d) && is_some (truth_at (codes "protected") d) && is_some (truth_at (codes "resistant") d)

-- 20: a member of a sweep has RAM
abbrev pub may_be_member : Data → Bool
may_be_member d = has_ram (ram_of d) || not (truth_of (codes "readall") d || truth_of (codes "writeall") d)

-- 21: a dataset isn't write-once
abbrev pub may_be_once : Data → Bool
may_be_once d = not (truth_of (codes "once") d && is_dataset (kind_of d))

-- 22: at most seven further tries, and none where they are absent
abbrev pub tries_at : List ℕ → Data → Option ℕ
tries_at key d = optional key 0 (number_in 0 7) d

abbrev pub are_tries : Data → Bool
are_tries d = is_some (tries_at (codes "reads") d) && is_some (tries_at (codes "writes") d) && is_some (tries_at (codes "repeats") d)

-- 25: a block is the first device's where it names none
abbrev pub device_at : Data → Option ℕ
device_at d = optional (codes "device") 0 (number_in 0 1) d

-- whether an item keeps the rule with this number
abbrev pub keeps : ℕ → Data → Bool
keeps number d =
    if number == 11 then has_keys is_item_key (as_object d)
    else (if number == 12 then is_some (kind_at d)
    else (if number == 13 then is_some (length_at d)
    else (if number == 14 then is_some (priority_at d)
    else (if number == 15 then is_some (ram_at d)
    else (if number == 16 then are_defaults (kind_of d) (length_of d) (get (codes "defaults") d)
    else (if number == 17 then is_some (count_at d)
    else (if number == 18 then are_rom_datasets (kind_of d) (length_of d) (get (codes "rom") d)
    else (if number == 19 then are_truths d
    else (if number == 20 then may_be_member d
    else (if number == 21 then may_be_once d
    else (if number == 22 then are_tries d
    else is_some (device_at d))))))))))))

-- THE BLOCK THAT AN ITEM DESCRIBES: where its device isn't one, it isn't the first
abbrev pub contents_of : Option (List Data) → List (List ℕ)
contents_of None = []
contents_of (Some ds) = map (λ d. unwrap_or (content_in d) []) ds

abbrev pub block_of : Data → BlockDesc
block_of d = record {
  kind = kind_of d;
  length = length_of d;
  priority = unwrap_or (priority_at d) 0;
  ram = ram_of d;
  defaults = option_and_then content_in (get (codes "defaults") d);
  nv = unwrap_or (count_at d) 0;
  rom = contents_of (option_and_then items_in (get (codes "rom") d));
  readall = truth_of (codes "readall") d;
  writeall = truth_of (codes "writeall") d;
  once = truth_of (codes "once") d;
  protected = truth_of (codes "protected") d;
  resistant = truth_of (codes "resistant") d;
  reads = unwrap_or (tries_at (codes "reads") d) 0;
  writes = unwrap_or (tries_at (codes "writes") d) 0;
  repeats = unwrap_or (tries_at (codes "repeats") d) 0;
  device = unwrap_or (device_at d) 1;
}
