-- The values that an item's members have, by the keys that an item may have.
use Rattle.std.specs.Prelude.{◌≡◌, ◌&&◌, Bool, true, codes, Option, Some, None}
use Rattle.std.specs.Borrow.{Bor}
use Rattle.std.specs.List.{list_all}
use Rattle.serde_json.specs.Data.{Data, Members}
use Rattle.serde_json.specs.Find.{get, get_member, as_object}
use Rattle.serde_json.specs.View.{view}
use Rattle.serde_json.specs.declared.value.Value.{Value}
use Rattle.block_config.specs.declared.values.Values.{Values}
use Rattle.block_config.specs.Field.{shown, has_keys, keys_of}
use Rattle.block_config.specs.Item.{is_item_key}

-- whether all keys are an item's, and what each of these has
pub record ItemData : Type 0 where
  pub known : Bool
  pub kind : Option Data
  pub length : Option Data
  pub priority : Option Data
  pub ram : Option Data
  pub defaults : Option Data
  pub nv : Option Data
  pub rom : Option Data
  pub readall : Option Data
  pub writeall : Option Data
  pub once : Option Data
  pub protected : Option Data
  pub resistant : Option Data
  pub reads : Option Data
  pub writes : Option Data
  pub repeats : Option Data
  pub device : Option Data

-- what was found, and else what comes later
abbrev pub found_or : Option (Bor Value) → Option Data → Option Data
found_or None later = later
found_or (Some v) later = Some (view v.now)

-- those that were found, and else those of the members that follow
abbrev pub data_or : Values → Members → ItemData
data_or v ms = record {
  known = v.known && list_all is_item_key (keys_of ms);
  kind = found_or v.kind (get_member (codes "kind") ms);
  length = found_or v.length (get_member (codes "length") ms);
  priority = found_or v.priority (get_member (codes "priority") ms);
  ram = found_or v.ram (get_member (codes "ram") ms);
  defaults = found_or v.defaults (get_member (codes "defaults") ms);
  nv = found_or v.nv (get_member (codes "nv") ms);
  rom = found_or v.rom (get_member (codes "rom") ms);
  readall = found_or v.readall (get_member (codes "readall") ms);
  writeall = found_or v.writeall (get_member (codes "writeall") ms);
  once = found_or v.once (get_member (codes "once") ms);
  protected = found_or v.protected (get_member (codes "protected") ms);
  resistant = found_or v.resistant (get_member (codes "resistant") ms);
  reads = found_or v.reads (get_member (codes "reads") ms);
  writes = found_or v.writes (get_member (codes "writes") ms);
  repeats = found_or v.repeats (get_member (codes "repeats") ms);
  device = found_or v.device (get_member (codes "device") ms);
}

-- none was found
abbrev pub no_values : Values
no_values = record {
  known = true;
  kind = None;
  length = None;
  priority = None;
  ram = None;
  defaults = None;
  nv = None;
  rom = None;
  readall = None;
  writeall = None;
  once = None;
  protected = None;
  resistant = None;
  reads = None;
  writes = None;
  repeats = None;
  device = None;
}

-- the values of an item: all of them were found
pub record AreValues (v : Values) (d : Data) : Type 0 where
  pub known : v.known ≡ has_keys is_item_key (as_object d)
  pub kind : shown v.kind ≡ get (codes "kind") d
  pub length : shown v.length ≡ get (codes "length") d
  pub priority : shown v.priority ≡ get (codes "priority") d
  pub ram : shown v.ram ≡ get (codes "ram") d
  pub defaults : shown v.defaults ≡ get (codes "defaults") d
  pub nv : shown v.nv ≡ get (codes "nv") d
  pub rom : shown v.rom ≡ get (codes "rom") d
  pub readall : shown v.readall ≡ get (codes "readall") d
  pub writeall : shown v.writeall ≡ get (codes "writeall") d
  pub once : shown v.once ≡ get (codes "once") d
  pub protected : shown v.protected ≡ get (codes "protected") d
  pub resistant : shown v.resistant ≡ get (codes "resistant") d
  pub reads : shown v.reads ≡ get (codes "reads") d
  pub writes : shown v.writes ≡ get (codes "writes") d
  pub repeats : shown v.repeats ≡ get (codes "repeats") d
  pub device : shown v.device ≡ get (codes "device") d
