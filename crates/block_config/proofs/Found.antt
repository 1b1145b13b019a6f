-- The members of an item, found one after another.
use Rattle.std.proofs.Common.{◌≡◌, ◌∙◌, ℕ, ◌&&◌, Bool, true, false, List, Option, Some, None, Ordering, Less, Equal, Greater, is_eq, bytes_eq, nat_cmp, refl, sym, ap, subst, true≢false, codes}
use Rattle.std.proofs.lemmas.Map.Text.{is_eq-slice_cmp}
use Rattle.std.proofs.lemmas.Slice.Eq.{bytes_eq-Decides}
use Rattle.std.specs.Borrow.{Bor}
use Rattle.std.specs.Cmp.Lexicographic.{slice_cmp}
use Rattle.std.specs.List.{list_all}
use Rattle.std.specs.Ordering.{match_ordering}
use Rattle.serde_json.specs.Data.{Data, null, boolean, number, string, array, object, Members, no_members, member}
use Rattle.serde_json.specs.Find.{get_member, as_object}
use Rattle.serde_json.specs.declared.value.Value.{Value}
use Rattle.block_config.specs.declared.values.Values.{Values}
use Rattle.block_config.specs.Field.{shown, keys_of}
use Rattle.block_config.specs.Item.{is_item_key}
use Rattle.block_config.specs.Values.{ItemData, found_or, data_or, no_values, AreValues}

unequal_test : (a b : List ℕ) (test : Bool) → bytes_eq a b ≡ test → (a ≡ b → ⊥) → test ≡ false
unequal_test a b true e other = absurd (other ((bytes_eq-Decides a b).0 e))
unequal_test a b false e other = refl

unequal : (a b : List ℕ) → (a ≡ b → ⊥) → bytes_eq a b ≡ false
unequal a b other = unequal_test a b (bytes_eq a b) refl other

passed : (o : Ordering) (later here : Option Data) → is_eq o ≡ false → match_ordering o later here later ≡ later
passed Less later here other = refl
passed Equal later here other = absurd (true≢false other)
passed Greater later here other = refl

-- a member of another key isn't looked at
other_member : (name k : List ℕ) (d : Data) (ms : Members) → (k ≡ name → ⊥) → get_member name (member k d ms) ≡ get_member name ms
other_member name k d ms other =
    passed (slice_cmp nat_cmp name k) (get_member name ms) (Some d) (is_eq-slice_cmp name k ∙ unequal name k (λ same. other (sym same)))

and_false : (b : Bool) → (b && false) ≡ false
and_false true = refl
and_false false = refl

-- a key that is none of an item's
pub record IsUnknown (k : List ℕ) : Type 0 where
  pub kind : k ≡ codes "kind" → ⊥
  pub length : k ≡ codes "length" → ⊥
  pub defaults : k ≡ codes "defaults" → ⊥
  pub nv : k ≡ codes "nv" → ⊥
  pub rom : k ≡ codes "rom" → ⊥
  pub ram : k ≡ codes "ram" → ⊥
  pub readall : k ≡ codes "readall" → ⊥
  pub writeall : k ≡ codes "writeall" → ⊥
  pub once : k ≡ codes "once" → ⊥
  pub protected : k ≡ codes "protected" → ⊥
  pub resistant : k ≡ codes "resistant" → ⊥
  pub priority : k ≡ codes "priority" → ⊥
  pub reads : k ≡ codes "reads" → ⊥
  pub writes : k ≡ codes "writes" → ⊥
  pub repeats : k ≡ codes "repeats" → ⊥
  pub device : k ≡ codes "device" → ⊥

no_item_key : (k : List ℕ) → IsUnknown k → is_item_key k ≡ false
no_item_key k u =
    rw (unequal k (codes "kind") u.kind, unequal k (codes "length") u.length, unequal k (codes "defaults") u.defaults, unequal k (codes "nv") u.nv, unequal k (codes "rom") u.rom, unequal k (codes "ram") u.ram, unequal k (codes "readall") u.readall, unequal k (codes "writeall") u.writeall, unequal k (codes "once") u.once, unequal k (codes "protected") u.protected, unequal k (codes "resistant") u.resistant, unequal k (codes "priority") u.priority, unequal k (codes "reads") u.reads, unequal k (codes "writes") u.writes, unequal k (codes "repeats") u.repeats, unequal k (codes "device") u.device) refl

never_known : (known key later : Bool) → key ≡ false → false ≡ (known && (key && later))
never_known known key later other = rw (other, and_false known)

-- it shows that the item is none, and nothing else
pub unknown_member : (v : Values) (k : List ℕ) (d : Data) (ms : Members) → IsUnknown k → data_or (record v { known = false }) ms ≡ data_or v (member k d ms)
unknown_member v k d ms u = λ i. record {
  known = never_known v.known (is_item_key k) (list_all is_item_key (keys_of ms)) (no_item_key k u) i;
  kind = found_or v.kind (sym (other_member (codes "kind") k d ms u.kind) i);
  length = found_or v.length (sym (other_member (codes "length") k d ms u.length) i);
  priority = found_or v.priority (sym (other_member (codes "priority") k d ms u.priority) i);
  ram = found_or v.ram (sym (other_member (codes "ram") k d ms u.ram) i);
  defaults = found_or v.defaults (sym (other_member (codes "defaults") k d ms u.defaults) i);
  nv = found_or v.nv (sym (other_member (codes "nv") k d ms u.nv) i);
  rom = found_or v.rom (sym (other_member (codes "rom") k d ms u.rom) i);
  readall = found_or v.readall (sym (other_member (codes "readall") k d ms u.readall) i);
  writeall = found_or v.writeall (sym (other_member (codes "writeall") k d ms u.writeall) i);
  once = found_or v.once (sym (other_member (codes "once") k d ms u.once) i);
  protected = found_or v.protected (sym (other_member (codes "protected") k d ms u.protected) i);
  resistant = found_or v.resistant (sym (other_member (codes "resistant") k d ms u.resistant) i);
  reads = found_or v.reads (sym (other_member (codes "reads") k d ms u.reads) i);
  writes = found_or v.writes (sym (other_member (codes "writes") k d ms u.writes) i);
  repeats = found_or v.repeats (sym (other_member (codes "repeats") k d ms u.repeats) i);
  device = found_or v.device (sym (other_member (codes "device") k d ms u.device) i);
}

and_true : (b : Bool) → (b && true) ≡ b
and_true true = refl
and_true false = refl

-- where nothing is left to be found, it is what was found
found_all : (o : Option (Bor Value)) → shown o ≡ found_or o None
found_all None = refl
found_all (Some v) = refl

all_found : (v : Values) (ms : Members) → data_or v no_members ≡ data_or no_values ms → AreValues v (object ms)
all_found v ms e = record {
  known = sym (and_true v.known) ∙ ap (λ (i : ItemData). i.known) e;
  kind = found_all v.kind ∙ ap (λ (i : ItemData). i.kind) e;
  length = found_all v.length ∙ ap (λ (i : ItemData). i.length) e;
  priority = found_all v.priority ∙ ap (λ (i : ItemData). i.priority) e;
  ram = found_all v.ram ∙ ap (λ (i : ItemData). i.ram) e;
  defaults = found_all v.defaults ∙ ap (λ (i : ItemData). i.defaults) e;
  nv = found_all v.nv ∙ ap (λ (i : ItemData). i.nv) e;
  rom = found_all v.rom ∙ ap (λ (i : ItemData). i.rom) e;
  readall = found_all v.readall ∙ ap (λ (i : ItemData). i.readall) e;
  writeall = found_all v.writeall ∙ ap (λ (i : ItemData). i.writeall) e;
  once = found_all v.once ∙ ap (λ (i : ItemData). i.once) e;
  protected = found_all v.protected ∙ ap (λ (i : ItemData). i.protected) e;
  resistant = found_all v.resistant ∙ ap (λ (i : ItemData). i.resistant) e;
  reads = found_all v.reads ∙ ap (λ (i : ItemData). i.reads) e;
  writes = found_all v.writes ∙ ap (λ (i : ItemData). i.writes) e;
  repeats = found_all v.repeats ∙ ap (λ (i : ItemData). i.repeats) e;
  device = found_all v.device ∙ ap (λ (i : ItemData). i.device) e;
}

-- the values of an object
pub object_values : (v : Values) (d : Data) (ms : Members) → Some ms ≡ as_object d → data_or v no_members ≡ data_or no_values ms → AreValues v d
object_values v (object ns) ms is e = let same : ms ≡ ns = cc in subst (λ (all : Members). AreValues v (object all)) same (all_found v ms e)
object_values v null ms is e = cc is
object_values v (boolean b) ms is e = cc is
object_values v (number n) ms is e = cc is
object_values v (string s) ms is e = cc is
object_values v (array ds) ms is e = cc is

-- those of another value
pub no_object_values : (d : Data) → None ≡ as_object d → AreValues (record no_values { known = false }) d
no_object_values (object ms) is = cc is
no_object_values null is = search
no_object_values (boolean b) is = search
no_object_values (number n) is = search
no_object_values (string s) is = search
no_object_values (array ds) is = search
