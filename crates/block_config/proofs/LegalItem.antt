-- An item that keeps its rules describes a legal block.
use Rattle.std.proofs.Common.{◌≡◌, ◌≤◌, ℕ, Bool, true, false, not, ◌&&◌, ◌||◌, ◌==◌, nat_le, List, [], length, get_or, Option, Some, None, is_some, unwrap_or, option_and_then, if◌then◌else◌, refl, arith, All, codes}
use Rattle.std.proofs.lemmas.Bool.Decides.{nat_tests}
use Rattle.std.proofs.lemmas.List.{length-map}
use Rattle.std.proofs.lemmas.List.Elements.{All-nil, All-map}
use Rattle.std.proofs.lemmas.List.Sums.{AllPass-from_list_all}
use Rattle.std.specs.List.{list_all}
use Rattle.serde_json.specs.Data.{Data}
use Rattle.serde_json.specs.Find.{get, as_number, as_u64}
use Rattle.block_config.specs.declared.block.BlockKind.{BlockKind}
use Rattle.block_config.specs.declared.block.BlockKind.TheVariants.{Native, Redundant, Dataset}
use Rattle.block_config.specs.declared.block.RamKind.{RamKind}
use Rattle.block_config.specs.declared.block.RamKind.TheVariants.{Permanent, Sync}
use Rattle.block_config.specs.declared.block.RamKind.TheVariants as ram
use Rattle.block_config.specs.Field.{within, number_in, if_given}
use Rattle.block_config.specs.Item.{keeps, block_of, kind_of, length_of, ram_of, truth_of, content_in, items_in, contents_of, is_dataset, has_length, are_defaults, count_for, are_contents, are_rom_datasets, has_ram}
use Rattle.block_config.specs.Rules.{IsLegalBlock, AreDefaults, IsDatasetCount, AreRomDatasets, MayBeMember, MayBeOnce}

pub both_true : (a b : Bool) → (a && b) ≡ true → (a ≡ true) × (b ≡ true)
both_true true b h = (refl, h)
both_true false b h = cc h

pub equal_from_test : (a b : ℕ) → (a == b) ≡ true → a ≡ b
equal_from_test a b h = grind (arith, nat_tests)

pub le_from_test : (a b : ℕ) → nat_le a b ≡ true → a ≤ b
le_from_test a b h = grind (arith, nat_tests)

-- a number that is read within bounds is within them
in_test : (b : Bool) (n absent : ℕ) (P : ℕ → Type 0) → is_some (if b then Some n else None) ≡ true → (b ≡ true → P n) → P (unwrap_or (if b then Some n else None) absent)
in_test true n absent P h within = within refl
in_test false n absent P h within = cc h

abbrev IsWithin : ℕ → ℕ → ℕ → Type 0
IsWithin low high n = (low ≤ n) × (n ≤ high)

in_bounds : (low high absent : ℕ) (o : Option ℕ) → is_some (option_and_then (within low high) o) ≡ true → IsWithin low high (unwrap_or (option_and_then (within low high) o) absent)
in_bounds low high absent None h = cc h
in_bounds low high absent (Some n) h =
    in_test (nat_le low n && nat_le n high) n absent (IsWithin low high) h (λ both. let tests = both_true (nat_le low n) (nat_le n high) both in (le_from_test low n tests.0, le_from_test n high tests.1))

needed_in_bounds : (low high absent : ℕ) (o : Option Data) → is_some (option_and_then (number_in low high) o) ≡ true → IsWithin low high (unwrap_or (option_and_then (number_in low high) o) absent)
needed_in_bounds low high absent None h = cc h
needed_in_bounds low high absent (Some d) h = in_bounds low high absent (option_and_then as_u64 (as_number d)) h

given_in_bounds : (low high given absent : ℕ) (o : Option Data) → IsWithin low high given → is_some (if_given given (number_in low high) o) ≡ true → IsWithin low high (unwrap_or (if_given given (number_in low high) o) absent)
given_in_bounds low high given absent None fits h = fits
given_in_bounds low high given absent (Some d) fits h = in_bounds low high absent (option_and_then as_u64 (as_number d)) h

length_from_test : (n : ℕ) (c : Option (List ℕ)) → has_length n c ≡ true → (bytes : List ℕ) × (c ≡ Some bytes) × (length bytes ≡ n)
length_from_test n None h = cc h
length_from_test n (Some bytes) h = (bytes, refl, equal_from_test (length bytes) n h)

-- 16
defaults_given : (kind : BlockKind) (n : ℕ) (c : Option (List ℕ)) → (not (is_dataset kind) && has_length n c) ≡ true → AreDefaults kind n c
defaults_given Native n c h = let given = length_from_test n c h in rw given.1 given.2
defaults_given Redundant n c h = let given = length_from_test n c h in rw given.1 given.2
defaults_given Dataset n c h = cc h

defaults_legal : (kind : BlockKind) (n : ℕ) (o : Option Data) → are_defaults kind n o ≡ true → AreDefaults kind n (option_and_then content_in o)
defaults_legal Native n None h = tt
defaults_legal Redundant n None h = tt
defaults_legal Dataset n None h = tt
defaults_legal kind n (Some d) h = defaults_given kind n (content_in d) h

-- 17
count_legal : (kind : BlockKind) (nv : Option Data) → is_some (count_for kind nv) ≡ true → IsDatasetCount kind (unwrap_or (count_for kind nv) 0)
count_legal Native None h = refl
count_legal Native (Some d) h = cc
count_legal Redundant None h = refl
count_legal Redundant (Some d) h = cc
count_legal Dataset nv h = needed_in_bounds 1 64 0 nv h

-- 18
content_length : (n : ℕ) (c : Option (List ℕ)) → has_length n c ≡ true → length (unwrap_or c []) ≡ n
content_length n c h = let given = length_from_test n c h in rw given.1 given.2

contents_legal : (n : ℕ) (o : Option (List Data)) → are_contents n o ≡ true → (length (contents_of o) ≤ 16) × All (λ content. length content ≡ n) (contents_of o)
contents_legal n None h = cc h
contents_legal n (Some ds) h =
    let tests = both_true (nat_le (length ds) 16) (list_all (λ d. has_length n (content_in d)) ds) h in
    let each = AllPass-from_list_all (λ (d : Data). has_length n (content_in d)) ds tests.1 in
    let few = le_from_test (length ds) 16 tests.0 in
    (rw length-map few, All-map (λ (content : List ℕ). length content ≡ n) (λ (d : Data). unwrap_or (content_in d) []) ds (λ k d lt. content_length n (content_in (get_or ds k d)) (each k d lt)))

rom_given : (kind : BlockKind) (n : ℕ) (o : Option (List Data)) → (is_dataset kind && are_contents n o) ≡ true → AreRomDatasets kind n (contents_of o)
rom_given Native n o h = cc h
rom_given Redundant n o h = cc h
rom_given Dataset n o h = contents_legal n o h

rom_legal : (kind : BlockKind) (n : ℕ) (o : Option Data) → are_rom_datasets kind n o ≡ true → AreRomDatasets kind n (contents_of (option_and_then items_in o))
rom_legal Native n None h = refl
rom_legal Redundant n None h = refl
rom_legal Dataset n None h = (omega arith, All-nil (λ (content : List ℕ). length content ≡ n))
rom_legal kind n (Some d) h = rom_given kind n (items_in d) h

-- 20
member_legal : (r : RamKind) (a b : Bool) → (has_ram r || not (a || b)) ≡ true → MayBeMember r a × MayBeMember r b
member_legal Permanent a b h = (tt, tt)
member_legal Sync a b h = (tt, tt)
member_legal ram.None true b h = cc h
member_legal ram.None false true h = cc h
member_legal ram.None false false h = (refl, refl)

-- 21
once_legal : (kind : BlockKind) (once : Bool) → not (once && is_dataset kind) ≡ true → MayBeOnce kind once
once_legal Native once h = tt
once_legal Redundant once h = tt
once_legal Dataset true h = cc h
once_legal Dataset false h = refl

-- 25
pub device_legal : (d : Data) → keeps 25 d ≡ true → (block_of d).device ≤ 1
device_legal d named = (given_in_bounds 0 1 0 1 (get (codes "device") d) (omega arith, omega arith) named).1

pub block_legal : (d : Data) → keeps 13 d ≡ true → keeps 14 d ≡ true → keeps 16 d ≡ true → keeps 17 d ≡ true → keeps 18 d ≡ true → keeps 20 d ≡ true → keeps 21 d ≡ true → keeps 22 d ≡ true → IsLegalBlock (block_of d)
block_legal d size priority defaults count rom member once tries =
    let bounds = needed_in_bounds 1 4096 0 (get (codes "length") d) size in
    let may = member_legal (ram_of d) (truth_of (codes "readall") d) (truth_of (codes "writeall") d) member in
    let two = both_true _ _ tries in
    let one = both_true _ _ two.0 in
    record {
      content = record { low = bounds.0; high = bounds.1 };
      priority = (given_in_bounds 0 255 100 0 (get (codes "priority") d) (omega arith, omega arith) priority).1;
      defaults = defaults_legal (kind_of d) (length_of d) (get (codes "defaults") d) defaults;
      datasets = count_legal (kind_of d) (get (codes "nv") d) count;
      rom = rom_legal (kind_of d) (length_of d) (get (codes "rom") d) rom;
      readall = may.0;
      writeall = may.1;
      once = once_legal (kind_of d) (truth_of (codes "once") d) once;
      reads = (given_in_bounds 0 7 0 0 (get (codes "reads") d) (omega arith, omega arith) one.0).1;
      writes = (given_in_bounds 0 7 0 0 (get (codes "writes") d) (omega arith, omega arith) one.1).1;
      repeats = (given_in_bounds 0 7 0 0 (get (codes "repeats") d) (omega arith, omega arith) two.1).1;
    }
