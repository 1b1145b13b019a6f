-- The numbers of both devices of a legal configuration.
use Rattle.std.specs.Prelude.{is_none, nat_lt, if◌then◌else◌, IfSome}
use Rattle.std.specs.List.{range_with_len}
use Rattle.std.proofs.Common.{◌≡◌, ◌≤◌, ◌<◌, ◌+◌, ◌*◌, ◌==◌, ◌&&◌, ℕ, zero, suc, Bool, true, false, List, [], ◌∷◌, ◌++◌, map, length, Option, Some, None, refl, sym, ap, ◌∙◌, subst, inl, inr, arith, All, length-append}
use Rattle.std.proofs.lemmas.Bool.{cases_Bool}
use Rattle.std.proofs.lemmas.Bool.Decides.{nat_tests}
use Rattle.std.proofs.lemmas.List.FromFn.{length-map-range_with_len}
use Rattle.std.proofs.lemmas.List.Sums.{sum_by-cons}
use Rattle.memif_fee_ea.specs.fee_core.nv_base.declared.geometry.Geometry.{Geometry}
use Rattle.memif_fee_ea.specs.fee_core.nv_base.declared.instance.DeviceNumber.{DeviceNumber}
use Rattle.memif_fee_ea.specs.fee_core.nv_base.Lengths.{AreLengths}
use Rattle.memif_fee_ea.specs.fee_core.memif.Told.{length_of}
use Rattle.nvm_core.specs.block_config.declared.block.BlockDesc.{BlockDesc}
use Rattle.nvm_core.specs.block_config.declared.block.BlockKind.{BlockKind}
use Rattle.nvm_core.specs.block_config.declared.block.BlockKind.TheVariants.{Native, Redundant, Dataset}
use Rattle.nvm_core.specs.block_config.Block.{instance_count}
use Rattle.nvm_core.specs.block_config.Config.{Configuration}
use Rattle.nvm_core.specs.block_config.Lengths.{length_at, block_lengths, stored_lengths, lengths_by, lengths_from, device_lengths}
use Rattle.nvm_core.specs.block_config.Rules.{AreBlocks, IsDatasetCount, IsLegalBlock}
use Rattle.nvm_core.specs.block_config.Second.{IsSecond, fits_in}
use Rattle.nvm_core.specs.block_config.Sizes.{instances_of, second_count, second_instances}
use Rattle.memif_fee_ea.specs.ea_slots.ea_told.Making.{AllFit, HasSlots}
use Rattle.memif_fee_ea.specs.memif_pair.Pair.{merged, with_number}
use Rattle.memif_fee_ea.specs.Numbers.{are_apart}
use Rattle.nvm_flash.specs.PairMaking.{DevicesAreAll, DevicesAreApart, DevicesHaveSlots, making_second}

abbrev pub Numbers : Type 0
Numbers = List (DeviceNumber × ℕ)

-- BOUNDS
-- each number is so great at least, or below this one
abbrev pub From : ℕ → Numbers → Type 0
From low [] = Unit {0}
From low (x ∷ xs) = (low ≤ x.0.0) × From low xs

abbrev pub Below : ℕ → Numbers → Type 0
Below high [] = Unit {0}
Below high (x ∷ xs) = (x.0.0 < high) × Below high xs

from_less : (a b : ℕ) (xs : Numbers) → a ≤ b → From b xs → From a xs
from_less a b [] less from = tt
from_less a b (x ∷ xs) less from = (let least = from.0 in omega (arith, less, least), from_less a b xs less from.1)

below_more : (a b : ℕ) (xs : Numbers) → a ≤ b → Below a xs → Below b xs
below_more a b [] less below = tt
below_more a b (x ∷ xs) less below = (let most = below.0 in omega (arith, less, most), below_more a b xs less below.1)

from_both : (low : ℕ) (xs ys : Numbers) → From low xs → From low ys → From low (xs ++ ys)
from_both low [] ys one two = two
from_both low (x ∷ xs) ys one two = (one.0, from_both low xs ys one.1 two)

-- those of the instances of a block from this one on
abbrev row : (id n start count : ℕ) → Numbers
row id n start count = map (length_at id n) (range_with_len start count)

row_from : (id n start count : ℕ) → From (id * 64 + start) (row id n start count)
row_from id n start zero = tt
row_from id n start (suc count) = (omega arith, from_less (id * 64 + start) (id * 64 + (start + 1)) (row id n (start + 1) count) (omega arith) (row_from id n (start + 1) count))

row_below : (id n start count high : ℕ) → id * 64 + start + count ≤ high → Below high (row id n start count)
row_below id n start zero high few = tt
row_below id n start (suc count) high few = (omega (arith, few), row_below id n (start + 1) count high (omega (arith, few)))

block_from : (id : ℕ) (b : BlockDesc) → From (id * 64) (block_lengths id b)
block_from id b = from_less (id * 64) (id * 64 + 0) (block_lengths id b) (omega arith) (row_from id b.length 0 (instances_of b))

pub block_below : (id : ℕ) (b : BlockDesc) → instances_of b ≤ 64 → Below ((id + 1) * 64) (block_lengths id b)
block_below id b few = row_below id b.length 0 (instances_of b) ((id + 1) * 64) (omega (arith, few))

stored_from : (id : ℕ) (b : BlockDesc) (here : Bool) → From (id * 64) (if here then block_lengths id b else [])
stored_from id b true = block_from id b
stored_from id b false = tt

pub stored_below : (id : ℕ) (b : BlockDesc) → instances_of b ≤ 64 → (here : Bool) → Below ((id + 1) * 64) (if here then block_lengths id b else [])
stored_below id b few true = block_below id b few
stored_below id b few false = tt

pub device_from : (device id : ℕ) (bs : List BlockDesc) → From (id * 64) (lengths_by (Some device) id bs)
device_from device id [] = tt
device_from device id (b ∷ bs) =
    from_both (id * 64) (stored_lengths (Some device) id b) (lengths_by (Some device) (id + 1) bs) (stored_from id b (b.device == device))
    (from_less (id * 64) ((id + 1) * 64) (lengths_by (Some device) (id + 1) bs) (omega arith) (device_from device (id + 1) bs))

pub all_from : (id : ℕ) (bs : List BlockDesc) → From (id * 64) (lengths_from id bs)
all_from id [] = tt
all_from id (b ∷ bs) =
    from_both (id * 64) (block_lengths id b) (lengths_from (id + 1) bs) (block_from id b)
    (from_less (id * 64) ((id + 1) * 64) (lengths_from (id + 1) bs) (omega arith) (all_from (id + 1) bs))

-- BLOCKS
-- each has 64 instances at most, and is of one of both devices
abbrev pub AreFew : List BlockDesc → Type 0
AreFew [] = Unit {0}
AreFew (b ∷ bs) = (instances_of b ≤ 64) × AreFew bs

abbrev pub AreOfTwo : List BlockDesc → Type 0
AreOfTwo [] = Unit {0}
AreOfTwo (b ∷ bs) = (b.device ≤ 1) × AreOfTwo bs

few_instances : (kind : BlockKind) (nv : ℕ) → IsDatasetCount kind nv → instance_count kind nv ≤ 64
few_instances Native nv legal = omega arith
few_instances Redundant nv legal = omega arith
few_instances Dataset nv legal = legal.1

legal_few : (bs : List BlockDesc) → All IsLegalBlock bs → AreFew bs
legal_few [] legal = tt
legal_few (b ∷ bs) legal = (few_instances b.kind b.nv (legal 0 b (omega arith)).datasets, legal_few bs (λ k d few. legal (suc k) d (omega (arith, few))))

pub blocks_few : (id : ℕ) (bs : List BlockDesc) → AreBlocks id bs → AreFew bs
blocks_few id [] legal = absurd legal
blocks_few id (b ∷ bs) legal = ((let two : instances_of b ≡ 2 = ap (λ (d : BlockDesc). instances_of d) legal.0 in omega (arith, two)), legal_few bs legal.1)

pub of_two : (bs : List BlockDesc) → All (λ (b : BlockDesc). b.device ≤ 1) bs → AreOfTwo bs
of_two [] all = tt
of_two (b ∷ bs) all = (all 0 b (omega arith), of_two bs (λ k d few. all (suc k) d (omega (arith, few))))

-- which device a block is of
pub one_device : (b : BlockDesc) → (b.device == 0) ≡ true → (b.device == 1) ≡ false
one_device b first = grind (arith, nat_tests, first)

pub other_device : (b : BlockDesc) → b.device ≤ 1 → (b.device == 0) ≡ false → (b.device == 1) ≡ true
other_device b two other = grind (arith, nat_tests, two, other)

-- APART
none_at : (x : DeviceNumber × ℕ) (xs : Numbers) (n : ℕ) → (x.0.0 == n) ≡ false → is_none (length_of xs n) ≡ true → is_none (length_of (x ∷ xs) n) ≡ true
none_at x xs n other none = rw other none

pub none_from : (n low : ℕ) (xs : Numbers) → From low xs → n < low → is_none (length_of xs n) ≡ true
none_from n low [] from less = refl
none_from n low (x ∷ xs) from less =
    let least = from.0 in
    let other : (x.0.0 == n) ≡ false = grind (arith, nat_tests, least, less) in none_at x xs n other (none_from n low xs from.1 less)

pub none_below : (n high : ℕ) (xs : Numbers) → Below high xs → high ≤ n → is_none (length_of xs n) ≡ true
none_below n high [] below more = refl
none_below n high (x ∷ xs) below more =
    let most = below.0 in
    let other : (x.0.0 == n) ≡ false = grind (arith, nat_tests, most, more) in none_at x xs n other (none_below n high xs below.1 more)

both_true : (a b : Bool) → a ≡ true → b ≡ true → (a && b) ≡ true
both_true true b one two = two
both_true false b one two = one

parts_true : (a b : Bool) → (a && b) ≡ true → (a ≡ true) × (b ≡ true)
parts_true true b both = (refl, both)
parts_true false b both = absurd (cc both)

none_in : (ys : Numbers) → are_apart [] ys ≡ true
none_in [] = refl
none_in (y ∷ ys) = none_in ys

apart_from : (high : ℕ) (xs ys : Numbers) → From high xs → Below high ys → are_apart xs ys ≡ true
apart_from high xs [] from below = refl
apart_from high xs (y ∷ ys) from below = both_true (is_none (length_of xs y.0.0)) (are_apart xs ys) (none_from y.0.0 high xs from below.0) (apart_from high xs ys from below.1)

apart_below : (high : ℕ) (xs ys : Numbers) → Below high xs → From high ys → are_apart xs ys ≡ true
apart_below high xs [] below from = refl
apart_below high xs (y ∷ ys) below from = both_true (is_none (length_of xs y.0.0)) (are_apart xs ys) (none_below y.0.0 high xs below from.0) (apart_below high xs ys below from.1)

none_both : (n : ℕ) (xs zs : Numbers) → is_none (length_of xs n) ≡ true → is_none (length_of zs n) ≡ true → is_none (length_of (xs ++ zs) n) ≡ true
none_both n [] zs one two = two
none_both n (x ∷ xs) zs one two = elim (cases_Bool (x.0.0 == n)) [
  | inl same ↦ let never : is_none (Some x.1) ≡ true = subst (λ (b : Bool). is_none (if b then Some x.1 else length_of xs n) ≡ true) same one in absurd (cc never)
  | inr other ↦ none_at x (xs ++ zs) n other (none_both n xs zs (subst (λ (b : Bool). is_none (if b then Some x.1 else length_of xs n) ≡ true) other one) two)
]

apart_front : (xs zs ys : Numbers) → are_apart xs ys ≡ true → are_apart zs ys ≡ true → are_apart (xs ++ zs) ys ≡ true
apart_front xs zs [] one two = refl
apart_front xs zs (y ∷ ys) one two =
    let (one_here, one_rest) = parts_true (is_none (length_of xs y.0.0)) (are_apart xs ys) one in
    let (two_here, two_rest) = parts_true (is_none (length_of zs y.0.0)) (are_apart zs ys) two in
    both_true (is_none (length_of (xs ++ zs) y.0.0)) (are_apart (xs ++ zs) ys) (none_both y.0.0 xs zs one_here two_here) (apart_front xs zs ys one_rest two_rest)

apart_behind : (xs ys zs : Numbers) → are_apart xs ys ≡ true → are_apart xs zs ≡ true → are_apart xs (ys ++ zs) ≡ true
apart_behind xs [] zs one two = two
apart_behind xs (y ∷ ys) zs one two =
    let (here, rest) = parts_true (is_none (length_of xs y.0.0)) (are_apart xs ys) one in
    both_true (is_none (length_of xs y.0.0)) (are_apart xs (ys ++ zs)) here (apart_behind xs ys zs rest two)

-- one block is of one device at most
own_apart : (id : ℕ) (b : BlockDesc) (first second : Bool) → (first ≡ true → second ≡ false) → are_apart (if first then block_lengths id b else []) (if second then block_lengths id b else []) ≡ true
own_apart id b false second one = none_in (if second then block_lengths id b else [])
own_apart id b true false one = refl
own_apart id b true true one = absurd (let never : true ≡ false = one refl in cc never)

all_apart : (id : ℕ) (bs : List BlockDesc) → AreFew bs → are_apart (lengths_by (Some 0) id bs) (lengths_by (Some 1) id bs) ≡ true
all_apart id [] few = refl
all_apart id (b ∷ bs) few =
    let own = stored_lengths (Some 0) id b in
    let other = stored_lengths (Some 1) id b in
    let rest = lengths_by (Some 0) (id + 1) bs in
    let others = lengths_by (Some 1) (id + 1) bs in
    let high = (id + 1) * 64 in
    apart_behind (own ++ rest) other others
    (apart_front own rest other (own_apart id b (b.device == 0) (b.device == 1) (one_device b)) (apart_from high rest other (device_from 0 (id + 1) bs) (stored_below id b few.0 (b.device == 1))))
    (apart_front own rest others (apart_below high own others (stored_below id b few.0 (b.device == 0)) (device_from 1 (id + 1) bs)) (all_apart (id + 1) bs few.1))

pub devices_are_apart : DevicesAreApart
devices_are_apart c legal = all_apart 1 c.blocks (blocks_few c.id c.blocks legal.blocks_legal)

-- MERGED
with_front : (x : DeviceNumber × ℕ) (ys : Numbers) → From (x.0.0 + 1) ys → with_number x ys ≡ x ∷ ys
with_front x [] from = refl
with_front x (y ∷ ys) from =
    let least = from.0 in
    let less : nat_lt x.0.0 y.0.0 ≡ true = grind (arith, nat_tests, least) in rw less refl

with_behind : (x : DeviceNumber × ℕ) (ls ms : Numbers) → Below x.0.0 ls → with_number x (ls ++ ms) ≡ ls ++ with_number x ms
with_behind x [] ms below = refl
with_behind x (y ∷ ys) ms below =
    let most = below.0 in
    let more : nat_lt x.0.0 y.0.0 ≡ false = grind (arith, nat_tests, most) in rw more (ap (λ (zs : Numbers). y ∷ zs) (with_behind x ys ms below.1))

merged_behind : (high : ℕ) (ls rs xs : Numbers) → Below high ls → From high xs → merged (ls ++ rs) xs ≡ ls ++ merged rs xs
merged_behind high ls rs [] below from = refl
merged_behind high ls rs (x ∷ xs) below from =
    ap (with_number x) (merged_behind high ls rs xs below from.1) ∙ with_behind x ls (merged rs xs) (below_more high x.0.0 ls from.0 below)

merged_row : (id n start count : ℕ) (rs xs : Numbers) → From (id * 64 + start + count) (merged rs xs) → merged rs (row id n start count ++ xs) ≡ row id n start count ++ merged rs xs
merged_row id n start zero rs xs from = refl
merged_row id n start (suc count) rs xs from =
    ap (with_number (length_at id n start)) (merged_row id n (start + 1) count rs xs (from_less (id * 64 + (start + 1) + count) (id * 64 + start + suc count) (merged rs xs) (omega arith) from))
    ∙ with_front (length_at id n start) (row id n (start + 1) count ++ merged rs xs)
    (from_both (id * 64 + start + 1) (row id n (start + 1) count) (merged rs xs)
    (from_less (id * 64 + start + 1) (id * 64 + (start + 1)) (row id n (start + 1) count) (omega arith) (row_from id n (start + 1) count))
    (from_less (id * 64 + start + 1) (id * 64 + start + suc count) (merged rs xs) (omega arith) from))

merged_block : (id : ℕ) (b : BlockDesc) (rest others all : Numbers) → instances_of b ≤ 64 → b.device ≤ 1 → From ((id + 1) * 64) others → From ((id + 1) * 64) all → merged rest others ≡ all
    → merged (stored_lengths (Some 0) id b ++ rest) (stored_lengths (Some 1) id b ++ others) ≡ block_lengths id b ++ all
merged_block id b rest others all few two from from_all is = elim (cases_Bool (b.device == 0)) [
  | inl first ↦ rw (first, one_device b first) (merged_behind ((id + 1) * 64) (block_lengths id b) rest others (block_below id b few) from ∙ ap (λ (zs : Numbers). block_lengths id b ++ zs) is)
  | inr second ↦
      let bound : From (id * 64 + 0 + instances_of b) (merged rest others) =
      subst (λ (zs : Numbers). From (id * 64 + 0 + instances_of b) zs) (sym is) (from_less (id * 64 + 0 + instances_of b) ((id + 1) * 64) all (omega (arith, few)) from_all) in
      rw (second, other_device b two second) (merged_row id b.length 0 (instances_of b) rest others bound ∙ ap (λ (zs : Numbers). block_lengths id b ++ zs) is)
]

all_merged : (id : ℕ) (bs : List BlockDesc) → AreFew bs → AreOfTwo bs → merged (lengths_by (Some 0) id bs) (lengths_by (Some 1) id bs) ≡ lengths_from id bs
all_merged id [] few two = refl
all_merged id (b ∷ bs) few two =
    merged_block id b (lengths_by (Some 0) (id + 1) bs) (lengths_by (Some 1) (id + 1) bs) (lengths_from (id + 1) bs) few.0 two.0 (device_from 1 (id + 1) bs) (all_from (id + 1) bs) (all_merged (id + 1) bs few.1 two.1)

pub devices_are_all : DevicesAreAll
devices_are_all c legal = all_merged 1 c.blocks (blocks_few c.id c.blocks legal.blocks_legal) (of_two c.blocks legal.devices)

-- SLOTS
stored_count : (id : ℕ) (b : BlockDesc) (first second : Bool) → (first ≡ true → second ≡ false) → length (if second then block_lengths id b else []) ≤ (if first then 0 else instances_of b)
stored_count id b first false one = omega arith
stored_count id b false true one = let count = length-map-range_with_len (length_at id b.length) 0 (instances_of b) in omega (arith, count)
stored_count id b true true one = absurd (let never : true ≡ false = one refl in cc never)

second_count_is : (id : ℕ) (bs : List BlockDesc) → length (lengths_by (Some 1) id bs) ≤ second_instances bs
second_count_is id [] = omega arith
second_count_is id (b ∷ bs) =
    let here = stored_count id b (b.device == 0) (b.device == 1) (one_device b) in
    let rest = second_count_is (id + 1) bs in
    let all = length-append (stored_lengths (Some 1) id b) (lengths_by (Some 1) (id + 1) bs) in
    let sum = sum_by-cons second_count b bs in omega (arith, here, rest, all, sum)

row_fits : (sector id n start count : ℕ) → n ≤ sector → AllFit sector (row id n start count)
row_fits sector id n start zero few = tt
row_fits sector id n start (suc count) few = (few, row_fits sector id n (start + 1) count few)

fit_both : (sector : ℕ) (xs ys : Numbers) → AllFit sector xs → AllFit sector ys → AllFit sector (xs ++ ys)
fit_both sector [] ys one two = two
fit_both sector (x ∷ xs) ys one two = (one.0, fit_both sector xs ys one.1 two)

stored_fits : (sector id : ℕ) (b : BlockDesc) → fits_in sector b ≡ true → (second : Bool) → (b.device == 1) ≡ second → AllFit sector (if second then block_lengths id b else [])
stored_fits sector id b fits false is = tt
stored_fits sector id b fits true is =
    let few : b.length ≤ sector = grind (arith, nat_tests, fits, is) in row_fits sector id b.length 0 (instances_of b) few

all_fit : (sector id : ℕ) (bs : List BlockDesc) → All (λ (b : BlockDesc). fits_in sector b ≡ true) bs → AllFit sector (lengths_by (Some 1) id bs)
all_fit sector id [] all = tt
all_fit sector id (b ∷ bs) all =
    fit_both sector (stored_lengths (Some 1) id b) (lengths_by (Some 1) (id + 1) bs) (stored_fits sector id b (all 0 b (omega arith)) (b.device == 1) refl)
    (all_fit sector (id + 1) bs (λ k d few. all (suc k) d (omega (arith, few))))

slots_by : (c : Configuration) → AreLengths 0 (device_lengths 1 c) → (eeprom : Option Geometry) → IfSome eeprom (IsSecond c.blocks) → IfSome eeprom (λ g. HasSlots (making_second g c))
slots_by c lengths None second = tt
slots_by c lengths (Some g) second = record {
  legal = second.shape;
  lengths = lengths;
  room = let few = second_count_is 1 c.blocks in let slots = second.slots in omega (arith, few, slots);
  fit = all_fit g.sector 1 c.blocks second.lengths;
}

pub devices_have_slots : DevicesHaveSlots
devices_have_slots c legal lengths = slots_by c lengths c.eeprom legal.second
