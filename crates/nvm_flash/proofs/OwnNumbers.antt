-- The numbers of each device of a configuration with two, by its blocks.
use Rattle.std.specs.Prelude.{is_none, not, slice_get, unwrap_or, sum_by, if◌then◌else◌}
use Rattle.std.specs.List.{range_with_len}
use Rattle.std.proofs.Common.{◌≡◌, ◌≤◌, ◌+◌, ◌*◌, ◌==◌, ℕ, zero, suc, Bool, true, false, List, [], ◌∷◌, ◌++◌, length, map, Option, Some, None, refl, sym, ap, ◌∙◌, subst, inl, inr, arith, length-append}
use Rattle.std.proofs.lemmas.Bool.{cases_Bool, eq-eqb}
use Rattle.std.proofs.lemmas.List.FromFn.{length-map-range_with_len}
use Rattle.std.proofs.lemmas.List.Sums.{sum_by-cons}
use Rattle.memif_fee_ea.specs.fee_core.memif.Told.{length_of}
use Rattle.nvm_core.specs.block_config.declared.block.BlockDesc.{BlockDesc}
use Rattle.nvm_core.specs.block_config.Config.{Configuration}
use Rattle.nvm_core.specs.block_config.Lengths.{length_at, block_lengths, stored_lengths, lengths_by, lengths_from, lengths_of, device_lengths}
use Rattle.nvm_core.specs.block_config.Rules.{IsLegalConfig}
use Rattle.nvm_core.specs.block_config.Sizes.{instances_of, second_count, second_instances}
use Rattle.nvm_core.specs.block_config.Block.{plain_block}
use Rattle.promise_run.specs.JobTurns.{is_second}
use Rattle.nvm_flash.proofs.JobTurns.{HaveInstances, blocks_have}
use Rattle.nvm_flash.proofs.PairNumbers.{AreFew, AreOfTwo, Numbers, all_from, block_below, blocks_few, device_from, none_below, none_from, of_two, one_device, other_device, stored_below}

none_is : (o : Option ℕ) → is_none o ≡ true → o ≡ None
none_is None none = refl
none_is (Some n) none = cc none

-- of a number that one list hasn't
length_behind : (n : ℕ) (xs ys : Numbers) → is_none (length_of xs n) ≡ true → length_of (xs ++ ys) n ≡ length_of ys n
length_behind n [] ys none = refl
length_behind n (x ∷ xs) ys none = elim (cases_Bool (x.0.0 == n)) [
  | inl same ↦ let never : is_none (Some x.1) ≡ true = subst (λ (b : Bool). is_none (if b then Some x.1 else length_of xs n) ≡ true) same none in absurd (cc never)
  | inr other ↦ ap (λ (b : Bool). if b then Some x.1 else length_of (xs ++ ys) n) other ∙ length_behind n xs ys (subst (λ (b : Bool). is_none (if b then Some x.1 else length_of xs n) ≡ true) other none)
]

length_front : (n : ℕ) (xs ys : Numbers) → is_none (length_of ys n) ≡ true → length_of (xs ++ ys) n ≡ length_of xs n
length_front n [] ys none = none_is (length_of ys n) none
length_front n (x ∷ xs) ys none = ap (λ (o : Option ℕ). if x.0.0 == n then Some x.1 else o) (length_front n xs ys none)

-- OF THE SECOND DEVICE
-- the block in this place is of it
abbrev second_at : List BlockDesc → ℕ → Bool
second_at bs k = not ((unwrap_or (slice_get bs k) (plain_block 0)).device == 0)

second_by : (id n : ℕ) (b : BlockDesc) (others all : Numbers) → b.device ≤ 1 → is_none (length_of others n) ≡ true → is_none (length_of all n) ≡ true
    → length_of (stored_lengths (Some 1) id b ++ others) n ≡ (if not (b.device == 0) then length_of (block_lengths id b ++ all) n else None)
second_by id n b others all two none none_all = elim (cases_Bool (b.device == 0)) [
  | inl first ↦ rw (first, one_device b first) (none_is (length_of others n) none)
  | inr second ↦ rw (second, other_device b two second) (length_front n (block_lengths id b) others none ∙ sym (length_front n (block_lengths id b) all none_all))
]

second_lengths : (id : ℕ) (bs : List BlockDesc) (k r n : ℕ) → AreFew bs → AreOfTwo bs → r ≤ 63 → n ≡ (id + k) * 64 + r
    → length_of (lengths_by (Some 1) id bs) n ≡ (if second_at bs k then length_of (lengths_from id bs) n else None)
second_lengths id [] k r n few two small is = refl
second_lengths id (b ∷ bs) zero r n few two small is =
    second_by id n b (lengths_by (Some 1) (id + 1) bs) (lengths_from (id + 1) bs) two.0
    (none_from n ((id + 1) * 64) (lengths_by (Some 1) (id + 1) bs) (device_from 1 (id + 1) bs) (omega (arith, is, small)))
    (none_from n ((id + 1) * 64) (lengths_from (id + 1) bs) (all_from (id + 1) bs) (omega (arith, is, small)))
second_lengths id (b ∷ bs) (suc k) r n few two small is =
    length_behind n (stored_lengths (Some 1) id b) (lengths_by (Some 1) (id + 1) bs) (none_below n ((id + 1) * 64) (stored_lengths (Some 1) id b) (stored_below id b few.0 (b.device == 1)) (omega (arith, is)))
    ∙ second_lengths (id + 1) bs k r n few.1 two.1 small (omega (arith, is))
    ∙ ap (λ (o : Option ℕ). if second_at bs k then o else None) (sym (length_behind n (block_lengths id b) (lengths_from (id + 1) bs) (none_below n ((id + 1) * 64) (block_lengths id b) (block_below id b few.0) (omega (arith, is)))))

-- a number is stored by the second device where its block is, with its length
pub second_of : (c : Configuration) → IsLegalConfig c → (block index n : ℕ) → index ≤ 63 → n ≡ block * 64 + index → length_of (device_lengths 1 c) n ≡ (if is_second c block then length_of (lengths_of c) n else None)
second_of c legal zero index n small is = none_is (length_of (device_lengths 1 c) n) (none_from n (1 * 64) (device_lengths 1 c) (device_from 1 1 c.blocks) (omega (arith, is, small)))
second_of c legal (suc k) index n small is = second_lengths 1 c.blocks k index n (blocks_few c.id c.blocks legal.blocks_legal) (of_two c.blocks legal.devices) small (omega (arith, is))

-- OF A BLOCK
some_row : (id n start count at : ℕ) (rest : Numbers) → 1 ≤ count → at ≡ id * 64 + start → is_none (length_of (map (length_at id n) (range_with_len start count) ++ rest) at) ≡ true → ⊥
some_row id n start zero at rest some is none = absurd (omega (arith, some))
some_row id n start (suc count) at rest some is none =
    let here : (id * 64 + start == at) ≡ true = eq-eqb (id * 64 + start) at (sym is) in
    let never : is_none (Some n) ≡ true = subst (λ (b : Bool). is_none (if b then Some n else length_of (map (length_at id n) (range_with_len (start + 1) count) ++ rest) at) ≡ true) here none in cc never

-- one whose first number isn't configured has none
none_of_block : (id : ℕ) (bs : List BlockDesc) (k r first n : ℕ) → AreFew bs → HaveInstances bs → r ≤ 63 → first ≡ (id + k) * 64 → n ≡ (id + k) * 64 + r → is_none (length_of (lengths_from id bs) first) ≡ true
    → length_of (lengths_from id bs) n ≡ None
none_of_block id [] k r first n few have small at is none = refl
none_of_block id (b ∷ bs) zero r first n few have small at is none = absurd (some_row id b.length 0 (instances_of b) first (lengths_from (id + 1) bs) have.0 (omega (arith, at)) none)
none_of_block id (b ∷ bs) (suc k) r first n few have small at is none =
    let below = block_below id b few.0 in
    length_behind n (block_lengths id b) (lengths_from (id + 1) bs) (none_below n ((id + 1) * 64) (block_lengths id b) below (omega (arith, is)))
    ∙ none_of_block (id + 1) bs k r first n few.1 have.1 small (omega (arith, at)) (omega (arith, is))
    (subst (λ (o : Option ℕ). is_none o ≡ true) (length_behind first (block_lengths id b) (lengths_from (id + 1) bs) (none_below first ((id + 1) * 64) (block_lengths id b) below (omega (arith, at)))) none)

pub none_in_block : (c : Configuration) → IsLegalConfig c → (block index n : ℕ) → index ≤ 63 → n ≡ block * 64 + index → length_of (lengths_of c) (block * 64) ≡ None → length_of (lengths_of c) n ≡ None
none_in_block c legal zero index n small is none = none_is (length_of (lengths_of c) n) (none_from n (1 * 64) (lengths_of c) (all_from 1 c.blocks) (omega (arith, is, small)))
none_in_block c legal (suc k) index n small is none =
    none_of_block 1 c.blocks k index (suc k * 64) n (blocks_few c.id c.blocks legal.blocks_legal) (blocks_have c.id c.blocks legal.blocks_legal) small (omega arith) (omega (arith, is)) (ap is_none none)

-- HOW MANY
stored_first : (id : ℕ) (b : BlockDesc) (first : Bool) → length (if first then block_lengths id b else []) + (if first then 0 else instances_of b) ≡ instances_of b
stored_first id b true = let count = length-map-range_with_len (length_at id b.length) 0 (instances_of b) in omega (arith, count)
stored_first id b false = omega arith

-- those of the first device are all but those of the second one
pub first_count : (id : ℕ) (bs : List BlockDesc) → length (lengths_by (Some 0) id bs) + second_instances bs ≡ sum_by instances_of bs
first_count id [] = refl
first_count id (b ∷ bs) =
    let here = stored_first id b (b.device == 0) in
    let rest = first_count (id + 1) bs in
    let all = length-append (stored_lengths (Some 0) id b) (lengths_by (Some 0) (id + 1) bs) in
    let second = sum_by-cons second_count b bs in
    let sum = sum_by-cons instances_of b bs in omega (arith, here, rest, all, second, sum)
