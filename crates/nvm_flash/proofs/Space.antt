-- A legal configuration leaves its device the space that it needs.
use Rattle.std.specs.Prelude.{max, fold, sum_by, if◌then◌else◌}
use Rattle.std.specs.List.{range_with_len}
use Rattle.std.proofs.Common.{◌≡◌, ◌≤◌, ◌+◌, ◌*◌, ◌==◌, ℕ, zero, suc, Bool, true, false, List, [], ◌∷◌, ◌++◌, map, length, Some, None, refl, sym, ap, ◌∙◌, arith}
use Rattle.std.proofs.Math.Nat.{suc-mul, mul-zero}
use Rattle.std.proofs.lemmas.List.Sums.{sum_by-cons}
use Rattle.memif_fee_ea.specs.fee_core.nv_base.declared.instance.DeviceNumber.{DeviceNumber}
use Rattle.memif_fee_ea.specs.fee_core.nv_base.Lengths.{AreLengths}
use Rattle.memif_fee_ea.specs.fee_core.nv_base.Pages.{record_pages_of}
use Rattle.nvm_core.specs.block_config.declared.block.BlockDesc.{BlockDesc}
use Rattle.nvm_core.specs.block_config.Config.{Configuration}
use Rattle.nvm_core.specs.block_config.Lengths.{device_lengths, length_at, block_lengths, stored_lengths, lengths_by, lengths_of}
use Rattle.nvm_core.specs.block_config.Rules.{IsLegalConfig}
use Rattle.nvm_core.specs.block_config.Sizes as sizes
use Rattle.nvm_core.specs.block_config.Sizes.{instances_of, size_of, measures_of}
use Rattle.nvm_core.proofs.Devices.{lengths_are_first}
use Rattle.memif_fee_ea.specs.fee_core.fee_course.Copies.{greatest}
use Rattle.memif_fee_ea.specs.fee_core.fee_switch_laws.Space.{HasSpace, all_pages}

all_more : (p : ℕ) (xs ys : List (DeviceNumber × ℕ)) → all_pages p (xs ++ ys) ≡ all_pages p xs + all_pages p ys
all_more p [] ys = omega arith
all_more p (x ∷ xs) ys = let rest = all_more p xs ys in omega (arith, rest)

pub greatest_more : (p : ℕ) (xs ys : List (DeviceNumber × ℕ)) → greatest p (xs ++ ys) ≡ max (greatest p xs) (greatest p ys)
greatest_more p [] ys = omega arith
greatest_more p (x ∷ xs) ys = let rest = greatest_more p xs ys in omega (arith, rest)

-- the instances of one block
all_of : (p id n : ℕ) (is : List ℕ) → all_pages p (map (length_at id n) is) ≡ length is * record_pages_of n p
all_of p id n [] = grind arith
all_of p id n (i ∷ is) = let rest = all_of p id n is in let more = suc-mul (length is) (record_pages_of n p) in omega (arith, rest, more)

greatest_of : (p id n : ℕ) (is : List ℕ) → greatest p (map (length_at id n) is) ≤ record_pages_of n p
greatest_of p id n [] = omega arith
greatest_of p id n (i ∷ is) = let rest = greatest_of p id n is in omega (arith, rest)

range_length : (start n : ℕ) → length (range_with_len start n) ≡ n
range_length start zero = refl
range_length start (suc n) = let rest = range_length (start + 1) n in grind (arith, rest)

-- of the first device's blocks
stored_pages : (p id : ℕ) (b : BlockDesc) (first : Bool) → all_pages p (if first then block_lengths id b else []) ≡ instances_of b * (if first then record_pages_of b.length p else 0)
stored_pages p id b true = all_of p id b.length (range_with_len 0 (instances_of b)) ∙ ap (λ n. n * record_pages_of b.length p) (range_length 0 (instances_of b))
stored_pages p id b false = sym (mul-zero (instances_of b))

pub all_blocks : (p id : ℕ) (bs : List BlockDesc) → all_pages p (lengths_by (Some 0) id bs) ≡ sum_by (λ b. instances_of b * size_of p b) bs
all_blocks p id [] = refl
all_blocks p id (b ∷ bs) =
    let one = stored_pages p id b (b.device == 0) in
    let more = all_more p (stored_lengths (Some 0) id b) (lengths_by (Some 0) (id + 1) bs) in
    let rest = all_blocks p (id + 1) bs in
    let sum = sum_by-cons (λ (x : BlockDesc). instances_of x * size_of p x) b bs in omega (arith, one, more, rest, sum)

fold_from : (f : BlockDesc → ℕ) (m : ℕ) (bs : List BlockDesc) → m ≤ fold (λ n b. max n (f b)) m bs
fold_from f m [] = omega arith
fold_from f m (b ∷ bs) = let rest = fold_from f (max m (f b)) bs in omega (arith, rest)

fold_grows : (f : BlockDesc → ℕ) (m n : ℕ) (bs : List BlockDesc) → m ≤ n → fold (λ k b. max k (f b)) m bs ≤ fold (λ k b. max k (f b)) n bs
fold_grows f m n [] less = less
fold_grows f m n (b ∷ bs) less = fold_grows f (max m (f b)) (max n (f b)) bs (omega (arith, less))

greatest_stored : (p id : ℕ) (b : BlockDesc) (first : Bool) → greatest p (if first then block_lengths id b else []) ≤ (if first then record_pages_of b.length p else 0)
greatest_stored p id b true = greatest_of p id b.length (range_with_len 0 (instances_of b))
greatest_stored p id b false = omega arith

pub greatest_blocks : (p id : ℕ) (bs : List BlockDesc) → greatest p (lengths_by (Some 0) id bs) ≤ sizes.greatest (size_of p) bs
greatest_blocks p id [] = omega arith
greatest_blocks p id (b ∷ bs) =
    let one = greatest_stored p id b (b.device == 0) in
    let more = greatest_more p (stored_lengths (Some 0) id b) (lengths_by (Some 0) (id + 1) bs) in
    let rest = greatest_blocks p (id + 1) bs in
    let here = fold_from (size_of p) (max 0 (size_of p b)) bs in
    let grows = fold_grows (size_of p) 0 (max 0 (size_of p b)) bs (omega arith) in omega (arith, one, more, rest, here, grows)

-- for the instances of the first device
pub has_first_space : (c : Configuration) (numbers : List (DeviceNumber × ℕ)) → IsLegalConfig c → numbers ≡ device_lengths 0 c → AreLengths 0 numbers → HasSpace numbers c.geometry c.banks (measures_of c.geometry.page c.blocks).urgent
has_first_space c numbers legal is lengths = record {
  lengths = lengths;
  space =
      let room = legal.room in
      let all = ap (all_pages c.geometry.page) is ∙ all_blocks c.geometry.page 1 c.blocks in
      let most = greatest_blocks c.geometry.page 1 c.blocks in
      let same = ap (greatest c.geometry.page) is in omega (arith, room, all, most, same);
}

-- for all, without a second device
pub has_space : (c : Configuration) (numbers : List (DeviceNumber × ℕ)) → IsLegalConfig c → c.eeprom ≡ None → numbers ≡ lengths_of c → AreLengths 0 numbers → HasSpace numbers c.geometry c.banks (measures_of c.geometry.page c.blocks).urgent
has_space c numbers legal one is lengths = has_first_space c numbers legal (is ∙ sym (lengths_are_first c legal one)) lengths
