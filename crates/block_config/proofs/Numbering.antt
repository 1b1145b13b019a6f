-- Device numbers: the last one, and how many there are.
use Rattle.std.proofs.Common.{◌≡◌, ℕ, suc, add-zero, append_assoc, arith, ◌+◌, List, [], ◌∷◌, ◌++◌, length, Option, None, refl, ap, ◌∙◌, sym, length-append}
use Rattle.std.proofs.lemmas.List.{append-nil}
use Rattle.std.specs.Prelude.{sum_by}
use Rattle.std.proofs.lemmas.List.FromFn.{length-map-range_with_len}
use Rattle.std.proofs.lemmas.List.Sums.{sum_by-cons}
use Rattle.nv_base.specs.declared.instance.DeviceNumber.{DeviceNumber}
use Rattle.nv_base.specs.Lengths.{last_or}
use Rattle.block_config.specs.declared.block.BlockDesc.{BlockDesc}
use Rattle.block_config.specs.Sizes.{instances_of}
use Rattle.block_config.specs.Lengths.{length_at, block_lengths, lengths_from, stored_lengths, lengths_by}

pub last_or-push : (low : ℕ) (xs : List (DeviceNumber × ℕ)) (n : DeviceNumber) (l : ℕ) → last_or low (xs ++ (n, l) ∷ []) ≡ n.0
last_or-push low [] n l = refl
last_or-push low (x ∷ xs) n l = last_or-push x.0.0 xs n l

-- one number for each instance
pub length-lengths_from : (id : ℕ) (blocks : List BlockDesc) → length (lengths_from id blocks) ≡ sum_by instances_of blocks
length-lengths_from id [] = refl
length-lengths_from id (b ∷ bs) =
    length-append (block_lengths id b) (lengths_from (id + 1) bs)
    ∙ ap (λ n. n + length (lengths_from (id + 1) bs)) (length-map-range_with_len (length_at id b.length) 0 (instances_of b))
    ∙ ap (λ n. instances_of b + n) (length-lengths_from (id + 1) bs)
    ∙ sym (sum_by-cons instances_of b bs)

-- one more block
pub lengths_by-push : (device : Option ℕ) (id : ℕ) (blocks : List BlockDesc) (b : BlockDesc) → lengths_by device id (blocks ++ b ∷ []) ≡ lengths_by device id blocks ++ stored_lengths device (id + length blocks) b
lengths_by-push device id [] b = rw (append-nil, add-zero) refl
lengths_by-push device id (x ∷ xs) b =
    let at : id + 1 + length xs ≡ id + suc (length xs) = omega arith in
    rw (lengths_by-push device (id + 1) xs b, append_assoc, at) refl

-- where no device is named they are all
pub lengths_by-none : (id : ℕ) (blocks : List BlockDesc) → lengths_by None id blocks ≡ lengths_from id blocks
lengths_by-none id [] = refl
lengths_by-none id (b ∷ bs) = ap (λ (ls : List (DeviceNumber × ℕ)). block_lengths id b ++ ls) (lengths_by-none (id + 1) bs)
