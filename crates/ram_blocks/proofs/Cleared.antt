-- RAM that is zeroed block by block.
use Rattle.std.proofs.Common.{◌≡◌, ◌≤◌, ◌<◌, ℕ, ◌+◌, List, ◌++◌, length, map, take, drop, get_or, slice_set, ap, ◌∙◌, arith}
use Rattle.std.proofs.lemmas.List.{append-nil, take_all, drop_all, length-set}
use Rattle.std.proofs.lemmas.List.Edits.{map_over_more}
use Rattle.ram_blocks.specs.declared.kept.RamBlock.{RamBlock}
use Rattle.ram_blocks.specs.Kept.{zeros}

abbrev pub cleared : RamBlock → RamBlock
cleared r = zeros (length r.content)

pub clear_more : (xs ys : List RamBlock) (i n : ℕ) (x y : RamBlock) → length ys ≡ n → n ≡ length xs → ys ≡ map cleared (take i xs) ++ drop i xs → i < n → x ≡ get_or ys i x → y ≡ cleared x
    → (length (slice_set ys i y) ≡ n) × (n ≡ length xs) × (slice_set ys i y ≡ map cleared (take (i + 1) xs) ++ drop (i + 1) xs)
clear_more xs ys i n x y here same is below read new =
    (length-set ys i y ∙ here, same, ap (slice_set ys i) new ∙ map_over_more cleared xs ys i x (omega arith) is read)

pub clear_all : (xs ys : List RamBlock) (i n : ℕ) → n ≡ length xs → ys ≡ map cleared (take i xs) ++ drop i xs → n ≤ i → ys ≡ map cleared xs
clear_all xs ys i n same is end =
    is ∙ ap (λ zs. map cleared zs ++ drop i xs) (take_all i xs (omega arith)) ∙ ap (λ zs. map cleared xs ++ zs) (drop_all i xs (omega arith)) ∙ append-nil (map cleared xs)
