-- Pieces of bytes, one byte further.
use Rattle.std.proofs.Common.{◌≡◌, ◌<◌, ◌+◌, ℕ, zero, suc, List, [], ◌∷◌, ◌++◌, length, take, drop, set, get_or, refl, sym, ap, ◌∙◌, arith, add-one}
use Rattle.std.proofs.lemmas.List.{get_or-drop, get_or_default}
use Rattle.std.specs.Prelude.{bit_and}
use Rattle.fls_model.specs.Bytes.{and_bytes}

-- COPYING
copy_suc : (xs old : List ℕ) (i : ℕ) → i < length xs → i < length old → set (take i xs ++ drop i old) i (get_or xs i 0) ≡ take (suc i) xs ++ drop (suc i) old
copy_suc [] old i lt lt2 = absurd (omega arith)
copy_suc (x ∷ xs) [] i lt lt2 = absurd (omega arith)
copy_suc (x ∷ xs) (y ∷ ys) zero lt lt2 = refl
copy_suc (x ∷ xs) (y ∷ ys) (suc i) lt lt2 = ap (λ (l : List ℕ). x ∷ l) (copy_suc xs ys i (omega arith) (omega arith))

pub copy_more : (xs old new : List ℕ) (i : ℕ) → i < length xs → i < length old → new ≡ take i xs ++ drop i old → set new i (get_or xs i 0) ≡ take (i + 1) xs ++ drop (i + 1) old
copy_more xs old new i lt lt2 is = rw (is, add-one) (copy_suc xs old i lt lt2)

-- CLEARING BITS
and_suc : (xs page old : List ℕ) (i : ℕ) → i < length xs → i < length page → i < length old
    → set (and_bytes (take i xs) (take i page) ++ drop i old) i (bit_and (get_or xs i 0) (get_or page i 0)) ≡ and_bytes (take (suc i) xs) (take (suc i) page) ++ drop (suc i) old
and_suc [] page old i lt lt2 lt3 = absurd (omega arith)
and_suc (x ∷ xs) [] old i lt lt2 lt3 = absurd (omega arith)
and_suc (x ∷ xs) (y ∷ ys) [] i lt lt2 lt3 = absurd (omega arith)
and_suc (x ∷ xs) (y ∷ ys) (z ∷ zs) zero lt lt2 lt3 = refl
and_suc (x ∷ xs) (y ∷ ys) (z ∷ zs) (suc i) lt lt2 lt3 = ap (λ (l : List ℕ). bit_and x y ∷ l) (and_suc xs ys zs i (omega arith) (omega arith) (omega arith))

pub and_more : (xs page old new : List ℕ) (i : ℕ) → i < length xs → i < length page → i < length old → new ≡ and_bytes (take i xs) (take i page) ++ drop i old
    → set new i (bit_and (get_or xs i 0) (get_or page i 0)) ≡ and_bytes (take (i + 1) xs) (take (i + 1) page) ++ drop (i + 1) old
and_more xs page old new i lt lt2 lt3 is = rw (is, add-one) (and_suc xs page old i lt lt2 lt3)

-- READING
pub read_at : (items : List ℕ) (at i x : ℕ) → at + i < length items → x ≡ get_or items (at + i) x → x ≡ get_or (drop at items) i 0
read_at items at i x lt is = is ∙ get_or_default items (at + i) x 0 lt ∙ sym (get_or-drop at items i 0)
