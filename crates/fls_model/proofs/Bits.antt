use Rattle.std.proofs.Common.{◌≡◌, ◌<◌, ℕ, zero, suc, List, [], ◌∷◌, ◌++◌, length, take, drop, set, get_or, refl, ap, arith, add-one, ◌+◌}
use Rattle.std.specs.Prelude.{bit_and}
use Rattle.fls_model.specs.Bytes.{and_bytes}

and_suc : (old page : List ℕ) (i : ℕ) → i < length page → i < length old → set (and_bytes (take i old) (take i page) ++ drop i old) i (bit_and (get_or (and_bytes (take i old) (take i page) ++ drop i old) i 0) (get_or page i 0)) ≡ and_bytes (take (suc i) old) (take (suc i) page) ++ drop (suc i) old
and_suc [] page i lt lt2 = absurd (omega arith)
and_suc (x ∷ xs) [] i lt lt2 = absurd (omega arith)
and_suc (x ∷ xs) (y ∷ ys) zero lt lt2 = refl
and_suc (x ∷ xs) (y ∷ ys) (suc i) lt lt2 = ap (λ (l : List ℕ). bit_and x y ∷ l) (and_suc xs ys i (omega arith) (omega arith))

pub and_more : (old page new : List ℕ) (i : ℕ) → i < length page → i < length old → new ≡ and_bytes (take i old) (take i page) ++ drop i old → set new i (bit_and (get_or new i 0) (get_or page i 0)) ≡ and_bytes (take (i + 1) old) (take (i + 1) page) ++ drop (i + 1) old
and_more old page new i lt lt2 is = rw (is, add-one) (and_suc old page i lt lt2)
