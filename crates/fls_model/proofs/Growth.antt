-- bytes whose bits only rose
use Rattle.std.proofs.Common.{◌≡◌, ◌<◌, ℕ, zero, suc, ◌+◌, List, [], ◌∷◌, length, take, get_or, arith, add-one}
use Rattle.std.specs.Prelude.{bit_and}
use Rattle.fls_model.specs.Bytes.{Grown}

grown_suc : (xs ys : List ℕ) (i : ℕ) → i < length xs → i < length ys → Grown (take i xs) (take i ys) → bit_and (get_or xs i 0) (get_or ys i 0) ≡ get_or xs i 0 → get_or ys i 0 < 256 → Grown (take (suc i) xs) (take (suc i) ys)
grown_suc [] ys i lt lt2 here bits byte = absurd (omega arith)
grown_suc (x ∷ xs) [] i lt lt2 here bits byte = absurd (omega arith)
grown_suc (x ∷ xs) (y ∷ ys) zero lt lt2 here bits byte = (bits, λ _. byte, tt)
grown_suc (x ∷ xs) (y ∷ ys) (suc i) lt lt2 here bits byte = (here.0, here.1, grown_suc xs ys i (omega arith) (omega arith) here.2 bits byte)

pub grown_more : (xs ys : List ℕ) (i : ℕ) → i < length xs → i < length ys → Grown (take i xs) (take i ys) → bit_and (get_or xs i 0) (get_or ys i 0) ≡ get_or xs i 0 → get_or ys i 0 < 256 → Grown (take (i + 1) xs) (take (i + 1) ys)
grown_more xs ys i lt lt2 here bits byte = rw add-one (grown_suc xs ys i lt lt2 here bits byte)

pub grown_at : (xs ys : List ℕ) (i : ℕ) → i < length xs → Grown xs ys → bit_and (get_or xs i 0) (get_or ys i 0) ≡ get_or xs i 0
grown_at [] ys i lt all = absurd (omega arith)
grown_at (x ∷ xs) [] i lt all = absurd all
grown_at (x ∷ xs) (y ∷ ys) zero lt all = all.0
grown_at (x ∷ xs) (y ∷ ys) (suc i) lt all = grown_at xs ys i (omega arith) all.2
