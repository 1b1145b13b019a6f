-- Bytes that are all alike, run by run.
use Rattle.std.specs.Prelude.{◌&&◌, nat_eq, ◌==◌}
use Rattle.std.specs.Cmp.Lexicographic.{pointwise}
use Rattle.std.specs.List.{list_all}
use Rattle.std.specs.Simd.{first_chunks}
use Rattle.std.proofs.Common.{◌≡◌, ◌≤◌, ℕ, zero, suc, ◌+◌, ◌*◌, All, Bool, List, [], ◌∷◌, length, take, drop, replicate, refl, sym, ap, ◌∙◌, arith}
use Rattle.std.proofs.Math.Bool.{and_assoc}
use Rattle.std.proofs.lemmas.List.{take-append-drop, drop-drop}
use Rattle.std.proofs.lemmas.List.Folds.{list_all-append}

-- as many bytes of one value
pub same_as_alike : (xs : List ℕ) (n v : ℕ) → length xs ≡ n → pointwise nat_eq xs (replicate n v) ≡ list_all (λ b. b == v) xs
same_as_alike [] zero v size = refl
same_as_alike [] (suc n) v size = absurd (omega arith)
same_as_alike (x ∷ xs) zero v size = absurd (omega arith)
same_as_alike (x ∷ xs) (suc n) v size = ap (λ (t : Bool). (x == v) && t) (same_as_alike xs n v (omega arith))

-- the first bytes, so many
pub same_as_front : (xs : List ℕ) (n v : ℕ) → length xs ≤ n → pointwise nat_eq xs (take (length xs) (replicate n v)) ≡ list_all (λ b. b == v) xs
same_as_front [] n v few = refl
same_as_front (x ∷ xs) zero v few = absurd (omega arith)
same_as_front (x ∷ xs) (suc n) v few = ap (λ (t : Bool). (x == v) && t) (same_as_front xs n v (omega arith))

-- whole runs, and what is left
pub runs_all : (p : ℕ → Bool) (n k : ℕ) (xs : List ℕ) → (list_all (λ run. list_all p run) (first_chunks n k xs) && list_all p (drop (k * n) xs)) ≡ list_all p xs
runs_all p n zero xs = let none : 0 * n ≡ 0 = omega arith in ap (λ (at : ℕ). list_all p (drop at xs)) none
runs_all p n (suc k) xs =
    let past : suc k * n ≡ n + k * n = omega arith in
    rw (past, ← drop-drop (k * n) n xs, and_assoc) (ap (λ (t : Bool). list_all p (take n xs) && t) (runs_all p n k (drop n xs)) ∙ sym (list_all-append p (take n xs) (drop n xs)) ∙ ap (list_all p) (take-append-drop n xs))

pub all_by_runs : (v k : ℕ) (xs rest : List ℕ) (runs : List (List ℕ)) (first last : Bool) → runs ≡ first_chunks 64 k xs → rest ≡ drop (k * 64) xs → first ≡ list_all (λ run. list_all (λ b. b == v) run) runs → last ≡ list_all (λ b. b == v) rest → (first && last) ≡ list_all (λ b. b == v) xs
all_by_runs v k xs rest runs first last front back is also = rw (is, also, front, back) (runs_all (λ b. b == v) 64 k xs)

-- each of one value
pub alike_from_all : (xs : List ℕ) (v : ℕ) → All (λ b. b ≡ v) xs → xs ≡ replicate (length xs) v
alike_from_all [] v all = refl
alike_from_all (x ∷ xs) v all =
    let one : x ≡ v = all 0 0 (omega arith) in
    let rest = alike_from_all xs v (λ k d lt. all (suc k) d (omega arith)) in
    λ i. one i ∷ rest i
