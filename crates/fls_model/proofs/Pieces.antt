-- What programs and erases leave of pieces of bytes.
use Rattle.std.specs.Prelude.{bit_and}
use Rattle.std.proofs.Common.{◌≡◌, ◌<◌, ◌≤◌, ℕ, zero, suc, ◌+◌, ◌-◌, List, [], ◌∷◌, ◌++◌, length, take, drop, replicate, refl, sym, ap, ◌∙◌, arith}
use Rattle.std.proofs.lemmas.List.{take_at, drop_at, drop-drop, drop-take, take-take, length-take-le, append_assoc}
use Rattle.std.proofs.lemmas.Nat.{and_le_r, and_mask, and_comm}
use Rattle.std.proofs.Math.Nat.{mod-eq_of_lt}
use Rattle.std.specs.List.{All}
use Rattle.fls_model.specs.Bytes.{Grown, and_bytes, spliced, piece}

-- a piece inside a front that is kept, and behind what changed
pub piece_front : (n m p : ℕ) (old new : List ℕ) → take n new ≡ take n old → m + p ≤ n → piece m p new ≡ piece m p old
piece_front n m p old new same le =
    sym (drop-take m p new) ∙ ap (drop m) (sym (take-take (m + p) n new le)) ∙ ap (λ (l : List ℕ). drop m (take (m + p) l)) same
    ∙ ap (drop m) (take-take (m + p) n old le) ∙ drop-take m p old

pub piece_back : (n m p : ℕ) (old new : List ℕ) → drop n new ≡ drop n old → n ≤ m → piece m p new ≡ piece m p old
piece_back n m p old new same le =
    let at : n + (m - n) ≡ m = omega arith in
    ap (λ (k : ℕ). take p (drop k new)) (sym at) ∙ ap (take p) (sym (drop-drop (m - n) n new)) ∙ ap (λ (l : List ℕ). take p (drop (m - n) l)) same
    ∙ ap (take p) (drop-drop (m - n) n old) ∙ ap (λ (k : ℕ). take p (drop k old)) at

-- MORE BITS
pub grown_take : (n : ℕ) (xs ys : List ℕ) → Grown xs ys → Grown (take n xs) (take n ys)
grown_take zero xs ys grown = tt
grown_take (suc n) [] [] grown = tt
grown_take (suc n) [] (y ∷ ys) grown = absurd grown
grown_take (suc n) (x ∷ xs) [] grown = absurd grown
grown_take (suc n) (x ∷ xs) (y ∷ ys) grown = (grown.0, grown.1, grown_take n xs ys grown.2)

pub grown_drop : (n : ℕ) (xs ys : List ℕ) → Grown xs ys → Grown (drop n xs) (drop n ys)
grown_drop zero xs ys grown = grown
grown_drop (suc n) [] [] grown = tt
grown_drop (suc n) [] (y ∷ ys) grown = absurd grown
grown_drop (suc n) (x ∷ xs) [] grown = absurd grown
grown_drop (suc n) (x ∷ xs) (y ∷ ys) grown = grown_drop n xs ys grown.2

-- DONE
pub spliced_piece : (bytes new : List ℕ) (a n : ℕ) → length new ≡ n → a ≤ length bytes → piece a n (spliced bytes a new) ≡ new
spliced_piece bytes new a n is le =
    let front : length (take a bytes) ≡ a = length-take-le a bytes le in
    ap (λ (l : List ℕ). take n (drop a l)) (append_assoc (take a bytes) new (drop (a + length new) bytes))
    ∙ ap (take n) (drop_at (take a bytes) (new ++ drop (a + length new) bytes) a front)
    ∙ take_at new (drop (a + length new) bytes) n is

and_ff : (x : ℕ) → x < 256 → bit_and 255 x ≡ x
and_ff x small = and_comm 255 x ∙ and_mask x 8 ∙ mod-eq_of_lt small

pub and_blank : (page : List ℕ) → All (λ x. x < 256) page → and_bytes (replicate (length page) 255) page ≡ page
and_blank [] all = refl
and_blank (x ∷ xs) all =
    let here : x < 256 = all 0 0 (omega arith) in
    let rest : All (λ (y : ℕ). y < 256) xs = λ k d lt. all (suc k) d (omega arith) in
    λ i. and_ff x here i ∷ and_blank xs rest i

pub and_zeros : (n : ℕ) (xs : List ℕ) → length xs ≡ n → and_bytes xs (replicate n 0) ≡ replicate n 0
and_zeros zero [] is = refl
and_zeros zero (x ∷ xs) is = absurd (omega (arith, is))
and_zeros (suc n) [] is = absurd (omega (arith, is))
and_zeros (suc n) (x ∷ xs) is =
    let here : bit_and x 0 ≡ 0 = omega (arith, and_le_r x 0) in
    let rest = and_zeros n xs (omega (arith, is)) in
    λ i. here i ∷ rest i
