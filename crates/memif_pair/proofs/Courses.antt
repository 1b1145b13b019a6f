-- Laws of courses: an operation more leaves the moments before it.
use Rattle.std.specs.Prelude.{slice_get}
use Rattle.std.proofs.Common.{◌≡◌, ℕ, zero, suc, ◌+◌, ◌<◌, ◌≤◌, Bool, true, false, List, [], ◌∷◌, ◌++◌, length, Some, refl, ap, ◌∙◌, arith}
use Rattle.memif_pair.specs.PairClock.{one_if, own}

pub own_front : (p : Bool) (cs : List Bool) (q : Bool) (k : ℕ) → k ≤ length cs → own p (cs ++ q ∷ []) k ≡ own p cs k
own_front p [] q zero le = refl
own_front p [] q (suc k) le = absurd (omega (arith, le))
own_front p (c ∷ cs) q zero le = refl
own_front p (c ∷ cs) q (suc k) le = ap (λ n. one_if p c + n) (own_front p cs q k (omega (arith, le)))

pub own_push : (p : Bool) (cs : List Bool) (q : Bool) → own p (cs ++ q ∷ []) (length (cs ++ q ∷ [])) ≡ own p cs (length cs) + one_if p q
own_push p [] q = omega arith
own_push p (c ∷ cs) q = let rest = own_push p cs q in omega (arith, rest)

one_few : (p q : Bool) → one_if p q ≤ 1
one_few true true = omega arith
one_few true false = omega arith
one_few false true = omega arith
one_few false false = omega arith

pub own_few : (p : Bool) (cs : List Bool) (k : ℕ) → own p cs k ≤ k
own_few p [] k = omega arith
own_few p (c ∷ cs) zero = omega arith
own_few p (c ∷ cs) (suc k) = let rest = own_few p cs k in let one = one_few p c in omega (arith, rest, one)

one_of : (q : Bool) → one_if false q + one_if true q ≡ 1
one_of true = refl
one_of false = refl

-- each operation is of one of them
pub own_both : (cs : List Bool) → own false cs (length cs) + own true cs (length cs) ≡ length cs
own_both [] = refl
own_both (c ∷ cs) = let rest = own_both cs in let one = one_of c in omega (arith, rest, one)

pub own_grows : (p : Bool) (cs : List Bool) (k n : ℕ) → k ≤ n → own p cs k ≤ own p cs n
own_grows p [] k n le = omega arith
own_grows p (c ∷ cs) zero n le = omega arith
own_grows p (c ∷ cs) (suc k) zero le = absurd (omega (arith, le))
own_grows p (c ∷ cs) (suc k) (suc n) le = let rest = own_grows p cs k n (omega (arith, le)) in omega (arith, rest)

pub own_most : (p : Bool) (cs : List Bool) (k : ℕ) → own p cs k ≤ own p cs (length cs)
own_most p [] k = omega arith
own_most p (c ∷ cs) zero = omega arith
own_most p (c ∷ cs) (suc k) = let rest = own_most p cs k in omega (arith, rest)

-- one of its own has more behind it
pub own_within : (p : Bool) (cs : List Bool) (k : ℕ) (q : Bool) → slice_get cs k ≡ Some q → one_if p q ≡ 1 → own p cs k < own p cs (length cs)
own_within p [] k q at one = cc
own_within p (c ∷ cs) zero q at one =
    let same : c ≡ q = cc in
    let here : one_if p c ≡ 1 = ap (one_if p) same ∙ one in
    let rest : 0 ≤ own p cs (length cs) = omega arith in
    omega (arith, here)
own_within p (c ∷ cs) (suc k) q at one = let rest = own_within p cs k q at one in omega (arith, rest)

-- an operation counts where it is one of its own
pub own_step : (p : Bool) (cs : List Bool) (k : ℕ) (q : Bool) → slice_get cs k ≡ Some q → own p cs (suc k) ≡ own p cs k + one_if p q
own_step p [] k q at = cc
own_step p (c ∷ cs) zero q at =
    let same : c ≡ q = cc in
    let here : one_if p c ≡ one_if p q = ap (one_if p) same in
    let none = own_few p cs zero in
    omega (arith, none, here)
own_step p (c ∷ cs) (suc k) q at = let rest = own_step p cs k q at in omega (arith, rest)

pub within : (cs : List Bool) (k : ℕ) (q : Bool) → slice_get cs k ≡ Some q → k < length cs
within [] k q at = cc
within (c ∷ cs) zero q at = omega arith
within (c ∷ cs) (suc k) q at = let rest = within cs k q at in omega (arith, rest)

pub get_front : (cs : List Bool) (q : Bool) (k : ℕ) → k < length cs → slice_get (cs ++ q ∷ []) k ≡ slice_get cs k
get_front [] q k lt = absurd (omega (arith, lt))
get_front (c ∷ cs) q zero lt = refl
get_front (c ∷ cs) q (suc k) lt = get_front cs q k (omega (arith, lt))

pub get_last : (cs : List Bool) (q : Bool) → slice_get (cs ++ q ∷ []) (length cs) ≡ Some q
get_last [] q = refl
get_last (c ∷ cs) q = get_last cs q

pub length_push : (cs : List Bool) (q : Bool) → length (cs ++ q ∷ []) ≡ length cs + 1
length_push [] q = refl
length_push (c ∷ cs) q = let rest = length_push cs q in omega (arith, rest)
