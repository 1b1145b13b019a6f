-- The first entry that decides, among those of a piece.
use Rattle.std.specs.Option.{option_or}
use Rattle.std.proofs.Common.{◌≡◌, ◌<◌, ◌≤◌, ◌+◌, ◌-◌, ℕ, zero, suc, true, false, is_some, List, [], ◌∷◌, length, take, drop, Option, Some, None, slice_get, refl, sym, ap, ◌∙◌, arith}
use Rattle.nvm_moves.specs.block_machine.Words.{Entry}
use Rattle.uds_gateway.specs.Answers.{answer_at, answer_in}

some_same : {X : Type 0} {a b : X} → Some a ≡ Some b → a ≡ b
some_same is = cc is

drop_at : {X : Type 0} (xs : List X) (i : ℕ) (x : X) → slice_get xs i ≡ Some x → drop i xs ≡ x ∷ drop (suc i) xs
drop_at [] i x at = cc at
drop_at (y ∷ ys) zero x at = ap (λ z. z ∷ ys) (some_same at)
drop_at (y ∷ ys) (suc i) x at = drop_at ys i x at

drop_past : {X : Type 0} (xs : List X) (i : ℕ) → length xs ≤ i → drop i xs ≡ []
drop_past [] zero past = refl
drop_past [] (suc i) past = refl
drop_past (y ∷ ys) zero past = absurd (omega (arith, past))
drop_past (y ∷ ys) (suc i) past = drop_past ys i (omega (arith, past))

take_one : {X : Type 0} (x : X) (xs : List X) (i to : ℕ) → i < to → take (to - i) (x ∷ xs) ≡ x ∷ take (to - (i + 1)) xs
take_one x xs i to less = let more : to - i ≡ suc (to - (i + 1)) = omega (arith, less) in ap (λ n. take n (x ∷ xs)) more

at_entry : (request : List ℕ) (es : List Entry) (i to : ℕ) (e : Entry) → i < to → slice_get es i ≡ Some e → answer_in request (take (to - i) (drop i es)) ≡ option_or (answer_at request e) (answer_in request (take (to - (i + 1)) (drop (i + 1) es)))
at_entry request es i to e less at =
    let next : suc i ≡ i + 1 = omega arith in
    ap (λ (xs : List Entry). answer_in request (take (to - i) xs)) (drop_at es i e at ∙ ap (λ n. e ∷ drop n es) next) ∙ ap (answer_in request) (take_one e (drop (i + 1) es) i to less)

-- it decides
pub decides : (request : List ℕ) (es : List Entry) (i to : ℕ) (e : Entry) (answer : List ℕ) → i < to → slice_get es i ≡ Some e → answer_at request e ≡ Some answer → answer_in request (take (to - i) (drop i es)) ≡ Some answer
decides request es i to e answer less at is = at_entry request es i to e less at ∙ ap (λ (a : Option (List ℕ)). option_or a (answer_in request (take (to - (i + 1)) (drop (i + 1) es)))) is

-- or those behind it
pub passes : (request : List ℕ) (es : List Entry) (i to : ℕ) (e : Entry) → i < to → slice_get es i ≡ Some e → answer_at request e ≡ None → answer_in request (take (to - i) (drop i es)) ≡ answer_in request (take (to - (i + 1)) (drop (i + 1) es))
passes request es i to e less at is = at_entry request es i to e less at ∙ ap (λ (a : Option (List ℕ)). option_or a (answer_in request (take (to - (i + 1)) (drop (i + 1) es)))) is

-- behind all of them there is none
take_nil : {X : Type 0} (n : ℕ) (xs : List X) → xs ≡ [] → take n xs ≡ []
take_nil zero xs none = refl
take_nil (suc n) [] none = refl
take_nil (suc n) (x ∷ xs) none = absurd (cc none)

pub past_all : (request : List ℕ) (es : List Entry) (i to : ℕ) → length es ≤ i → answer_in request (take (to - i) (drop i es)) ≡ None
past_all request es i to past = ap (answer_in request) (take_nil (to - i) (drop i es) (drop_past es i past))

pub at_end : (request : List ℕ) (es : List Entry) (i to : ℕ) → to ≤ i → answer_in request (take (to - i) (drop i es)) ≡ None
at_end request es i to past = let none : to - i ≡ 0 = omega (arith, past) in ap (λ n. answer_in request (take n (drop i es))) none

-- BY WHAT AN ENTRY DECIDES
is_there : {X : Type 0} (o : Option X) → is_some o ≡ true → (x : X) × (o ≡ Some x)
is_there None is = absurd (cc is)
is_there (Some x) is = (x, refl)

is_none_then : {X : Type 0} (o : Option X) → is_some o ≡ false → o ≡ None
is_none_then None is = refl
is_none_then (Some x) is = absurd (cc is)

pub decided : (request : List ℕ) (es : List Entry) (i to : ℕ) (e : Entry) (answer whole : Option (List ℕ)) → i < to → slice_get es i ≡ Some e → answer ≡ answer_at request e → is_some answer ≡ true → answer_in request (take (to - i) (drop i es)) ≡ whole → answer ≡ whole
decided request es i to e answer whole less at is there before =
    let (a, has) = is_there answer there in has ∙ sym (decides request es i to e a less at (sym is ∙ has)) ∙ before

pub undecided : (request : List ℕ) (es : List Entry) (i to : ℕ) (e : Entry) (answer whole : Option (List ℕ)) → i < to → slice_get es i ≡ Some e → answer ≡ answer_at request e → is_some answer ≡ false → answer_in request (take (to - i) (drop i es)) ≡ whole
    → answer_in request (take (to - (i + 1)) (drop (i + 1) es)) ≡ whole
undecided request es i to e answer whole less at is none before = sym (passes request es i to e less at (sym is ∙ is_none_then answer none)) ∙ before

pub past_decided : (request : List ℕ) (es : List Entry) (i to : ℕ) (whole : Option (List ℕ)) → length es ≤ i → answer_in request (take (to - i) (drop i es)) ≡ whole → answer_in request (take (to - (i + 1)) (drop (i + 1) es)) ≡ whole
past_decided request es i to whole past before = past_all request es (i + 1) to (omega (arith, past)) ∙ sym (past_all request es i to past) ∙ before
