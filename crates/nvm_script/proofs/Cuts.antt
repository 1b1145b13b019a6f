-- Texts that are cut at a byte.
use Rattle.std.proofs.Common.{◌≡◌, ◌<◌, ◌+◌, ◌==◌, ℕ, suc, Bool, true, false, ◌||◌, nat_lt, List, [], ◌∷◌, ◌++◌, length, get_or, take, drop, position, Option, Some, None, refl, sym, ap, ◌∙◌, arith, length-append, append_assoc, add-one}
use Rattle.std.proofs.lemmas.Bool.{eqb-true, eq-eqb, lt-ltb, le-ltb}
use Rattle.std.proofs.lemmas.List.{take-append-drop, take_at, drop_at}
use Rattle.std.proofs.lemmas.List.Quantifiers.{position-Some}
use Rattle.std.proofs.Math.Seq.{drop-cons}
use Rattle.std.specs.List.{list_any, position_or_len}
use Rattle.nvm_script.specs.Cut.{cut_where, cut_at}

-- the text lacks a byte
abbrev pub Lacks : ℕ → List ℕ → Type 0
Lacks at text = list_any (λ b. b == at) text ≡ false

pub or_parts : (a b : Bool) → (a || b) ≡ false → (a ≡ false) × (b ≡ false)
or_parts true b h = cc
or_parts false b h = (refl, h)

-- the front, and the rest behind the byte where there is one, are the text
abbrev pub Joins : ℕ → List ℕ → List ℕ → Option (List ℕ) → Type 0
Joins at text front None = text ≡ front
Joins at text front (Some rest) = text ≡ front ++ at ∷ rest

by_position : (at : ℕ) (text : List ℕ) (o : Option ℕ) → position (λ b. b == at) text ≡ o → Joins at text (cut_where text o).0 (cut_where text o).1
by_position at text None e = refl
by_position at text (Some i) e =
    let f = position-Some (λ b. b == at) text i 0 e in
    let here : get_or text i 0 ≡ at = eqb-true (get_or text i 0) at f.1 in
    let within : i < length text = f.0 in
    sym (take-append-drop i text) ∙ ap (λ (l : List ℕ). take i text ++ l) (drop-cons text i 0 within ∙ ap (λ (b : ℕ). b ∷ drop (suc i) text) here ∙ ap (λ (n : ℕ). at ∷ drop n text) (sym (add-one i)))

pub cut_at-joins : (at : ℕ) (text : List ℕ) → Joins at text (cut_at at text).0 (cut_at at text).1
cut_at-joins at text = by_position at text (position (λ b. b == at) text) refl

place-append : (at : ℕ) (front rest : List ℕ) → Lacks at front → position_or_len (λ b. b == at) (front ++ at ∷ rest) ≡ length front
place-append at [] rest lacks = rw (eq-eqb at at refl) refl
place-append at (x ∷ front) rest lacks =
    let parts = or_parts (x == at) (list_any (λ b. b == at) front) lacks in
    rw (parts.0, place-append at front rest parts.1) (omega arith)

place-lacks : (at : ℕ) (front : List ℕ) → Lacks at front → position_or_len (λ b. b == at) front ≡ length front
place-lacks at [] lacks = refl
place-lacks at (x ∷ front) lacks =
    let parts = or_parts (x == at) (list_any (λ b. b == at) front) lacks in
    rw (parts.0, place-lacks at front parts.1) (omega arith)

drop-behind : (at : ℕ) (front rest : List ℕ) → drop (length front + 1) (front ++ at ∷ rest) ≡ rest
drop-behind at front rest =
    let n : length (front ++ at ∷ []) ≡ length front + 1 = length-append front (at ∷ []) in
    ap (drop (length front + 1)) (sym (append_assoc front (at ∷ []) rest)) ∙ drop_at (front ++ at ∷ []) rest (length front + 1) n

pub cut_at-append : (at : ℕ) (front rest : List ℕ) → Lacks at front → cut_at at (front ++ at ∷ rest) ≡ (front, Some rest)
cut_at-append at front rest lacks =
    let n : length (front ++ at ∷ rest) ≡ length front + length (at ∷ rest) = length-append front (at ∷ rest) in
    let within : length front < length (front ++ at ∷ rest) = omega arith in
    rw (place-append at front rest lacks, lt-ltb (length front) (length (front ++ at ∷ rest)) within, take_at front (at ∷ rest) (length front) refl, drop-behind at front rest) refl

pub cut_at-lacks : (at : ℕ) (front : List ℕ) → Lacks at front → cut_at at front ≡ (front, None)
cut_at-lacks at front lacks =
    let past : nat_lt (length front) (length front) ≡ false = le-ltb (length front) (length front) (omega arith) in
    rw (place-lacks at front lacks, past) refl
