-- A field at the head of a text, up to the byte that ends it, and what stands behind that byte.
use Rattle.std.proofs.Common.{◌≡◌, ◌<◌, ◌^◌, ◌==◌, ℕ, Bool, true, false, if◌then◌else◌, List, [], ◌∷◌, ◌++◌, refl, ap, ◌∙◌}
use Rattle.std.proofs.lemmas.Bool.{and_parts, eqb-true, eq-eqb}
use Rattle.std.specs.Char.{is_ascii_digit}
use Rattle.std.specs.Fmt.{decimal}
use Rattle.std.specs.List.{list_all, list_any}
use Rattle.std.specs.Str.Parse.{digits_value}
use Rattle.std.proofs.lemmas.Fmt.{digits_value-decimal}
use Rattle.nvm_script.proofs.Cuts.{Lacks, or_parts}
use Rattle.nvm_script.proofs.Numerals.{model, decimal-lacks}

abbrev pub before : ℕ → List ℕ → List ℕ
before at [] = []
before at (b ∷ bs) = if b == at then [] else b ∷ before at bs

abbrev pub behind : ℕ → List ℕ → List ℕ
behind at [] = []
behind at (b ∷ bs) = if b == at then bs else behind at bs

pub before-field : (at : ℕ) (a s : List ℕ) → Lacks at a → before at (a ++ at ∷ s) ≡ a
before-field at [] s lacks = rw (eq-eqb at at refl) refl
before-field at (x ∷ a) s lacks =
    let parts = or_parts (x == at) (list_any (λ b. b == at) a) lacks in
    rw (parts.0, before-field at a s parts.1) refl

pub behind-field : (at : ℕ) (a s : List ℕ) → Lacks at a → behind at (a ++ at ∷ s) ≡ s
behind-field at [] s lacks = rw (eq-eqb at at refl) refl
behind-field at (x ∷ a) s lacks =
    let parts = or_parts (x == at) (list_any (λ b. b == at) a) lacks in
    rw (parts.0, behind-field at a s parts.1) refl

pub before-lacks : (at : ℕ) (a : List ℕ) → Lacks at a → before at a ≡ a
before-lacks at [] lacks = refl
before-lacks at (x ∷ a) lacks =
    let parts = or_parts (x == at) (list_any (λ b. b == at) a) lacks in
    rw (parts.0, before-lacks at a parts.1) refl

pub behind-lacks : (at : ℕ) (a : List ℕ) → Lacks at a → behind at a ≡ []
behind-lacks at [] lacks = refl
behind-lacks at (x ∷ a) lacks =
    let parts = or_parts (x == at) (list_any (λ b. b == at) a) lacks in
    rw (parts.0, behind-lacks at a parts.1) refl

-- the number of a field
abbrev pub number_to : ℕ → List ℕ → ℕ
number_to at l = digits_value 10 (before at l)

pub number_to-field : (at n : ℕ) (s : List ℕ) → is_ascii_digit at ≡ false → n < 2 ^ 64 → number_to at (decimal n ++ at ∷ s) ≡ n
number_to-field at n s other fits = ap (digits_value 10) (before-field at (decimal n) s (decimal-lacks at n other fits)) ∙ digits_value-decimal model n fits

pub behind-number : (at n : ℕ) (s : List ℕ) → is_ascii_digit at ≡ false → n < 2 ^ 64 → behind at (decimal n ++ at ∷ s) ≡ s
behind-number at n s other fits = behind-field at (decimal n) s (decimal-lacks at n other fits)

not_this : (p : ℕ → Bool) (x at : ℕ) (b : Bool) → (x == at) ≡ b → p at ≡ false → p x ≡ true → (x == at) ≡ false
not_this p x at true same fails passes = let e : x ≡ at = eqb-true x at same in let f : p x ≡ p at = ap p e in cc
not_this p x at false same fails passes = same

-- a text whose bytes all pass lacks one that doesn't
pub lacks-all : (p : ℕ → Bool) (at : ℕ) (l : List ℕ) → p at ≡ false → list_all p l ≡ true → Lacks at l
lacks-all p at [] fails passes = refl
lacks-all p at (x ∷ l) fails passes =
    let parts = and_parts (p x) (list_all p l) passes in
    rw (not_this p x at (x == at) refl fails parts.0, lacks-all p at l fails parts.1) refl
