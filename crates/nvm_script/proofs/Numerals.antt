-- The digits of a number, as std knows them.
use Rattle.std.proofs.Common.{◌≡◌, ◌<◌, ◌≤◌, ◌^◌, ◌+◌, ◌-◌, ◌*◌, ◌==◌, ℕ, zero, suc, Bool, true, false, not, ◌&&◌, ◌||◌, nat_le, if◌then◌else◌, List, [], ◌∷◌, length, get_or, slice_index, IfSome, Some, None, refl, sym, arith, rules}
use Rattle.std.proofs.lemmas.Bool.{and_parts, ltb-true, lt-ltb, leb-true, le-leb, eqb-true}
use Rattle.std.proofs.lemmas.Bool.Decides.{nat_tests}
use Rattle.std.proofs.lemmas.Fmt.{decimal_digit, decimal_nonempty, first_decimal, digits_decimal, digits_value-decimal, decimal-digits_value}
use Rattle.std.proofs.lemmas.Str.{digit_value_digit}
use Rattle.std.proofs.lemmas.Str.Parse.{IsNumeralModel, numerals_by_value}
use Rattle.std.specs.Char.{is_ascii_digit}
use Rattle.std.specs.Fmt.{decimal}
use Rattle.std.specs.List.{list_all, list_any}
use Rattle.std.specs.Str.Parse.{digits_value}
use Rattle.nv_base.specs.Decimal.{is_numeral, decimal_number_of}

abbrev pub are_digits : List ℕ → Type 0
are_digits ds = list_all is_ascii_digit ds ≡ true

pub model : IsNumeralModel are_digits (digits_value 10)
model = numerals_by_value are_digits (search rules)

-- one digit or more, and the first isn't 0 but where it is alone
pub record IsNumeralText (text : List ℕ) : Type 0 where
  pub some : 0 < length text
  pub digits : are_digits text
  pub first : get_or text 0 0 ≡ 48 → length text ≡ 1

pub IsNumeralText-from : (text : List ℕ) → is_numeral text ≡ true → IsNumeralText text
IsNumeralText-from text h =
    let outer = and_parts _ _ h in
    let inner = and_parts _ _ outer.0 in
    record { some = ltb-true 0 (length text) inner.0; digits = outer.1; first = λ e. grind (arith, nat_tests, inner.1) }

by_bounds : (low high : ℕ) (text : List ℕ) (a b : Bool) → nat_le low (digits_value 10 text) ≡ a → nat_le (digits_value 10 text) high ≡ b → IsNumeralText text → high < 2 ^ 64
    → IfSome (if a && b then Some (digits_value 10 text) else None) (λ n. (low ≤ n) × (n ≤ high) × (text ≡ decimal n))
by_bounds low high text true true above below is small =
    let most : digits_value 10 text ≤ high = leb-true (digits_value 10 text) high below in
    (leb-true low (digits_value 10 text) above, most, sym (decimal-digits_value model text is.digits is.some is.first (omega arith)))
by_bounds low high text true false above below is small = tt
by_bounds low high text false b above below is small = tt

by_numeral : (low high : ℕ) (text : List ℕ) (b : Bool) → is_numeral text ≡ b → high < 2 ^ 64
    → IfSome (if b then (if nat_le low (digits_value 10 text) && nat_le (digits_value 10 text) high then Some (digits_value 10 text) else None) else None) (λ n. (low ≤ n) × (n ≤ high) × (text ≡ decimal n))
by_numeral low high text true is small = by_bounds low high text (nat_le low (digits_value 10 text)) (nat_le (digits_value 10 text) high) refl refl (IsNumeralText-from text is) small
by_numeral low high text false is small = tt

first_or : (n : ℕ) → n < 2 ^ 64 → (not (slice_index (decimal n) 0 == 48) || length (decimal n) == 1) ≡ true
first_or zero fits = rw (decimal_digit 0 (omega arith)) refl
first_or (suc m) fits =
    let first : 48 < get_or (decimal (suc m)) 0 0 = first_decimal (suc m) (omega arith) fits in
    grind (arith, nat_tests)

is_numeral-decimal : (n : ℕ) → n < 2 ^ 64 → is_numeral (decimal n) ≡ true
is_numeral-decimal n fits = rw (lt-ltb 0 (length (decimal n)) (decimal_nonempty n fits), first_or n fits, digits_decimal model n fits) refl

or_false : (a b : Bool) → a ≡ false → b ≡ false → (a || b) ≡ false
or_false a b x y = rw (x, y) refl

pub differs : (d at : ℕ) (b : Bool) → (d == at) ≡ b → is_ascii_digit d ≡ true → is_ascii_digit at ≡ false → (d == at) ≡ false
differs d at true same digit other = let e : d ≡ at = eqb-true d at same in cc
differs d at false same digit other = same

-- what a number is read from is its decimal text
pub decimal_number_of-spelled : (low high : ℕ) (text : List ℕ) → high < 2 ^ 64 → IfSome (decimal_number_of low high text) (λ n. (low ≤ n) × (n ≤ high) × (text ≡ decimal n))
unfolding decimal_number_of
decimal_number_of-spelled low high text small = by_numeral low high text (is_numeral text) refl small

-- a number within bounds is read from its decimal text
pub decimal_number_of-decimal : (low high n : ℕ) → low ≤ n → n ≤ high → high < 2 ^ 64 → decimal_number_of low high (decimal n) ≡ Some n
unfolding decimal_number_of
decimal_number_of-decimal low high n above below small =
    let fits : n < 2 ^ 64 = omega arith in
    rw (is_numeral-decimal n fits, digits_value-decimal model n fits, le-leb low n above, le-leb n high below) refl

-- digits lack each byte that is none
pub digits-lack : (at : ℕ) (ds : List ℕ) → is_ascii_digit at ≡ false → are_digits ds → list_any (λ b. b == at) ds ≡ false
digits-lack at [] other h = refl
digits-lack at (d ∷ ds) other h =
    let parts = and_parts (is_ascii_digit d) (list_all is_ascii_digit ds) h in
    or_false (d == at) (list_any (λ b. b == at) ds) (differs d at (d == at) refl parts.0 other) (digits-lack at ds other parts.1)

pub decimal-lacks : (at n : ℕ) → is_ascii_digit at ≡ false → n < 2 ^ 64 → list_any (λ b. b == at) (decimal n) ≡ false
decimal-lacks at n other fits = digits-lack at (decimal n) other (digits_decimal model n fits)

-- THE SHORT ONES

of_number : (low high n : ℕ) (text : List ℕ) → is_numeral text ≡ true → digits_value 10 text ≡ n → decimal_number_of low high text ≡ (if nat_le low n && nat_le n high then Some n else None)
unfolding decimal_number_of
of_number low high n text numeral value = rw (numeral, value) refl

is_digit : (c : ℕ) → 48 ≤ c → c ≤ 57 → is_ascii_digit c ≡ true
is_digit c above below = rw (le-leb 48 c above, le-leb c 57 below) refl

-- one digit spells its value
pub number_of_one : (low high one : ℕ) → 48 ≤ one → one ≤ 57 → decimal_number_of low high (one ∷ []) ≡ (if nat_le low (one - 48) && nat_le (one - 48) high then Some (one - 48) else None)
number_of_one low high one above below =
    let value = digit_value_digit one (above, below) in
    of_number low high (one - 48) (one ∷ []) (rw (is_digit one above below) (grind (arith, nat_tests))) (omega (arith, value))

not_zero : (ten : ℕ) → 49 ≤ ten → (not (ten == 48) || false) ≡ true
not_zero ten above = grind (arith, nat_tests, above)

-- and two digits, the first of which isn't 0, that of both
pub number_of_two : (low high ten one : ℕ) → 49 ≤ ten → ten ≤ 57 → 48 ≤ one → one ≤ 57
    → decimal_number_of low high (ten ∷ one ∷ []) ≡ (if nat_le low (10 * (ten - 48) + (one - 48)) && nat_le (10 * (ten - 48) + (one - 48)) high then Some (10 * (ten - 48) + (one - 48)) else None)
number_of_two low high ten one first few above below =
    let tens = digit_value_digit ten (omega (arith, first), few) in
    let ones = digit_value_digit one (above, below) in
    of_number low high (10 * (ten - 48) + (one - 48)) (ten ∷ one ∷ []) (rw (not_zero ten first, is_digit ten (omega (arith, first)) few, is_digit one above below) refl) (omega (arith, tens, ones))
