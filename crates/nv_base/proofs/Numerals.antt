-- The digits of a number, as std knows them.
use Rattle.std.proofs.Common.{◌≡◌, ◌<◌, ℕ, true, List, length, rules}
use Rattle.std.proofs.lemmas.Bool.{and_parts, ltb-true}
use Rattle.std.proofs.lemmas.Fmt.{IsAscii-from_digits}
use Rattle.std.proofs.lemmas.Str.{IsUtf8-from_ascii}
use Rattle.std.proofs.lemmas.Str.Parse.{IsNumeralModel, numerals_by_value}
use Rattle.std.specs.Char.{is_ascii_digit}
use Rattle.std.specs.List.{list_all}
use Rattle.std.specs.Str.{IsUtf8}
use Rattle.std.specs.Str.Parse.{digits_value}
use Rattle.nv_base.specs.Decimal.{is_numeral}

abbrev pub are_digits : List ℕ → Type 0
are_digits ds = list_all is_ascii_digit ds ≡ true

pub model : IsNumeralModel are_digits (digits_value 10)
model = numerals_by_value are_digits (search rules)

-- one digit or more
pub numeral_parts : (text : List ℕ) → is_numeral text ≡ true → (0 < length text) × are_digits text
numeral_parts text h =
    let outer = and_parts _ _ h in
    (ltb-true 0 (length text) (and_parts _ _ outer.0).0, outer.1)

pub IsUtf8-numeral : (text : List ℕ) → is_numeral text ≡ true → IsUtf8 text
IsUtf8-numeral text h = IsUtf8-from_ascii text (IsAscii-from_digits text (model.to text (numeral_parts text h).1))
