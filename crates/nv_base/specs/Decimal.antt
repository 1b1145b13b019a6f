-- Decimal numbers without sign and without leading zeros.
use Rattle.std.specs.Prelude.{ℕ, ◌==◌, Bool, not, ◌&&◌, ◌||◌, nat_lt, nat_le, List, length, slice_index, Option, Some, None, if◌then◌else◌}
use Rattle.std.specs.Char.{is_ascii_digit}
use Rattle.std.specs.List.{list_all}
use Rattle.std.specs.Str.Parse.{digits_value}

-- the digits of a number, without leading zeros
abbrev pub is_numeral : List ℕ → Bool
is_numeral text = nat_lt 0 (length text) && (not (slice_index text 0 == 48) || length text == 1) && list_all is_ascii_digit text

-- the number within these bounds that the text spells
unfoldable pub decimal_number_of : ℕ → ℕ → List ℕ → Option ℕ
decimal_number_of low high text =
    if is_numeral text then (if nat_le low (digits_value 10 text) && nat_le (digits_value 10 text) high then Some (digits_value 10 text) else None)
    else None
