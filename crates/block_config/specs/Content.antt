-- A content as people write it.
use Rattle.std.specs.Prelude.{ℕ, ◌%◌, ◌==◌, ◌&&◌, nat_le, nat_lt, Bool, if◌then◌else◌, List, length, slice_index, take, drop, replicate, Option, None, option_map, option_and_then}
use Rattle.std.specs.List.{list_all}
use Rattle.std.specs.Result.{result_ok}
use Rattle.hex.specs.Hex.{is_hex_digit, decode_of}
use Rattle.nv_base.specs.Decimal.{decimal_number_of}

-- an even number of hexadecimal digits, two for each of 1 to 4,096 bytes
abbrev pub is_plain : List ℕ → Bool
is_plain text = nat_le 2 (length text) && nat_le (length text) 8192 && (length text % 2 == 0) && list_all is_hex_digit text

-- the bytes of pairs of digits
abbrev pub plain_of : List ℕ → Option (List ℕ)
plain_of text = if is_plain text then result_ok (decode_of text) else None

-- a count of 1 to 4,096, in decimal without leading zeros
unfoldable pub count_of : List ℕ → Option ℕ
count_of text = decimal_number_of 1 4096 text

-- two digits and a count: so many bytes of this value
abbrev pub run_of : List ℕ → List ℕ → Option (List ℕ)
run_of pair count = option_and_then (λ bytes. option_map (λ n. replicate n (slice_index bytes 0)) (count_of count)) (plain_of pair)

-- a `*` (42) behind two characters parts a pair of digits from a count
abbrev pub is_parted : List ℕ → Bool
is_parted text = nat_lt 2 (length text) && (slice_index text 2 == 42)

-- the content that a text is
abbrev pub content_of : List ℕ → Option (List ℕ)
content_of text = if is_parted text then run_of (take 2 text) (drop 3 text) else plain_of text
