-- The lengths of contents.
use Rattle.std.proofs.Common.{◌≡◌, ◌≤◌, ℕ, false, None, [], nat_le, Result, Ok, Err, unwrap_or, ◌*◌, ◌/◌, ◌%◌, ◌&&◌, ◌==◌, Bool, true, List, length, take, drop, replicate, Option, Some, option_map, refl, ap, sym, arith, slice_index}
use Rattle.std.proofs.lemmas.List.{length-replicate}
use Rattle.std.proofs.lemmas.List.Sums.{AllPass-from_list_all, list_all-from_AllPass}
use Rattle.std.proofs.lemmas.Bool.Decides.{nat_tests}
use Rattle.std.specs.List.{list_all}
use Rattle.std.specs.Result.{result_ok}
use Rattle.hex.specs.Hex.{is_hex_digit, decode_of}
use Rattle.hex.specs.declared.error.FromHexError.{FromHexError}
use Rattle.hex.proofs.HexLemmas.{decode_of-digits, decode_of-ok}
use Rattle.block_config.specs.Content.{is_plain, plain_of, count_of, is_parted, content_of}

first_of_both : (a b : Bool) → (a && b) ≡ true → a ≡ true
first_of_both true b h = refl
first_of_both false b h = cc h

second_of_both : (a b : Bool) → (a && b) ≡ true → b ≡ true
second_of_both true b h = h
second_of_both false b h = cc h

-- plain digits are a content of half their number
pub plain_of-is_plain : (text : List ℕ) → is_plain text ≡ true → (bytes : List ℕ) × (plain_of text ≡ Some bytes) × (length text ≡ 2 * length bytes)
plain_of-is_plain text is =
    let digits = second_of_both _ (list_all is_hex_digit text) is in
    let whole = second_of_both _ (length text % 2 == 0) (first_of_both _ (list_all is_hex_digit text) is) in
    let even : length text % 2 ≡ 0 = grind (arith, nat_tests) in
    let decoded = decode_of-digits text even (AllPass-from_list_all is_hex_digit text digits) in
    let ok = decode_of-ok text decoded.0 decoded.1 in
    (decoded.0, rw (is, decoded.1) refl, ok.2)

four_hold : (a b c d : Bool) → a ≡ true → b ≡ true → c ≡ true → d ≡ true → (a && b && c && d) ≡ true
four_hold true true true true ea eb ec ed = refl
four_hold false b c d ea eb ec ed = cc
four_hold true false c d ea eb ec ed = cc
four_hold true true false d ea eb ec ed = cc
four_hold true true true false ea eb ec ed = cc

ok_of : (r : Result (List ℕ) FromHexError) (bytes : List ℕ) → result_ok r ≡ Some bytes → r ≡ Ok bytes
ok_of (Ok found) bytes is = ap Ok (ap (λ (o : Option (List ℕ)). unwrap_or o []) is)
ok_of (Err e) bytes is = cc is

-- what is decoded is a plain content, where it has as many digits as one may have
pub plain_of-decoded : (text bytes : List ℕ) → 2 ≤ length text → length text ≤ 8192 → result_ok (decode_of text) ≡ Some bytes → plain_of text ≡ Some bytes
plain_of-decoded text bytes some few is =
    let ok = decode_of-ok text bytes (ok_of (decode_of text) bytes is) in
    let low : nat_le 2 (length text) ≡ true = grind (arith, nat_tests) in
    let high : nat_le (length text) 8192 ≡ true = grind (arith, nat_tests) in
    let even : (length text % 2 == 0) ≡ true = grind (arith, nat_tests) in
    let plain : is_plain text ≡ true = four_hold _ _ _ _ low high even (list_all-from_AllPass is_hex_digit text ok.1) in
    rw (plain, is) refl

of_count : (o : Option ℕ) (b : ℕ) → o ≡ option_map (λ bytes. length bytes) (option_map (λ n. replicate n b) o)
of_count None b = refl
of_count (Some n) b = ap Some (sym (length-replicate n b))

pub length-content_of-plain : (text : List ℕ) → is_parted text ≡ false → is_plain text ≡ true → Some (length text / 2) ≡ option_map (λ bytes. length bytes) (content_of text)
length-content_of-plain text whole is =
    let plain = plain_of-is_plain text is in
    let half : length text / 2 ≡ length plain.0 = omega (arith, plain.2) in
    rw (whole, plain.1, half) refl

pub length-content_of-run : (text : List ℕ) → is_parted text ≡ true → is_plain (take 2 text) ≡ true → count_of (drop 3 text) ≡ option_map (λ bytes. length bytes) (content_of text)
length-content_of-run text parted is =
    let plain = plain_of-is_plain (take 2 text) is in
    rw (parted, plain.1) (of_count (count_of (drop 3 text)) (slice_index plain.0 0))
