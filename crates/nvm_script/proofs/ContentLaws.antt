-- The text of a content tells the content.
use Rattle.std.proofs.Common.{◌≡◌, ◌<◌, ◌/◌, ◌%◌, ◌==◌, ℕ, zero, suc, Bool, true, false, ◌&&◌, ◌||◌, nat_le, if◌then◌else◌, List, [], ◌∷◌, ◌++◌, length, slice_index, replicate, refl, ap, ◌∙◌, arith}
use Rattle.std.proofs.lemmas.Bool.{and_parts, eqb-true}
use Rattle.std.proofs.lemmas.Fmt.{decimal_nonempty, digits_decimal, digits_value-decimal}
use Rattle.std.proofs.lemmas.List.Sums.{AllPass-from_list_all}
use Rattle.std.specs.Char.{is_ascii_digit}
use Rattle.std.specs.Fmt.{decimal}
use Rattle.std.specs.List.{list_all}
use Rattle.std.specs.Option.{unwrap_or}
use Rattle.std.specs.Result.{result_ok}
use Rattle.std.specs.Str.Parse.{digits_value}
use Rattle.hex.specs.Hex.{lower_digits, encode_with, encode_lower, decode_of, IsBytes}
use Rattle.hex.proofs.HexLemmas.{decode_of-encode_lower}
use Rattle.nvm_script.specs.Values.{IsContent}
use Rattle.nvm_script.specs.Words.{is_long_run, content_text}
use Rattle.nvm_script.proofs.Cuts.{Lacks}
use Rattle.nvm_script.proofs.Fields.{before, behind, before-field, behind-field, before-lacks, behind-lacks, lacks-all}
use Rattle.nvm_script.proofs.Numerals.{model}

-- the bytes of a content's text
abbrev pub is_digit_byte : ℕ → Bool
is_digit_byte b = is_ascii_digit b || (nat_le 97 b && nat_le b 102)

abbrev pub is_content_byte : ℕ → Bool
is_content_byte b = is_digit_byte b || (b == 42)

or_left : (a b : Bool) → a ≡ true → (a || b) ≡ true
or_left true b h = refl
or_left false b h = cc

both : (a b : Bool) → a ≡ true → b ≡ true → (a && b) ≡ true
both a b x y = rw (x, y) refl

all_more : (p q : ℕ → Bool) (l : List ℕ) → ((x : ℕ) → p x ≡ true → q x ≡ true) → list_all p l ≡ true → list_all q l ≡ true
all_more p q [] more all = refl
all_more p q (x ∷ l) more all =
    let parts = and_parts (p x) (list_all p l) all in
    both (q x) (list_all q l) (more x parts.0) (all_more p q l more parts.1)

all-append : (p : ℕ → Bool) (a b : List ℕ) → list_all p a ≡ true → list_all p b ≡ true → list_all p (a ++ b) ≡ true
all-append p [] b x y = y
all-append p (c ∷ a) b x y =
    let parts = and_parts (p c) (list_all p a) x in
    both (p c) (list_all p (a ++ b)) parts.0 (all-append p a b parts.1 y)

table_digit : (k : ℕ) → k < 16 → is_digit_byte (slice_index lower_digits k) ≡ true
table_digit k small = AllPass-from_list_all is_digit_byte lower_digits refl k 0 small

IsBytes-rest : (b : ℕ) (bytes : List ℕ) → IsBytes (b ∷ bytes) → IsBytes bytes
IsBytes-rest b bytes h = λ i. h (suc i)

IsBytes-one : (b : ℕ) → b < 256 → IsBytes (b ∷ [])
IsBytes-one b small zero = small
IsBytes-one b small (suc i) = omega arith

digits-encode : (bytes : List ℕ) → IsBytes bytes → list_all is_digit_byte (encode_lower bytes) ≡ true
unfolding encode_with
digits-encode [] h = refl
digits-encode (b ∷ bytes) h =
    let small : b < 256 = h 0 in
    both (is_digit_byte (slice_index lower_digits (b / 16))) (is_digit_byte (slice_index lower_digits (b % 16)) && list_all is_digit_byte (encode_lower bytes)) (table_digit (b / 16) (omega arith))
    (both (is_digit_byte (slice_index lower_digits (b % 16))) (list_all is_digit_byte (encode_lower bytes)) (table_digit (b % 16) (omega arith)) (digits-encode bytes (IsBytes-rest b bytes h)))

encode-lacks : (bytes : List ℕ) → IsBytes bytes → Lacks 42 (encode_lower bytes)
encode-lacks bytes h = lacks-all is_digit_byte 42 (encode_lower bytes) refl (digits-encode bytes h)

by_run_bytes : (bytes : List ℕ) (b : Bool) → IsContent bytes → list_all is_content_byte (if b then encode_lower (slice_index bytes 0 ∷ []) ++ 42 ∷ decimal (length bytes) else encode_lower bytes) ≡ true
by_run_bytes bytes true is =
    all-append is_content_byte (encode_lower (slice_index bytes 0 ∷ [])) (42 ∷ decimal (length bytes))
    (all_more is_digit_byte is_content_byte (encode_lower (slice_index bytes 0 ∷ [])) (λ x h. or_left (is_digit_byte x) (x == 42) h) (digits-encode (slice_index bytes 0 ∷ []) (IsBytes-one (slice_index bytes 0) (is.bytes_small 0))))
    (all_more is_ascii_digit is_content_byte (decimal (length bytes)) (λ x h. or_left (is_digit_byte x) (x == 42) (or_left (is_ascii_digit x) (nat_le 97 x && nat_le x 102) h)) (digits_decimal model (length bytes) is.length_small))
by_run_bytes bytes false is = all_more is_digit_byte is_content_byte (encode_lower bytes) (λ x h. or_left (is_digit_byte x) (x == 42) h) (digits-encode bytes is.bytes_small)

-- a content's text has these bytes alone
pub content_bytes : (bytes : List ℕ) → IsContent bytes → list_all is_content_byte (content_text bytes) ≡ true
content_bytes bytes is = by_run_bytes bytes (is_long_run bytes) is

pub content-lacks : (at : ℕ) (bytes : List ℕ) → is_content_byte at ≡ false → IsContent bytes → Lacks at (content_text bytes)
content-lacks at bytes other is = lacks-all is_content_byte at (content_text bytes) other (content_bytes bytes is)

-- the content that a text tells
abbrev bytes_from : List ℕ → List ℕ
bytes_from text = unwrap_or (result_ok (decode_of text)) []

abbrev of_parts : List ℕ → List ℕ → List ℕ
of_parts bytes [] = bytes
of_parts bytes (d ∷ ds) = replicate (digits_value 10 (d ∷ ds)) (slice_index bytes 0)

pub content_from : List ℕ → List ℕ
content_from text = of_parts (bytes_from (before 42 text)) (behind 42 text)

bytes_from-encode : (bytes : List ℕ) → IsBytes bytes → bytes_from (encode_lower bytes) ≡ bytes
bytes_from-encode bytes h = rw (decode_of-encode_lower bytes h) refl

of_parts-run : (bytes ds : List ℕ) → 0 < length ds → of_parts bytes ds ≡ replicate (digits_value 10 ds) (slice_index bytes 0)
of_parts-run bytes [] some = absurd (omega arith)
of_parts-run bytes (d ∷ ds) some = refl

replicate-all : (x : ℕ) (bytes : List ℕ) → list_all (λ b. b == x) bytes ≡ true → replicate (length bytes) x ≡ bytes
replicate-all x [] all = refl
replicate-all x (b ∷ bytes) all =
    let parts = and_parts (b == x) (list_all (λ b. b == x) bytes) all in
    let head : b ≡ x = eqb-true b x parts.0 in
    let tail = replicate-all x bytes parts.1 in
    cc

by_run : (bytes : List ℕ) (b : Bool) → is_long_run bytes ≡ b → IsContent bytes → content_from (if b then encode_lower (slice_index bytes 0 ∷ []) ++ 42 ∷ decimal (length bytes) else encode_lower bytes) ≡ bytes
unfolding content_from
by_run bytes true run is =
    let one = IsBytes-one (slice_index bytes 0) (is.bytes_small 0) in
    let lacks = encode-lacks (slice_index bytes 0 ∷ []) one in
    let equal = (and_parts _ (list_all (λ b. b == slice_index bytes 0) bytes) run).1 in
    rw (before-field 42 (encode_lower (slice_index bytes 0 ∷ [])) (decimal (length bytes)) lacks, behind-field 42 (encode_lower (slice_index bytes 0 ∷ [])) (decimal (length bytes)) lacks, bytes_from-encode (slice_index bytes 0 ∷ []) one)
    (of_parts-run (slice_index bytes 0 ∷ []) (decimal (length bytes)) (decimal_nonempty (length bytes) is.length_small) ∙ ap (λ (n : ℕ). replicate n (slice_index bytes 0)) (digits_value-decimal model (length bytes) is.length_small) ∙ replicate-all (slice_index bytes 0) bytes equal)
by_run bytes false run is =
    let lacks = encode-lacks bytes is.bytes_small in
    rw (before-lacks 42 (encode_lower bytes) lacks, behind-lacks 42 (encode_lower bytes) lacks) (bytes_from-encode bytes is.bytes_small)

pub content_from-text : (bytes : List ℕ) → IsContent bytes → content_from (content_text bytes) ≡ bytes
content_from-text bytes is = by_run bytes (is_long_run bytes) refl is
