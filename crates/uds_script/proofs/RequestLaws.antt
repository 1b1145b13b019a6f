-- The requests of lines, one line on.
use Rattle.std.proofs.Common.{◌≡◌, ◌<◌, ◌≤◌, ◌+◌, ◌*◌, ◌%◌, ◌==◌, ◌&&◌, ◌||◌, ℕ, nat_le, true, false, List, ◌∷◌, ◌++◌, length, option_to_list, is_some, Option, Some, None, inl, inr, refl, sym, ap, ◌∙◌, arith}
use Rattle.std.proofs.lemmas.Bool.{cases_Bool, and_parts, eqb-true}
use Rattle.std.proofs.lemmas.Bool.Decides.{nat_tests}
use Rattle.std.proofs.lemmas.List.Sums.{AllPass-from_list_all}
use Rattle.std.specs.List.{list_all}
use Rattle.hex.specs.Hex.{is_hex_digit}
use Rattle.hex.proofs.HexLemmas.{decode_of-digits, decode_of-ok}
use Rattle.nvm_script.specs.Cut.{cut_at}
use Rattle.nvm_script.specs.Line.{without_return}
use Rattle.nvm_script.specs.Script.{lines_of}
use Rattle.nvm_script.proofs.ScriptLaws.{lines_left, lines-cut}
use Rattle.uds_script.specs.Requests.{is_request, request_of, is_idle, requests_in, first_wrong}

-- A LINE

-- each test of a request
request_tests : (line : List ℕ) → is_request line ≡ true → (list_all is_hex_digit line ≡ true) × (2 ≤ length line) × (length line % 2 ≡ 0)
request_tests line is =
    let (most, parity) = and_parts (list_all is_hex_digit line && nat_le 2 (length line) && nat_le (length line) 8198) (length line % 2 == 0) is in
    let (least, few) = and_parts (list_all is_hex_digit line && nat_le 2 (length line)) (nat_le (length line) 8198) most in
    let (digits, two) = and_parts (list_all is_hex_digit line) (nat_le 2 (length line)) least in (digits, grind (arith, nat_tests), eqb-true (length line % 2) 0 parity)

-- the bytes of a request are half as many as its digits
request_has : (line : List ℕ) → is_request line ≡ true → (bytes : List ℕ) × (request_of line ≡ Some bytes) × (length line ≡ 2 * length bytes)
request_has line is =
    let tests = request_tests line is in
    let decoded = decode_of-digits line tests.2 (AllPass-from_list_all is_hex_digit line tests.0) in
    let ok = decode_of-ok line decoded.0 decoded.1 in
    (decoded.0, rw (is, decoded.1) refl, ok.2)

-- so none is empty
pub request_some : (line bytes : List ℕ) → request_of line ≡ Some bytes → 0 < length bytes
request_some line bytes is = elim (cases_Bool (is_request line)) [
  | inl has ↦
      let found = request_has line has in
      let same : found.0 ≡ bytes = some_same (sym found.1 ∙ is) in
      let lengths : length found.0 ≡ length bytes = ap length same in
      let more = (request_tests line has).1 in
      omega (arith, more, found.2, lengths)
  | inr other ↦ let none : None ≡ Some bytes = rw other at is in cc none
]
  where
    some_same : {x y : List ℕ} → Some x ≡ Some y → x ≡ y
    some_same is = cc is

-- ONE LINE ON
head_requests : (r : Option (List ℕ)) (line : List ℕ) (lines : List (List ℕ)) → request_of line ≡ r → requests_in (line ∷ lines) ≡ option_to_list r ++ requests_in lines
head_requests None line lines is = rw is refl
head_requests (Some bytes) line lines is = rw is refl

pub requests_on : (text : List ℕ) → requests_in (lines_of text) ≡ option_to_list (request_of (without_return (cut_at 10 text).0)) ++ requests_in (lines_left (cut_at 10 text).1)
requests_on text = rw lines-cut (head_requests (request_of (without_return (cut_at 10 text).0)) (without_return (cut_at 10 text).0) (lines_left (cut_at 10 text).1) refl)

pub wrong_on : (n : ℕ) (text : List ℕ) → (is_idle (without_return (cut_at 10 text).0) || is_some (request_of (without_return (cut_at 10 text).0))) ≡ true → first_wrong n (lines_of text) ≡ first_wrong (n + 1) (lines_left (cut_at 10 text).1)
wrong_on n text right = rw (lines-cut, right) refl

pub wrong_here : (n : ℕ) (text : List ℕ) → (is_idle (without_return (cut_at 10 text).0) || is_some (request_of (without_return (cut_at 10 text).0))) ≡ false → first_wrong n (lines_of text) ≡ Some n
wrong_here n text wrong = rw (lines-cut, wrong) refl
