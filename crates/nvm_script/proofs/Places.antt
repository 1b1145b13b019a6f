-- The first place of a byte, as a search of many bytes at once finds it.
use Rattle.std.proofs.Common.{◌≡◌, ◌<◌, ◌+◌, ◌==◌, ℕ, zero, suc, Bool, true, false, List, [], ◌∷◌, length, get_or, take, drop, position, Option, Some, None, refl, arith, add-one}
use Rattle.std.proofs.lemmas.Bool.{lt-ltb, le-ltb}
use Rattle.std.proofs.Math.Seq.{take-length, drop-length}
use Rattle.std.specs.List.{position_or_len}
use Rattle.memchr.specs.Find.{IsFirstByte, is_byte}
use Rattle.nvm_script.specs.Cut.{cut_lines}

not_true : (b : Bool) → ¬ (b ≡ true) → b ≡ false
not_true true other = absurd (other refl)
not_true false other = refl

none_place : (at : ℕ) (text : List ℕ) → ((k : ℕ) → k < length text → ¬ (is_byte at (get_or text k 0) ≡ true)) → position_or_len (is_byte at) text ≡ length text
none_place at [] none = refl
none_place at (x ∷ text) none =
    let here : is_byte at x ≡ false = not_true (is_byte at x) (none 0 (omega arith)) in
    rw (here, none_place at text (λ k within. none (suc k) (omega arith))) (omega arith)

first_place : (at : ℕ) (text : List ℕ) (k : ℕ) → k < length text → is_byte at (get_or text k 0) ≡ true → ((j : ℕ) → j < k → ¬ (is_byte at (get_or text j 0) ≡ true)) → position_or_len (is_byte at) text ≡ k
first_place at [] k within is before = absurd (omega arith)
first_place at (x ∷ text) zero within is before = rw is refl
first_place at (x ∷ text) (suc k) within is before =
    let here : is_byte at x ≡ false = not_true (is_byte at x) (before 0 (omega arith)) in
    rw (here, first_place at text k (omega arith) is (λ j below. before (suc j) (omega arith))) (omega arith)

pub first_is_position : (at : ℕ) (text : List ℕ) (r : Option ℕ) → IsFirstByte (is_byte at) text r → r ≡ position (λ b. b == at) text
first_is_position at text None none =
    let past : position_or_len (is_byte at) text ≡ length text = none_place at text (λ k within. none k (omega arith) within) in
    rw (past, le-ltb (length text) (length text) (omega arith)) refl
first_is_position at text (Some k) is =
    let place : position_or_len (is_byte at) text ≡ k = first_place at text k is.0.high is.1 (λ j below. is.0.before j (omega arith) below) in
    rw (place, lt-ltb k (length text) is.0.high) refl

-- THE FIRST LINE
-- up to its newline
line_to : (text : List ℕ) (k : ℕ) → k < length text → is_byte 10 (get_or text k 0) ≡ true → ((j : ℕ) → j < k → ¬ (is_byte 10 (get_or text j 0) ≡ true)) → cut_lines text ≡ take (suc k) text ∷ cut_lines (drop (suc k) text)
line_to [] k within is before = absurd (omega arith)
line_to (x ∷ text) zero within is before = rw is refl
line_to (x ∷ text) (suc k) within is before =
    let here : is_byte 10 x ≡ false = not_true (is_byte 10 x) (before 0 (omega arith)) in
    rw (here, line_to text k (omega arith) is (λ j below. before (suc j) (omega arith))) refl

-- all of a text without one
line_without : (text : List ℕ) → 0 < length text → ((k : ℕ) → k < length text → ¬ (is_byte 10 (get_or text k 0) ≡ true)) → cut_lines text ≡ text ∷ []
line_without [] some none = absurd (omega arith)
line_without (x ∷ []) some none = (let here : is_byte 10 x ≡ false = not_true (is_byte 10 x) (none 0 (omega arith)) in rw here refl)
line_without (x ∷ y ∷ text) some none =
    let here : is_byte 10 x ≡ false = not_true (is_byte 10 x) (none 0 (omega arith)) in
    rw (here, line_without (y ∷ text) (omega arith) (λ k within. none (suc k) (omega arith))) refl

pub line_by_newline : (text : List ℕ) (k : ℕ) → IsFirstByte (is_byte 10) text (Some k) → cut_lines text ≡ take (k + 1) text ∷ cut_lines (drop (k + 1) text)
line_by_newline text k is =
    rw (add-one k) (line_to text k is.0.high is.1 (λ j below. is.0.before j (omega arith) below))

pub line_by_end : (text : List ℕ) → 0 < length text → IsFirstByte (is_byte 10) text None → cut_lines text ≡ take (length text) text ∷ cut_lines (drop (length text) text)
line_by_end text some none =
    rw (take-length text, drop-length text) (line_without text some (λ k within. none k (omega arith) within))
