-- Parts that are added one behind the other.
use Rattle.std.proofs.Common.{◌≡◌, ◌<◌, ◌+◌, ◌/◌, ◌%◌, ℕ, true, List, [], ◌∷◌, ◌++◌, Some, length, slice_get, slice_index, take, drop, subst, take-append-drop, append_assoc, refl, sym, ap, ◌∙◌, map-id, arith}
use Rattle.std.proofs.lemmas.List.{append-nil, take_more}
use Rattle.std.proofs.Math.Seq.{take-add}
use Rattle.std.proofs.lemmas.List.Concat.{flat_map-append}
use Rattle.std.proofs.lemmas.List.FromFn.{map-range_with_len_more}
use Rattle.std.proofs.lemmas.Option.{slice_get_within, get_or_from_slice_get}
use Rattle.std.specs.List.{flat_map, range_with_len}
use Rattle.hex.specs.Hex.{encode_with, encode_lower, lower_digits}
use Rattle.nvm_script.specs.Text.{Adds}
use Rattle.nvm_script.specs.declared.text.Text.{Text}

pub adds_then : {a b : List ℕ} {x y z : Text} → Adds a x y → Adds b y z → Adds (a ++ b) x z
adds_then {a} {b} {x} {y} {z} first second = record {
  whole = λ w. first.whole (second.whole w);
  bytes = λ w. rw (second.bytes w, first.bytes (second.whole w)) (append_assoc (x.written.items) a b);
}

pub adds_nothing : {x : Text} → Adds [] x x
adds_nothing {x} = record { whole = λ w. w; bytes = λ w. rw (append-nil (x.written.items)) refl }

pub written : {part : List ℕ} {x y : Text} → Adds part x y → x.written.items ≡ [] → y.whole ≡ true → y.written.items ≡ part
written {part} {x} {y} adds empty whole = rw (adds.bytes whole, empty) refl

-- the parts of one item more
pub adds_next : {X : Type 0} {x y z : Text} (f : X → List ℕ) (items : List X) (i : ℕ) (item : X) → slice_get items i ≡ Some item → Adds (flat_map f (take i items)) x y → Adds (f item) y z → Adds (flat_map f (take (i + 1) items)) x z
adds_next {X} {x} {y} {z} f items i item at_i first second =
    rw (take_more items i item (slice_get_within items i item at_i), get_or_from_slice_get items i item item at_i, flat_map-append f (take i items) (item ∷ []), append-nil (f item)) (adds_then first second)

range_more : (n : ℕ) → range_with_len 0 (n + 1) ≡ range_with_len 0 n ++ n ∷ []
range_more n =
    sym (map-id (range_with_len 0 (n + 1))) ∙ map-range_with_len_more (λ k. k) 0 n n (omega arith) ∙ ap (λ (l : List ℕ). l ++ n ∷ []) (map-id (range_with_len 0 n))

-- the parts of one number more
pub adds_line : {x y z : Text} (f : ℕ → List ℕ) (n : ℕ) → Adds (flat_map f (range_with_len 0 n)) x y → Adds (f n) y z → Adds (flat_map f (range_with_len 0 (n + 1))) x z
adds_line {x} {y} {z} f n first second =
    rw (range_more n, flat_map-append f (range_with_len 0 n) (n ∷ []), append-nil (f n)) (adds_then first second)

encode_with-append : (t xs ys : List ℕ) → encode_with t (xs ++ ys) ≡ encode_with t xs ++ encode_with t ys
unfolding encode_with
encode_with-append t [] ys = refl
encode_with-append t (b ∷ xs) ys = ap (λ (l : List ℕ). slice_index t (b / 16) ∷ slice_index t (b % 16) ∷ l) (encode_with-append t xs ys)

-- no digits yet
pub adds_no_digits : {x : Text} → Adds (encode_lower []) x x
unfolding encode_with
adds_no_digits {x} = adds_nothing

-- the digits of one byte more
pub adds_digits : {x y z : Text} (bytes : List ℕ) (i : ℕ) → i < length bytes → Adds (encode_lower (take i bytes)) x y → Adds (encode_lower (slice_index bytes i ∷ [])) y z → Adds (encode_lower (take (i + 1) bytes)) x z
adds_digits {x} {y} {z} bytes i within first second =
    rw (take_more bytes i 0 within, encode_with-append lower_digits (take i bytes) (slice_index bytes i ∷ [])) (adds_then first second)

-- those of some bytes more
pub adds_more : {x y z : Text} (bytes : List ℕ) (i n : ℕ) → Adds (encode_lower (take i bytes)) x y → Adds (encode_lower (take n (drop i bytes))) y z → Adds (encode_lower (take (i + n) bytes)) x z
adds_more {x} {y} {z} bytes i n first second =
    rw (take-add i n bytes, encode_with-append lower_digits (take i bytes) (take n (drop i bytes))) (adds_then first second)

-- and of the rest
pub adds_rest : {x y z : Text} (bytes : List ℕ) (i : ℕ) → Adds (encode_lower (take i bytes)) x y → Adds (encode_lower (drop i bytes)) y z → Adds (encode_lower bytes) x z
adds_rest {x} {y} {z} bytes i first second =
    subst (λ (all : List ℕ). Adds (encode_lower all) x z) (take-append-drop i bytes)
    (rw (encode_with-append lower_digits (take i bytes) (drop i bytes)) (adds_then first second))

-- adding parts
pub ruleset parts = (adds_then, adds_nothing)
