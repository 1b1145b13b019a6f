-- Pairs of digits that are read one behind the other.
use Rattle.std.proofs.Common.{◌≡◌, ◌≤◌, ◌<◌, ◌+◌, ◌*◌, ◌%◌, ◌⊎◌, ℕ, inl, inr, List, length, slice_index, slice_set, take, drop, max, Option, Some, None, unwrap_or, Ok, Err, true, false, if◌then◌else◌, nat_lt, refl, sym, ap, arith}
use Rattle.std.proofs.lemmas.Bool.{cases_lt}
use Rattle.std.proofs.lemmas.Bool.Decides.{nat_tests}
use Rattle.std.specs.Result.{result_ok}
use Rattle.hex.specs.Hex.{hex_digit_value, digit_or_error, value_at, pair_value, decode_pairs, decode_of, ◌>>=◌}
use Rattle.hex.specs.declared.error.FromHexError.{FromHexError}
use Rattle.hex.specs.declared.error.FromHexError.TheVariants.{InvalidHexCharacter}
use Rattle.hex.proofs.HexLemmas.{decode_of-even}
use Rattle.hex.proofs.Pairs.{prepend, decode_step, decode_err, decode_done, decode_start}

-- ONE PAIR

small : (c v : ℕ) → hex_digit_value c ≡ Some v → v < 16
small c v is = grind (arith)

is_digit : (o : Option ℕ) (v : ℕ) → v ≡ unwrap_or o 16 → v < 16 → o ≡ Some v
is_digit (Some w) v is less = ap Some (sym is)
is_digit None v is less = absurd (omega (arith, is, less))

none_from : (c v : ℕ) (o : Option ℕ) → hex_digit_value c ≡ o → v ≡ unwrap_or o 16 → 16 ≤ v → hex_digit_value c ≡ None
none_from c v (Some w) at is more = absurd (let less = small c w at in omega (arith, less, is, more))
none_from c v None at is more = at

is_pair : (a b i high low : ℕ) → high ≡ unwrap_or (hex_digit_value a) 16 → low ≡ unwrap_or (hex_digit_value b) 16 → high < 16 → low < 16 → pair_value a b i ≡ Ok (high % 16 * 16 + low % 16)
is_pair a b i high low is_high is_low less_high less_low =
    let byte : high % 16 * 16 + low % 16 ≡ high * 16 + low = omega (arith, less_high, less_low) in
    rw (is_digit (hex_digit_value a) high is_high less_high, is_digit (hex_digit_value b) low is_low less_low, byte) refl

low_is_none : (o : Option ℕ) (a b i : ℕ) → hex_digit_value b ≡ None → (e : FromHexError) × ((digit_or_error a i o >>= (λ h. value_at b (i + 1) >>= (λ l. Ok (h * 16 + l)))) ≡ Err e)
low_is_none (Some h) a b i none = (InvalidHexCharacter b (i + 1), rw none refl)
low_is_none None a b i none = (InvalidHexCharacter a i, refl)

no_pair : (a b i high low : ℕ) → high ≡ unwrap_or (hex_digit_value a) 16 → low ≡ unwrap_or (hex_digit_value b) 16 → (16 ≤ high) ⊎ (16 ≤ low) → (e : FromHexError) × (pair_value a b i ≡ Err e)
no_pair a b i high low is_high is_low (inl more) = (InvalidHexCharacter a i, rw (none_from a high (hex_digit_value a) refl is_high more) refl)
no_pair a b i high low is_high is_low (inr more) = low_is_none (hex_digit_value a) a b i (none_from b low (hex_digit_value b) refl is_low more)

-- ALL PAIRS

-- what the first pairs tell of all digits: these bytes so far where each value is a digit's, else that they are refused
pub record AreRead (digits bytes : List ℕ) (greatest i : ℕ) : Type 0 where
  pub so_far : greatest < 16 → decode_pairs 0 digits ≡ prepend (take i bytes) (decode_pairs (2 * i) (drop (2 * i) digits))
  pub refused : 16 ≤ greatest → (e : FromHexError) × (decode_pairs 0 digits ≡ Err e)

pub none_read : (digits bytes : List ℕ) → AreRead digits bytes 0 0
none_read digits bytes = record { so_far = λ less. decode_start digits bytes; refused = λ more. absurd (omega (arith, more)) }

one_of : (greatest high low : ℕ) → 16 ≤ max (max greatest high) low → greatest < 16 → (16 ≤ high) ⊎ (16 ≤ low)
one_of greatest high low more fine = elim (cases_lt high 16) [
  | inl less ↦ inr (omega (arith, more, fine, less))
  | inr is ↦ inl is
]

-- one pair more
pub one_read : (digits bytes : List ℕ) (greatest next i high low : ℕ) → next ≡ max (max greatest high) low → length digits ≡ 2 * length bytes → i < length bytes
    → high ≡ unwrap_or (hex_digit_value (slice_index digits (2 * i))) 16 → low ≡ unwrap_or (hex_digit_value (slice_index digits (2 * i + 1))) 16
    → AreRead digits bytes greatest i → AreRead digits (slice_set bytes i (high % 16 * 16 + low % 16)) next (i + 1)
one_read digits bytes greatest next i high low is twice within is_high is_low before = record {
  so_far = λ less.
      decode_step digits bytes i (high % 16 * 16 + low % 16) (omega (arith, twice, within)) within
      (is_pair (slice_index digits (2 * i)) (slice_index digits (2 * i + 1)) (2 * i) high low is_high is_low (omega (arith, is, less)) (omega (arith, is, less))) (before.so_far (omega (arith, is, less)));
  refused = λ more.
      elim (cases_lt greatest 16) [
        | inl fine ↦
            let wrong = no_pair (slice_index digits (2 * i)) (slice_index digits (2 * i + 1)) (2 * i) high low is_high is_low (one_of greatest high low (omega (arith, is, more)) fine) in
            (wrong.0, decode_err digits bytes i wrong.0 (omega (arith, twice, within)) wrong.1 (before.so_far fine))
        | inr was ↦ before.refused was
      ];
}

-- the bytes that are read of all of them
pub all_read : (digits bytes : List ℕ) (greatest i : ℕ) → length digits ≡ 2 * length bytes → length bytes ≤ i → AreRead digits bytes greatest i
    → result_ok (decode_of digits) ≡ (if nat_lt greatest 16 then Some bytes else None)
all_read digits bytes greatest i twice end are =
    let pairs : decode_of digits ≡ decode_pairs 0 digits = decode_of-even digits (omega (arith, twice)) in
    elim (cases_lt greatest 16) [
      | inl fine ↦
          let test : nat_lt greatest 16 ≡ true = grind (arith, nat_tests) in
          rw (pairs, decode_done digits bytes i end (omega (arith, twice, end)) (are.so_far fine), test) refl
      | inr more ↦
          let wrong = are.refused more in
          let test : nat_lt greatest 16 ≡ false = grind (arith, nat_tests) in
          rw (pairs, wrong.1, test) refl
    ]
