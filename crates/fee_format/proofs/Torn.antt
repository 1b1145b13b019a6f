-- What a torn erase leaves of heads and gates.
use Rattle.std.specs.Prelude.{bit_and, get_or, drop, replicate}
use Rattle.std.specs.Int.{w32, byte_at, to_be_bytes, from_be_bytes}
use Rattle.std.proofs.Common.{◌≡◌, inl, inr, ◌<◌, ◌≤◌, ◌^◌, ℕ, zero, suc, ◌-◌, List, [], ◌∷◌, length, refl, sym, ap, ◌∙◌, subst, arith}
use Rattle.std.proofs.lemmas.Bool.{cases_Bool, false≢true}
use Rattle.std.proofs.lemmas.Nat.{and_assoc, from_be_bytes-to_be_bytes_4}
use Rattle.fls_model.specs.Bytes.{Grown, AreBytes}
use Rattle.fee_format.specs.declared.bank_head.BankHead.{BankHead}
use Rattle.fee_format.specs.BankHead.{IsLegalBankHead, IsBankHead, bank_head_bytes, bank_head_page}
use Rattle.fee_format.specs.Formats.{IsFormat}
use Rattle.fee_format.specs.Pages.{gate_page, same_bytes}
use Rattle.fee_format.specs.Laws.{TornPagesKeepSize, TornHeadsAreSame, TornGatesWereGates, TornHeadsStaySound, BeginsBlank, BlankHeadsAreSound}
use Rattle.fee_format.proofs.Guards.{grown_le, guards_hold}
use Rattle.fee_format.proofs.Tests.{bytes_are}

-- MORE BITS
pub grown_through : (xs ys zs : List ℕ) → Grown xs ys → Grown ys zs → Grown xs zs
grown_through [] [] [] one two = tt
grown_through [] [] (z ∷ zs) one two = absurd two
grown_through [] (y ∷ ys) zs one two = absurd one
grown_through (x ∷ xs) [] zs one two = absurd one
grown_through (x ∷ xs) (y ∷ ys) [] one two = absurd two
grown_through (x ∷ xs) (y ∷ ys) (z ∷ zs) one two =
    let bits : bit_and x z ≡ x = ap (λ (n : ℕ). bit_and n z) (sym one.0) ∙ and_assoc z x y ∙ ap (bit_and x) two.0 ∙ one.0 in
    (bits, λ lt. two.1 (one.1 lt), grown_through xs ys zs one.2 two.2)

pub torn_pages_keep_size : TornPagesKeepSize
torn_pages_keep_size [] [] grown = refl
torn_pages_keep_size [] (y ∷ ys) grown = absurd grown
torn_pages_keep_size (x ∷ xs) [] grown = absurd grown
torn_pages_keep_size (x ∷ xs) (y ∷ ys) grown = ap suc (torn_pages_keep_size xs ys grown.2)

-- both ways there is no change
pub grown_back : (xs ys : List ℕ) → Grown xs ys → Grown ys xs → xs ≡ ys
grown_back [] [] one two = refl
grown_back [] (y ∷ ys) one two = absurd one
grown_back (x ∷ xs) [] one two = absurd one
grown_back (x ∷ xs) (y ∷ ys) one two =
    let here : x ≡ y = omega (arith, grown_le x y one.0, grown_le y x two.0) in
    λ i. here i ∷ grown_back xs ys one.2 two.2 i

-- HEADS
same_32 : (m n : ℕ) → m < 2 ^ 32 → n < 2 ^ 32 → to_be_bytes w32 m ≡ to_be_bytes w32 n → m ≡ n
same_32 m n low high e = sym (from_be_bytes-to_be_bytes_4 m low) ∙ ap (from_be_bytes w32) e ∙ from_be_bytes-to_be_bytes_4 n high

pub byte_small : (k n : ℕ) → byte_at k n < 256
byte_small zero n = omega arith
byte_small (suc k) n = omega arith

pub format_small : (n : ℕ) → IsFormat n → n < 256
format_small n (inl one) = omega (arith, one)
format_small n (inr two) = omega (arith, two)

small_head : (h : BankHead) → IsLegalBankHead h → AreBytes (bank_head_bytes h)
small_head h legal zero = omega arith
small_head h legal (suc zero) = format_small h.format legal.format
small_head h legal (suc (suc zero)) = byte_small 3 h.generation
small_head h legal (suc (suc (suc zero))) = byte_small 2 h.generation
small_head h legal (suc (suc (suc (suc zero)))) = byte_small 1 h.generation
small_head h legal (suc (suc (suc (suc (suc zero))))) = byte_small 0 h.generation
small_head h legal (suc (suc (suc (suc (suc (suc k)))))) = omega arith

same_head : (p : ℕ) (h i : BankHead) → IsLegalBankHead h → IsLegalBankHead i → Grown (bank_head_page p h) (bank_head_page p i) → h ≡ i
same_head p h i one two grown =
    let bytes : bank_head_bytes h ≡ bank_head_bytes i =
    guards_hold (bank_head_bytes h) (bank_head_bytes i) (replicate (p - 12) 255) (replicate (p - 12) 255) (small_head h one) (small_head i two) refl grown in
    let format : h.format ≡ i.format = ap (λ (l : List ℕ). get_or l 1 0) bytes in
    let generation : h.generation ≡ i.generation = same_32 h.generation i.generation one.generation two.generation (ap (drop 2) bytes) in
    λ j. record { format = format j; generation = generation j }

pub torn_heads_are_same : TornHeadsAreSame
torn_heads_are_same p page torn h i head grown head2 =
    let same : h ≡ i = same_head p h i head.legal head2.legal (subst (Grown (bank_head_page p h)) head2.page_is (subst (λ (l : List ℕ). Grown l torn) head.page_is grown)) in
    (head2.page_is ∙ ap (bank_head_page p) (sym same) ∙ sym head.page_is, sym same)

pub torn_heads_stay_sound : TornHeadsStaySound
torn_heads_stay_sound page torn (inl (h, is)) grown = elim (cases_Bool (same_bytes torn page)) [
  | inl t ↦
      let same : torn ≡ page = (bytes_are torn page).0 t in
      inl (h, subst (λ (l : List ℕ). IsBankHead (length l) l h) (sym same) is)
  | inr f ↦ inr (λ later more i also.
      let size : length torn ≡ length page = torn_pages_keep_size page torn grown in
      let at : IsBankHead (length page) later i = subst (λ (n : ℕ). IsBankHead n later i) size also in
      let stays : later ≡ page = (torn_heads_are_same (length page) page later h i is (grown_through page torn later grown more) at).0 in
      let back : torn ≡ page = sym (grown_back page torn grown (subst (Grown torn) stays more)) in
      false≢true (sym f ∙ (bytes_are torn page).1 back))
]
torn_heads_stay_sound page torn (inr none) grown = inr (λ later more. subst (λ (n : ℕ). (h : BankHead) → IsBankHead n later h → ⊥) (sym (torn_pages_keep_size page torn grown)) (none later (grown_through page torn later grown more)))

-- GATES
gate_stood : (p : ℕ) (page : List ℕ) → Grown page (gate_page p) → page ≡ gate_page p
gate_stood zero [] grown = refl
gate_stood zero (x ∷ page) grown = absurd grown
gate_stood (suc p) [] grown = absurd grown
gate_stood (suc p) (x ∷ page) grown =
    let none : x ≡ 0 = omega (arith, grown_le x 0 grown.0) in
    λ i. none i ∷ gate_stood p page grown.2 i

pub torn_gates_were_gates : TornGatesWereGates
torn_gates_were_gates p page torn grown gate = gate_stood p page (subst (Grown page) gate grown)

-- BLANK PAGES
blank_grown : (page torn : List ℕ) → BeginsBlank page → Grown page torn → BeginsBlank torn
blank_grown [] [] blank grown = tt
blank_grown [] (y ∷ torn) blank grown = absurd grown
blank_grown (x ∷ page) [] blank grown = tt
blank_grown (x ∷ page) (y ∷ torn) blank grown = omega (arith, grown_le x y grown.0)

-- a bank head begins with 0x42
pub blank_heads_are_sound : BlankHeadsAreSound
blank_heads_are_sound page blank = inr (λ torn grown h is.
    let none : 255 ≤ 0x42 = subst BeginsBlank is.page_is (blank_grown page torn blank grown) in
    omega arith)
