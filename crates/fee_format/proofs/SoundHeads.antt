-- Pages that may stand before an open gate.
use Rattle.std.specs.Prelude.{◌==◌, ◌&&◌, ◌++◌, not, nat_lt, nat_le, bit_and, get_or, is_some}
use Rattle.std.specs.Int.{w32, to_be_bytes, from_be_bytes}
use Rattle.std.proofs.Common.{◌≡◌, ◌⊎◌, inl, inr, ◌↔◌, ◌<◌, ◌≤◌, ◌^◌, ℕ, zero, suc, ◌-◌, Bool, true, false, IsTrue, List, [], ◌∷◌, length, drop, replicate, Option, Some, None, refl, sym, subst, arith}
use Rattle.std.proofs.lemmas.Bool.{false≢true}
use Rattle.std.proofs.lemmas.Nat.{be_bytes_4}
use Rattle.std.proofs.lemmas.Option.{none-some}
use Rattle.fls_model.specs.Bytes.{Grown}
use Rattle.fls_model.proofs.Within.{and_full}
use Rattle.fee_format.specs.declared.bank_head.BankHead.{BankHead}
use Rattle.fee_format.specs.BankHead.{IsLegalBankHead, IsBankHead, IsNoBankHead, bank_head_bytes, bank_head_page, bank_head_of}
use Rattle.fee_format.specs.Guard.{complements, guarded, AreAs, AreApart}
use Rattle.fee_format.specs.SoundHead.{IsSoundHead, GrowsNoBankHead, IsSomeBankHead, is_part, is_apart, are_bytes, may_grow_as, may_grow, grows_bank_head}
use Rattle.fee_format.specs.Formats.{IsFormat}
use Rattle.fee_format.specs.Laws.{SoundHeadsCompute}
use Rattle.fee_format.proofs.Heads.{bank_heads_compute}
use Rattle.fee_format.proofs.Tests.{both, either, same, lt_is, le_is, eq_is}
use Rattle.fee_format.proofs.Guards.{grown_le, grown_parts, guards_may_grow}
use Rattle.fee_format.proofs.Torn.{byte_small, format_small}

-- BYTES AND COMPLEMENTS
rest_grows : (xs : List ℕ) → IsTrue (are_bytes xs) → Grown xs (replicate (length xs) 255)
rest_grows [] t = tt
rest_grows (x ∷ xs) t =
    let all = (both (nat_lt x 256) (are_bytes xs) (x < 256) (IsTrue (are_bytes xs)) (lt_is x 256) (λ a. a, λ a. a)).0 t in
    (and_full x all.0, λ lt. omega arith, rest_grows xs all.1)

grown_rest : (xs : List ℕ) → Grown xs (replicate (length xs) 255) → IsTrue (are_bytes xs)
grown_rest [] grown = refl
grown_rest (x ∷ xs) grown = (both (nat_lt x 256) (are_bytes xs) (x < 256) (IsTrue (are_bytes xs)) (lt_is x 256) (λ a. a, λ a. a)).1 ((let le = grown_le x 255 grown.0 in let lt : x < 256 = omega arith in lt), grown_rest xs grown.2)

apart_is : (x y : ℕ) → IsTrue (is_apart x y) ↔ (((x < 256) × (y < 256)) × (bit_and x y ≡ 0))
apart_is x y = both (nat_lt x 256 && nat_lt y 256) (bit_and x y == 0) ((x < 256) × (y < 256)) (bit_and x y ≡ 0) (both (nat_lt x 256) (nat_lt y 256) (x < 256) (y < 256) (lt_is x 256) (lt_is y 256)) (eq_is (bit_and x y) 0)

-- HEADS THAT MAY COME
abbrev GrowsTo : List ℕ → Type 0
GrowsTo page = (h : BankHead) × IsLegalBankHead h × Grown page (bank_head_page (length page) h)

-- the magic byte and the format are known, the generation is any
abbrev head_form : ℕ → List (Option ℕ)
head_form v = Some 0x42 ∷ Some v ∷ None ∷ None ∷ None ∷ None ∷ []

four : (a b c d : ℕ) → a < 256 → b < 256 → c < 256 → d < 256 → (i : ℕ) → get_or (a ∷ b ∷ c ∷ d ∷ []) i 0 < 256
four a b c d la lb lc ld zero = la
four a b c d la lb lc ld (suc zero) = lb
four a b c d la lb lc ld (suc (suc zero)) = lc
four a b c d la lb lc ld (suc (suc (suc zero))) = ld
four a b c d la lb lc ld (suc (suc (suc (suc i)))) = omega arith

from_small : (a b c d : ℕ) → a < 256 → b < 256 → c < 256 → d < 256 → from_be_bytes w32 (a ∷ b ∷ c ∷ d ∷ []) < 2 ^ 32
from_small a b c d la lb lc ld = omega arith

-- bytes of that form are a head's
head_of_form : (v : ℕ) (bs : List ℕ) → IsFormat v → AreAs (head_form v) bs → (h : BankHead) × IsLegalBankHead h × (bank_head_bytes h ≡ bs)
head_of_form v (m ∷ f ∷ a ∷ b ∷ c ∷ d ∷ []) is ((magic, sm), ((format, sf), (la, (lb, (lc, (ld, u)))))) =
    let value : ℕ = from_be_bytes w32 (a ∷ b ∷ c ∷ d ∷ []) in
    let bytes : to_be_bytes w32 value ≡ a ∷ b ∷ c ∷ d ∷ [] = be_bytes_4 (a ∷ b ∷ c ∷ d ∷ []) value refl (four a b c d la lb lc ld) refl in
    (record { format = v; generation = value }, record { format = is; generation = from_small a b c d la lb lc ld }, λ i. sym magic i ∷ sym format i ∷ bytes i)
head_of_form v [] is are = absurd are
head_of_form v (_ ∷ []) is are = absurd are.1
head_of_form v (_ ∷ _ ∷ []) is are = absurd are.1.1
head_of_form v (_ ∷ _ ∷ _ ∷ []) is are = absurd are.1.1.1
head_of_form v (_ ∷ _ ∷ _ ∷ _ ∷ []) is are = absurd are.1.1.1.1
head_of_form v (_ ∷ _ ∷ _ ∷ _ ∷ _ ∷ []) is are = absurd are.1.1.1.1.1
head_of_form v (_ ∷ _ ∷ _ ∷ _ ∷ _ ∷ _ ∷ _ ∷ _) is are = absurd are.1.1.1.1.1.1

grown_join : (xs bs rest more : List ℕ) → Grown xs bs → Grown rest more → Grown (xs ++ rest) (bs ++ more)
grown_join [] [] rest more up down = down
grown_join [] (b ∷ bs) rest more up down = absurd up
grown_join (x ∷ xs) [] rest more up down = absurd up
grown_join (x ∷ xs) (b ∷ bs) rest more up down = (up.0, up.1, grown_join xs bs rest more up.2 down)

-- twelve bytes and a rest
module _ (x0 x1 x2 x3 x4 x5 y0 y1 y2 y3 y4 y5 : ℕ) (rest : List ℕ) where
  abbrev page : List ℕ
  page = x0 ∷ x1 ∷ x2 ∷ x3 ∷ x4 ∷ x5 ∷ y0 ∷ y1 ∷ y2 ∷ y3 ∷ y4 ∷ y5 ∷ rest

  long : length page - 12 ≡ length rest
  long = omega arith

  abbrev fronts : List ℕ
  fronts = x0 ∷ x1 ∷ x2 ∷ x3 ∷ x4 ∷ x5 ∷ []

  abbrev backs : List ℕ
  backs = y0 ∷ y1 ∷ y2 ∷ y3 ∷ y4 ∷ y5 ∷ []

  -- of a format
  abbrev MayAs : ℕ → Type 0
  MayAs v = (bit_and x0 0x42 ≡ x0) × ((bit_and x1 v ≡ x1) × (AreApart x2 y2 × (AreApart x3 y3 × (AreApart x4 y4 × (AreApart x5 y5 × ((bit_and y0 0xbd ≡ y0) × (bit_and y1 (255 - v) ≡ y1)))))))

  abbrev May : Type 0
  May = MayAs 1 ⊎ MayAs 2

  abbrev Parts : Type 0
  Parts = May × IsTrue (are_bytes rest)

  may_as_are : (v : ℕ) → IsTrue (may_grow_as v page) ↔ MayAs v
  may_as_are v =
      both (is_part x0 0x42) _ (bit_and x0 0x42 ≡ x0) _ (eq_is (bit_and x0 0x42) x0)
      (both (is_part x1 v) _ (bit_and x1 v ≡ x1) _ (eq_is (bit_and x1 v) x1)
      (both (is_apart x2 y2) _ (AreApart x2 y2) _ (apart_is x2 y2)
      (both (is_apart x3 y3) _ (AreApart x3 y3) _ (apart_is x3 y3)
      (both (is_apart x4 y4) _ (AreApart x4 y4) _ (apart_is x4 y4)
      (both (is_apart x5 y5) _ (AreApart x5 y5) _ (apart_is x5 y5)
      (both (is_part y0 0xbd) (is_part y1 (255 - v)) (bit_and y0 0xbd ≡ y0) (bit_and y1 (255 - v) ≡ y1) (eq_is (bit_and y0 0xbd) y0) (eq_is (bit_and y1 (255 - v)) y1)))))))

  may_are : IsTrue (may_grow page) ↔ May
  may_are = either (may_grow_as 1 page) (may_grow_as 2 page) (MayAs 1) (MayAs 2) (may_as_are 1) (may_as_are 2)

  parts_are : IsTrue (grows_bank_head page) ↔ Parts
  parts_are =
      let all = both (nat_le 12 (length page)) (may_grow page && are_bytes rest) (12 ≤ length page) Parts (le_is 12 (length page)) (both (may_grow page) (are_bytes rest) May (IsTrue (are_bytes rest)) may_are (same (are_bytes rest))) in
      (λ t. (all.0 t).1, λ parts. all.1 ((let le : 12 ≤ length page = omega arith in le), parts))

  grows_as : (v : ℕ) → IsFormat v → MayAs v → IsTrue (are_bytes rest) → GrowsTo page
  grows_as v is (p0, (p1, (a2, (a3, (a4, (a5, (q0, q1))))))) bytes =
      let (bs, are, up, down) = (guards_may_grow (head_form v) fronts backs).0 (((let few : 0x42 < 256 = omega arith in few), p0, q0), ((format_small v is, p1, q1), (a2, (a3, (a4, (a5, tt)))))) in
      let (h, legal, same) = head_of_form v bs is are in
      let tail : Grown rest (replicate (length page - 12) 255) = subst (λ (n : ℕ). Grown rest (replicate n 255)) (sym long) (rest_grows rest bytes) in (
        h,
        legal,
        subst (λ (l : List ℕ). Grown page (guarded l ++ replicate (length page - 12) 255)) (sym same)
            (grown_join (fronts ++ backs) (guarded bs) rest (replicate (length page - 12) 255) (grown_join fronts bs backs (complements bs) up down) tail),
      )

  grows_head : Parts → GrowsTo page
  grows_head (inl may, bytes) = grows_as 1 (inl refl) may bytes
  grows_head (inr may, bytes) = grows_as 2 (inr refl) may bytes

  head_grows_as : (v : ℕ) (h : BankHead) → h.format ≡ v → IsLegalBankHead h → Grown page (bank_head_page (length page) h) → MayAs v × IsTrue (are_bytes rest)
  head_grows_as v h is legal grown =
      let parts = grown_parts (fronts ++ backs) (guarded (bank_head_bytes h)) rest (replicate (length page - 12) 255) refl grown in
      let both_are = grown_parts fronts (bank_head_bytes h) backs (complements (bank_head_bytes h)) refl parts.0 in
      let are : AreAs (head_form v) (bank_head_bytes h) =
      ((refl, omega arith), ((is, format_small h.format legal.format), (byte_small 3 h.generation, (byte_small 2 h.generation, (byte_small 1 h.generation, (byte_small 0 h.generation, tt)))))) in
      let ((s0, p0, q0), ((s1, p1, q1), (a2, (a3, (a4, (a5, u)))))) = (guards_may_grow (head_form v) fronts backs).1 (bank_head_bytes h, are, both_are.0, both_are.1) in
      ((p0, (p1, (a2, (a3, (a4, (a5, (q0, q1))))))), grown_rest rest (subst (λ (n : ℕ). Grown rest (replicate n 255)) long parts.1))

  head_grows : GrowsTo page → Parts
  head_grows (h, legal, grown) = elim legal.format [
    | inl one ↦ let both_are = head_grows_as 1 h one legal grown in (inl both_are.0, both_are.1)
    | inr two ↦ let both_are = head_grows_as 2 h two legal grown in (inr both_are.0, both_are.1)
  ]

grows_is : (page : List ℕ) → IsTrue (grows_bank_head page) ↔ GrowsTo page
grows_is (x0 ∷ x1 ∷ x2 ∷ x3 ∷ x4 ∷ x5 ∷ y0 ∷ y1 ∷ y2 ∷ y3 ∷ y4 ∷ y5 ∷ rest) =
    let parts = parts_are x0 x1 x2 x3 x4 x5 y0 y1 y2 y3 y4 y5 rest in
    (λ t. grows_head x0 x1 x2 x3 x4 x5 y0 y1 y2 y3 y4 y5 rest (parts.0 t), λ g. parts.1 (head_grows x0 x1 x2 x3 x4 x5 y0 y1 y2 y3 y4 y5 rest g))
grows_is [] = (λ t. absurd (false≢true t), λ g. absurd g.2)
grows_is (_ ∷ []) = (λ t. absurd (false≢true t), λ g. absurd g.2.2)
grows_is (_ ∷ _ ∷ []) = (λ t. absurd (false≢true t), λ g. absurd g.2.2.2)
grows_is (_ ∷ _ ∷ _ ∷ []) = (λ t. absurd (false≢true t), λ g. absurd g.2.2.2.2)
grows_is (_ ∷ _ ∷ _ ∷ _ ∷ []) = (λ t. absurd (false≢true t), λ g. absurd g.2.2.2.2.2)
grows_is (_ ∷ _ ∷ _ ∷ _ ∷ _ ∷ []) = (λ t. absurd (false≢true t), λ g. absurd g.2.2.2.2.2.2)
grows_is (_ ∷ _ ∷ _ ∷ _ ∷ _ ∷ _ ∷ []) = (λ t. absurd (false≢true t), λ g. absurd g.2.2.2.2.2.2.2)
grows_is (_ ∷ _ ∷ _ ∷ _ ∷ _ ∷ _ ∷ _ ∷ []) = (λ t. absurd (false≢true t), λ g. absurd g.2.2.2.2.2.2.2.2)
grows_is (_ ∷ _ ∷ _ ∷ _ ∷ _ ∷ _ ∷ _ ∷ _ ∷ []) = (λ t. absurd (false≢true t), λ g. absurd g.2.2.2.2.2.2.2.2.2)
grows_is (_ ∷ _ ∷ _ ∷ _ ∷ _ ∷ _ ∷ _ ∷ _ ∷ _ ∷ []) = (λ t. absurd (false≢true t), λ g. absurd g.2.2.2.2.2.2.2.2.2.2)
grows_is (_ ∷ _ ∷ _ ∷ _ ∷ _ ∷ _ ∷ _ ∷ _ ∷ _ ∷ _ ∷ []) = (λ t. absurd (false≢true t), λ g. absurd g.2.2.2.2.2.2.2.2.2.2.2)
grows_is (_ ∷ _ ∷ _ ∷ _ ∷ _ ∷ _ ∷ _ ∷ _ ∷ _ ∷ _ ∷ _ ∷ []) = (λ t. absurd (false≢true t), λ g. absurd g.2.2.2.2.2.2.2.2.2.2.2.2)

-- SOUND HEADS
some_head : (bytes : List ℕ) (found : Option BankHead) → ((h : BankHead) → IsBankHead (length bytes) bytes h ↔ (found ≡ Some h)) → IsTrue (is_some found) ↔ IsSomeBankHead bytes
some_head bytes (Some h) is = (λ t. (h, (is h).1 refl), λ some. refl)
some_head bytes None is = (λ t. absurd (false≢true t), λ (h, head). absurd (none-some h ((is h).0 head)))

not_pick : (b : Bool) (page : List ℕ) → IsTrue b ↔ GrowsTo page → IsTrue (not b) ↔ GrowsNoBankHead page
not_pick true page is = (λ t. absurd (false≢true t), λ none. let g = is.0 refl in absurd (none (bank_head_page (length page) g.0) g.2 g.0 (record { legal = g.1; page_is = refl })))
not_pick false page is = (λ t torn grown h head. false≢true (is.1 (h, head.legal, subst (Grown page) head.page_is grown)), λ none. refl)

pub sound_heads_compute : SoundHeadsCompute
sound_heads_compute page =
    either (is_some (bank_head_of (length page) page)) (not (grows_bank_head page)) (IsSomeBankHead page) (GrowsNoBankHead page)
    (some_head page (bank_head_of (length page) page) (bank_heads_compute (length page) page)) (not_pick (grows_bank_head page) page (grows_is page))

-- for a page that is no bank head
pub sound_without : (page : List ℕ) (b : Bool) → IsNoBankHead (length page) page → b ≡ grows_bank_head page → IsTrue (not b) ↔ IsSoundHead page
sound_without page b none is =
    let all = not_pick b page (subst (λ (x : Bool). IsTrue x ↔ GrowsTo page) (sym is) (grows_is page)) in
    (λ t. inr (all.0 t), λ sound. elim sound [ inl (h, head) ↦ absurd (none h head) | inr grows ↦ all.1 grows ])

-- bytes of eight bits
rest_bytes : (n : ℕ) (xs : List ℕ) → ((i : ℕ) → get_or xs i 0 < 256) → IsTrue (are_bytes (drop n xs))
rest_bytes zero [] all = refl
rest_bytes zero (x ∷ xs) all = (both (nat_lt x 256) (are_bytes xs) (x < 256) (IsTrue (are_bytes xs)) (lt_is x 256) (same (are_bytes xs))).1 (all 0, rest_bytes zero xs (λ i. all (suc i)))
rest_bytes (suc n) [] all = refl
rest_bytes (suc n) (x ∷ xs) all = rest_bytes n xs (λ i. all (suc i))

pick : (a b c : Bool) → IsTrue a → IsTrue c → b ≡ (a && (b && c))
pick true true true t u = refl
pick true false true t u = refl
pick true b false t u = absurd (false≢true u)
pick false b c t u = absurd (false≢true t)

pub grows_if_may : (bytes : List ℕ) → 12 ≤ length bytes → ((i : ℕ) → get_or bytes i 0 < 256) → may_grow bytes ≡ grows_bank_head bytes
grows_if_may bytes long all = pick (nat_le 12 (length bytes)) (may_grow bytes) (are_bytes (drop 12 bytes)) ((le_is 12 (length bytes)).1 long) (rest_bytes 12 bytes all)
