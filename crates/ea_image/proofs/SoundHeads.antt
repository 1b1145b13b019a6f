-- Pages that may stand before an open gate.
use Rattle.std.specs.Prelude.{◌==◌, ◌&&◌, ◌||◌, ◌++◌, not, replicate, ◌-◌, get_or, bit_and, is_some}
use Rattle.std.specs.Int.{w16, w32, byte_at, from_be_bytes, bytes_high_first}
use Rattle.std.specs.Int.Bits.{and_self}
use Rattle.std.proofs.Common.{◌≡◌, ◌⊎◌, inl, inr, ◌<◌, ◌≤◌, ◌^◌, ◌+◌, ◌*◌, ℕ, zero, suc, Bool, true, false, IsTrue, List, [], ◌∷◌, Option, Some, None, length, refl, sym, ap, ◌∙◌, subst, arith}
use Rattle.std.proofs.lemmas.Bool.{false≢true}
use Rattle.std.proofs.lemmas.Nat.{and_le_r, and_comm, and_assoc, and-not, be_bytes_2, be_bytes_4}
use Rattle.fls_model.specs.Bytes.{Grown}
use Rattle.fee_format.specs.declared.rec_head.RecordKind.{RecordKind}
use Rattle.fee_format.specs.declared.rec_head.RecordKind.TheVariants.{Content, Invalid, Erased}
use Rattle.fee_format.specs.RecHead.{kind_byte}
use Rattle.fee_format.specs.Guard.{guarded}
use Rattle.fee_format.proofs.Guards.{grown_le}
use Rattle.fee_format.proofs.Tests.{both, eq_is}
use Rattle.ea_image.specs.declared.slot_head.SlotHead.{SlotHead}
use Rattle.ea_image.specs.SlotHead.{IsLegalSlotHead, IsSlotHead, slot_head_page, slot_head_of, is_grown, greatest_head, grows_as, grows_slot_head, GrowsNoSlotHead}
use Rattle.ea_image.specs.Laws.{SoundSlotHeadsCompute}
use Rattle.ea_image.proofs.Heads.{legal_is, slot_heads_compute}

-- MORE BITS, TESTED
grown_is : (xs ys : List ℕ) → Grown xs ys → IsTrue (is_grown xs ys)
grown_is [] [] grown = refl
grown_is [] (y ∷ ys) grown = absurd grown
grown_is (x ∷ xs) [] grown = absurd grown
grown_is (x ∷ xs) (y ∷ ys) grown = (both (bit_and x y == x) (is_grown xs ys) (bit_and x y ≡ x) (IsTrue (is_grown xs ys)) (eq_is (bit_and x y) x) ((λ t. t), (λ t. t))).1 (grown.0, grown_is xs ys grown.2)

-- numbers of eight bits, one by one
abbrev pub AllSmall : List ℕ → Type 0
AllSmall [] = Unit {0}
AllSmall (x ∷ xs) = (x < 256) × AllSmall xs

is_grown_of : (xs ys : List ℕ) → AllSmall ys → IsTrue (is_grown xs ys) → Grown xs ys
is_grown_of [] [] small t = tt
is_grown_of [] (y ∷ ys) small t = absurd (false≢true t)
is_grown_of (x ∷ xs) [] small t = absurd (false≢true t)
is_grown_of (x ∷ xs) (y ∷ ys) small t =
    let b = (both (bit_and x y == x) (is_grown xs ys) (bit_and x y ≡ x) (IsTrue (is_grown xs ys)) (eq_is (bit_and x y) x) ((λ t. t), (λ t. t))).0 t in
    (b.0, (λ lt. small.0), is_grown_of xs ys small.1 b.1)

blanks_small : (n : ℕ) → AllSmall (replicate n 255)
blanks_small zero = tt
blanks_small (suc n) = (omega arith, blanks_small n)

byte_small : (k n : ℕ) → byte_at k n < 256
byte_small zero n = omega arith
byte_small (suc k) n = omega arith

kind_small : (k : RecordKind) → kind_byte k < 256
kind_small Content = omega arith
kind_small Invalid = omega arith
kind_small Erased = omega arith

pub page_small : (p : ℕ) (h : SlotHead) → AllSmall (slot_head_page p h)
page_small p h = (omega arith, (kind_small h.kind, (byte_small 1 h.length, (byte_small 0 h.length, (byte_small 3 h.sequence, (byte_small 2 h.sequence, (byte_small 1 h.sequence, (byte_small 0 h.sequence, (omega arith, (omega arith, (omega arith, (omega arith, (omega arith, (omega arith, (omega arith, (omega arith, blanks_small (p - 16)))))))))))))))))

-- WHERE A TEST HOLDS A HEAD COMES TO BE
and_parts : (a b : Bool) → IsTrue (a && b) → IsTrue a × IsTrue b
and_parts true b t = (refl, t)
and_parts false b t = absurd (false≢true t)

and_is : (a b : Bool) → IsTrue a → IsTrue b → IsTrue (a && b)
and_is true b t u = u
and_is false b t u = absurd (false≢true t)

or_parts : (a b : Bool) → IsTrue (a || b) → IsTrue a ⊎ IsTrue b
or_parts true b t = inl refl
or_parts false b t = inr t

or_is : (a b : Bool) → IsTrue a ⊎ IsTrue b → IsTrue (a || b)
or_is true b e = refl
or_is false b (inl t) = absurd (false≢true t)
or_is false b (inr t) = t

not_is : (b : Bool) → (IsTrue b → ⊥) → IsTrue (not b)
not_is true none = absurd (none refl)
not_is false none = refl

is_not : (b : Bool) → IsTrue (not b) → IsTrue b → ⊥
is_not true t u = false≢true t
is_not false t u = false≢true u

grows_head : (kind : RecordKind) (page : List ℕ) → IsTrue (grows_as kind page) → GrowsNoSlotHead page → ⊥
grows_head kind page t none =
    let m = greatest_head kind page in
    let P = slot_head_page (length page) m in
    let parts = and_parts _ _ t in
    none P (is_grown_of page P (page_small (length page) m) parts.1) m (record { legal = (legal_is m).0 parts.0; page_is = refl })

-- WHERE A HEAD COMES TO BE THE TEST HOLDS
-- two bytes of which more bits make a byte and its complement: more bits of the first one make the complement of the other
greatest_byte : (x y v : ℕ) → v < 256 → bit_and x v ≡ x → bit_and y (255 - v) ≡ y → (bit_and x (255 - y) ≡ x) × (x < 256) × (y < 256) × (v ≤ 255 - y)
greatest_byte x y v small up down =
    let lx : x < 256 = omega (arith, grown_le x v up, small) in
    let le : y ≤ 255 - v = grown_le y (255 - v) down in
    let ly : y < 256 = omega (arith, le) in
    let e = and-not 8 v y small ly in
    let turn : bit_and (255 - v) y ≡ y = and_comm (255 - v) y ∙ down in
    let none : bit_and v y ≡ 0 = omega (arith, e, turn) in
    let all : bit_and x y ≡ bit_and x (bit_and v y) = ap (λ (n : ℕ). bit_and n y) (sym up) ∙ and_assoc y x v in
    let apart : bit_and x y ≡ 0 = all ∙ ap (bit_and x) none ∙ (let z : bit_and x 0 ≡ 0 = omega (arith, and_le_r x 0) in z) in
    let f = and-not 8 y x ly lx in
    let apart' : bit_and y x ≡ 0 = and_comm y x ∙ apart in
    let keeps : bit_and (255 - y) x ≡ x = omega (arith, f, apart') in
    (and_comm x (255 - y) ∙ keeps, lx, ly, omega (arith, le))

-- behind a byte and its complement's
self_byte : (y : ℕ) → y < 256 → bit_and y (255 - (255 - y)) ≡ y
self_byte y small = ap (bit_and y) (let e : 255 - (255 - y) ≡ y = omega arith in e) ∙ and_self y

-- the bytes of a head by its parts
abbrev head_from : (p kind : ℕ) → List ℕ → List ℕ → List ℕ
head_from p kind two four = guarded (0x45 ∷ kind ∷ (two ++ four)) ++ replicate (p - 16) 255

-- what more bits make a head of makes a greater one
module _ (p kind length sequence : ℕ) (x0 x1 x2 x3 x4 x5 x6 x7 x8 x9 x10 x11 x12 x13 x14 x15 : ℕ) (rest : List ℕ) (g : Grown (x0 ∷ x1 ∷ x2 ∷ x3 ∷ x4 ∷ x5 ∷ x6 ∷ x7 ∷ x8 ∷ x9 ∷ x10 ∷ x11 ∷ x12 ∷ x13 ∷ x14 ∷ x15 ∷ rest) (head_from p kind (bytes_high_first 2 length) (bytes_high_first 4 sequence))) where
  abbrev four : List ℕ
  four = (255 - x12) ∷ (255 - x13) ∷ (255 - x14) ∷ (255 - x15) ∷ []

  abbrev two : List ℕ
  two = (255 - x10) ∷ (255 - x11) ∷ []

  pub grown_sequence : Grown (x0 ∷ x1 ∷ x2 ∷ x3 ∷ x4 ∷ x5 ∷ x6 ∷ x7 ∷ x8 ∷ x9 ∷ x10 ∷ x11 ∷ x12 ∷ x13 ∷ x14 ∷ x15 ∷ rest) (head_from p kind (bytes_high_first 2 length) four)
  grown_sequence =
      let g1 = g.2 in
      let g2 = g1.2 in
      let g3 = g2.2 in
      let g4 = g3.2 in
      let g5 = g4.2 in
      let g6 = g5.2 in
      let g7 = g6.2 in
      let g8 = g7.2 in
      let g9 = g8.2 in
      let g10 = g9.2 in
      let g11 = g10.2 in
      let g12 = g11.2 in
      let g13 = g12.2 in
      let g14 = g13.2 in
      let g15 = g14.2 in
      let g16 = g15.2 in
      let t2 = greatest_byte x2 x10 (byte_at 1 length) (byte_small 1 length) g2.0 g10.0 in
      let t3 = greatest_byte x3 x11 (byte_at 0 length) (byte_small 0 length) g3.0 g11.0 in
      let t4 = greatest_byte x4 x12 (byte_at 3 sequence) (byte_small 3 sequence) g4.0 g12.0 in
      let t5 = greatest_byte x5 x13 (byte_at 2 sequence) (byte_small 2 sequence) g5.0 g13.0 in
      let t6 = greatest_byte x6 x14 (byte_at 1 sequence) (byte_small 1 sequence) g6.0 g14.0 in
      let t7 = greatest_byte x7 x15 (byte_at 0 sequence) (byte_small 0 sequence) g7.0 g15.0 in
      (g.0, g.1, (g1.0, g1.1, (g2.0, g2.1, (g3.0, g3.1, (t4.0, (λ lt. omega arith), (t5.0, (λ lt. omega arith), (t6.0, (λ lt. omega arith), (t7.0, (λ lt. omega arith), (g8.0, g8.1, (g9.0, g9.1, (g10.0, g10.1, (g11.0, g11.1, (self_byte x12 t4.2, (λ lt. omega arith), (self_byte x13 t5.2, (λ lt. omega arith), (self_byte x14 t6.2, (λ lt. omega arith), (self_byte x15 t7.2, (λ lt. omega arith), g16))))))))))))))))

  pub grown_both : Grown (x0 ∷ x1 ∷ x2 ∷ x3 ∷ x4 ∷ x5 ∷ x6 ∷ x7 ∷ x8 ∷ x9 ∷ x10 ∷ x11 ∷ x12 ∷ x13 ∷ x14 ∷ x15 ∷ rest) (head_from p kind two four)
  grown_both =
      let g1 = g.2 in
      let g2 = g1.2 in
      let g3 = g2.2 in
      let g4 = g3.2 in
      let g5 = g4.2 in
      let g6 = g5.2 in
      let g7 = g6.2 in
      let g8 = g7.2 in
      let g9 = g8.2 in
      let g10 = g9.2 in
      let g11 = g10.2 in
      let g12 = g11.2 in
      let g13 = g12.2 in
      let g14 = g13.2 in
      let g15 = g14.2 in
      let g16 = g15.2 in
      let t2 = greatest_byte x2 x10 (byte_at 1 length) (byte_small 1 length) g2.0 g10.0 in
      let t3 = greatest_byte x3 x11 (byte_at 0 length) (byte_small 0 length) g3.0 g11.0 in
      let t4 = greatest_byte x4 x12 (byte_at 3 sequence) (byte_small 3 sequence) g4.0 g12.0 in
      let t5 = greatest_byte x5 x13 (byte_at 2 sequence) (byte_small 2 sequence) g5.0 g13.0 in
      let t6 = greatest_byte x6 x14 (byte_at 1 sequence) (byte_small 1 sequence) g6.0 g14.0 in
      let t7 = greatest_byte x7 x15 (byte_at 0 sequence) (byte_small 0 sequence) g7.0 g15.0 in
      (g.0, g.1, (g1.0, g1.1, (t2.0, (λ lt. omega arith), (t3.0, (λ lt. omega arith), (t4.0, (λ lt. omega arith), (t5.0, (λ lt. omega arith), (t6.0, (λ lt. omega arith), (t7.0, (λ lt. omega arith), (g8.0, g8.1, (g9.0, g9.1, (self_byte x10 t2.2, (λ lt. omega arith), (self_byte x11 t3.2, (λ lt. omega arith), (self_byte x12 t4.2, (λ lt. omega arith), (self_byte x13 t5.2, (λ lt. omega arith), (self_byte x14 t6.2, (λ lt. omega arith), (self_byte x15 t7.2, (λ lt. omega arith), g16))))))))))))))))

  pub not_less : byte_at 1 length ≤ 255 - x10
  not_less =
      let g1 = g.2 in
      let g2 = g1.2 in
      let g3 = g2.2 in
      let g4 = g3.2 in
      let g5 = g4.2 in
      let g6 = g5.2 in
      let g7 = g6.2 in
      let g8 = g7.2 in
      let g9 = g8.2 in
      let g10 = g9.2 in
      let g11 = g10.2 in
      let g12 = g11.2 in
      let g13 = g12.2 in
      let g14 = g13.2 in
      let g15 = g14.2 in
      let g16 = g15.2 in
      let t2 = greatest_byte x2 x10 (byte_at 1 length) (byte_small 1 length) g2.0 g10.0 in
      let t3 = greatest_byte x3 x11 (byte_at 0 length) (byte_small 0 length) g3.0 g11.0 in
      let t4 = greatest_byte x4 x12 (byte_at 3 sequence) (byte_small 3 sequence) g4.0 g12.0 in
      let t5 = greatest_byte x5 x13 (byte_at 2 sequence) (byte_small 2 sequence) g5.0 g13.0 in
      let t6 = greatest_byte x6 x14 (byte_at 1 sequence) (byte_small 1 sequence) g6.0 g14.0 in
      let t7 = greatest_byte x7 x15 (byte_at 0 sequence) (byte_small 0 sequence) g7.0 g15.0 in
      t2.3

  pub not_less' : byte_at 0 length ≤ 255 - x11
  not_less' =
      let g1 = g.2 in
      let g2 = g1.2 in
      let g3 = g2.2 in
      let g4 = g3.2 in
      let g5 = g4.2 in
      let g6 = g5.2 in
      let g7 = g6.2 in
      let g8 = g7.2 in
      let g9 = g8.2 in
      let g10 = g9.2 in
      let g11 = g10.2 in
      let g12 = g11.2 in
      let g13 = g12.2 in
      let g14 = g13.2 in
      let g15 = g14.2 in
      let g16 = g15.2 in
      let t2 = greatest_byte x2 x10 (byte_at 1 length) (byte_small 1 length) g2.0 g10.0 in
      let t3 = greatest_byte x3 x11 (byte_at 0 length) (byte_small 0 length) g3.0 g11.0 in
      let t4 = greatest_byte x4 x12 (byte_at 3 sequence) (byte_small 3 sequence) g4.0 g12.0 in
      let t5 = greatest_byte x5 x13 (byte_at 2 sequence) (byte_small 2 sequence) g5.0 g13.0 in
      let t6 = greatest_byte x6 x14 (byte_at 1 sequence) (byte_small 1 sequence) g6.0 g14.0 in
      let t7 = greatest_byte x7 x15 (byte_at 0 sequence) (byte_small 0 sequence) g7.0 g15.0 in
      t3.3

-- what is read of complements is written as them
complement_small : (y : ℕ) → 255 - y < 256
complement_small y = omega arith

two_small : (a b : ℕ) → a < 256 → b < 256 → (i : ℕ) → get_or (a ∷ b ∷ []) i 0 < 256
two_small a b la lb zero = la
two_small a b la lb (suc zero) = lb
two_small a b la lb (suc (suc i)) = omega arith

four_small : (a b c d : ℕ) → a < 256 → b < 256 → c < 256 → d < 256 → (i : ℕ) → get_or (a ∷ b ∷ c ∷ d ∷ []) i 0 < 256
four_small a b c d la lb lc ld zero = la
four_small a b c d la lb lc ld (suc zero) = lb
four_small a b c d la lb lc ld (suc (suc zero)) = lc
four_small a b c d la lb lc ld (suc (suc (suc zero))) = ld
four_small a b c d la lb lc ld (suc (suc (suc (suc i)))) = omega arith

read_two : (a b : ℕ) → a < 256 → b < 256 → from_be_bytes w16 (a ∷ b ∷ []) ≡ a * 256 + b
read_two a b la lb = omega arith

read_four : (a b c d : ℕ) → a < 256 → b < 256 → c < 256 → d < 256 → from_be_bytes w32 (a ∷ b ∷ c ∷ d ∷ []) < 2 ^ 32
read_four a b c d la lb lc ld = omega arith

written_two : (a b : ℕ) → a < 256 → b < 256 → bytes_high_first 2 (from_be_bytes w16 (a ∷ b ∷ [])) ≡ a ∷ b ∷ []
written_two a b la lb = be_bytes_2 (a ∷ b ∷ []) (from_be_bytes w16 (a ∷ b ∷ [])) refl (two_small a b la lb) refl

written_four : (a b c d : ℕ) → a < 256 → b < 256 → c < 256 → d < 256 → bytes_high_first 4 (from_be_bytes w32 (a ∷ b ∷ c ∷ d ∷ [])) ≡ a ∷ b ∷ c ∷ d ∷ []
written_four a b c d la lb lc ld = be_bytes_4 (a ∷ b ∷ c ∷ d ∷ []) (from_be_bytes w32 (a ∷ b ∷ c ∷ d ∷ [])) refl (four_small a b c d la lb lc ld) refl

-- a length of 16 bits by its two bytes
two_are : (n : ℕ) → n < 65536 → n ≡ byte_at 1 n * 256 + byte_at 0 n
two_are n small = omega arith

grows_back_16 : (kind : RecordKind) (length sequence : ℕ) (x0 x1 x2 x3 x4 x5 x6 x7 x8 x9 x10 x11 x12 x13 x14 x15 : ℕ) (rest : List ℕ) → IsLegalSlotHead (record { kind = kind; length = length; sequence = sequence })
    → let page = x0 ∷ x1 ∷ x2 ∷ x3 ∷ x4 ∷ x5 ∷ x6 ∷ x7 ∷ x8 ∷ x9 ∷ x10 ∷ x11 ∷ x12 ∷ x13 ∷ x14 ∷ x15 ∷ rest in (p : ℕ) → Grown page (head_from p (kind_byte kind) (bytes_high_first 2 length) (bytes_high_first 4 sequence))
    → let m = greatest_head kind page in IsLegalSlotHead m × Grown page (slot_head_page p m)
grows_back_16 Content length sequence x0 x1 x2 x3 x4 x5 x6 x7 x8 x9 x10 x11 x12 x13 x14 x15 rest legal p g =
    let page = x0 ∷ x1 ∷ x2 ∷ x3 ∷ x4 ∷ x5 ∷ x6 ∷ x7 ∷ x8 ∷ x9 ∷ x10 ∷ x11 ∷ x12 ∷ x13 ∷ x14 ∷ x15 ∷ rest in
    let m = greatest_head Content page in
    let e4 = written_four (255 - x12) (255 - x13) (255 - x14) (255 - x15) (complement_small x12) (complement_small x13) (complement_small x14) (complement_small x15) in
    let e2 = written_two (255 - x10) (255 - x11) (complement_small x10) (complement_small x11) in
    let G = grown_both p 1 length sequence x0 x1 x2 x3 x4 x5 x6 x7 x8 x9 x10 x11 x12 x13 x14 x15 rest g in
    let is : m.length ≡ (255 - x10) * 256 + (255 - x11) = read_two (255 - x10) (255 - x11) (complement_small x10) (complement_small x11) in
    let high = not_less p 1 length sequence x0 x1 x2 x3 x4 x5 x6 x7 x8 x9 x10 x11 x12 x13 x14 x15 rest g in
    let low = not_less' p 1 length sequence x0 x1 x2 x3 x4 x5 x6 x7 x8 x9 x10 x11 x12 x13 x14 x15 rest g in
    let all = two_are length legal.length in (
      record { kind = (let some : 0 < m.length = omega (arith, is, high, low, all, legal.kind) in some); length = (let few : m.length < 65536 = omega (arith, is) in few); sequence = read_four (255 - x12) (255 - x13) (255 - x14) (255 - x15) (complement_small x12) (complement_small x13) (complement_small x14) (complement_small x15) },
      subst (Grown page) (λ i. head_from p 1 (sym e2 i) (sym e4 i)) G,
    )
grows_back_16 Invalid length sequence x0 x1 x2 x3 x4 x5 x6 x7 x8 x9 x10 x11 x12 x13 x14 x15 rest legal p g =
    let page = x0 ∷ x1 ∷ x2 ∷ x3 ∷ x4 ∷ x5 ∷ x6 ∷ x7 ∷ x8 ∷ x9 ∷ x10 ∷ x11 ∷ x12 ∷ x13 ∷ x14 ∷ x15 ∷ rest in
    let e4 = written_four (255 - x12) (255 - x13) (255 - x14) (255 - x15) (complement_small x12) (complement_small x13) (complement_small x14) (complement_small x15) in
    let G = grown_sequence p 2 length sequence x0 x1 x2 x3 x4 x5 x6 x7 x8 x9 x10 x11 x12 x13 x14 x15 rest g in
    let none : length ≡ 0 = legal.kind in (
      record { kind = refl; length = omega arith; sequence = read_four (255 - x12) (255 - x13) (255 - x14) (255 - x15) (complement_small x12) (complement_small x13) (complement_small x14) (complement_small x15) },
      subst (Grown page) (λ i. head_from p 2 (bytes_high_first 2 (none i)) (sym e4 i)) G,
    )
grows_back_16 Erased length sequence x0 x1 x2 x3 x4 x5 x6 x7 x8 x9 x10 x11 x12 x13 x14 x15 rest legal p g =
    let page = x0 ∷ x1 ∷ x2 ∷ x3 ∷ x4 ∷ x5 ∷ x6 ∷ x7 ∷ x8 ∷ x9 ∷ x10 ∷ x11 ∷ x12 ∷ x13 ∷ x14 ∷ x15 ∷ rest in
    let e4 = written_four (255 - x12) (255 - x13) (255 - x14) (255 - x15) (complement_small x12) (complement_small x13) (complement_small x14) (complement_small x15) in
    let G = grown_sequence p 3 length sequence x0 x1 x2 x3 x4 x5 x6 x7 x8 x9 x10 x11 x12 x13 x14 x15 rest g in
    let none : length ≡ 0 = legal.kind in (
      record { kind = refl; length = omega arith; sequence = read_four (255 - x12) (255 - x13) (255 - x14) (255 - x15) (complement_small x12) (complement_small x13) (complement_small x14) (complement_small x15) },
      subst (Grown page) (λ i. head_from p 3 (bytes_high_first 2 (none i)) (sym e4 i)) G,
    )

-- every page of which more bits make a head has 16 bytes
grows_back : (page : List ℕ) (h : SlotHead) → IsLegalSlotHead h → (p : ℕ) → Grown page (slot_head_page p h) → let m = greatest_head h.kind page in IsLegalSlotHead m × Grown page (slot_head_page p m)
grows_back [] h legal p g = absurd g
grows_back (x0 ∷ []) h legal p g = absurd g.2
grows_back (x0 ∷ x1 ∷ []) h legal p g = absurd g.2.2
grows_back (x0 ∷ x1 ∷ x2 ∷ []) h legal p g = absurd g.2.2.2
grows_back (x0 ∷ x1 ∷ x2 ∷ x3 ∷ []) h legal p g = absurd g.2.2.2.2
grows_back (x0 ∷ x1 ∷ x2 ∷ x3 ∷ x4 ∷ []) h legal p g = absurd g.2.2.2.2.2
grows_back (x0 ∷ x1 ∷ x2 ∷ x3 ∷ x4 ∷ x5 ∷ []) h legal p g = absurd g.2.2.2.2.2.2
grows_back (x0 ∷ x1 ∷ x2 ∷ x3 ∷ x4 ∷ x5 ∷ x6 ∷ []) h legal p g = absurd g.2.2.2.2.2.2.2
grows_back (x0 ∷ x1 ∷ x2 ∷ x3 ∷ x4 ∷ x5 ∷ x6 ∷ x7 ∷ []) h legal p g = absurd g.2.2.2.2.2.2.2.2
grows_back (x0 ∷ x1 ∷ x2 ∷ x3 ∷ x4 ∷ x5 ∷ x6 ∷ x7 ∷ x8 ∷ []) h legal p g = absurd g.2.2.2.2.2.2.2.2.2
grows_back (x0 ∷ x1 ∷ x2 ∷ x3 ∷ x4 ∷ x5 ∷ x6 ∷ x7 ∷ x8 ∷ x9 ∷ []) h legal p g = absurd g.2.2.2.2.2.2.2.2.2.2
grows_back (x0 ∷ x1 ∷ x2 ∷ x3 ∷ x4 ∷ x5 ∷ x6 ∷ x7 ∷ x8 ∷ x9 ∷ x10 ∷ []) h legal p g = absurd g.2.2.2.2.2.2.2.2.2.2.2
grows_back (x0 ∷ x1 ∷ x2 ∷ x3 ∷ x4 ∷ x5 ∷ x6 ∷ x7 ∷ x8 ∷ x9 ∷ x10 ∷ x11 ∷ []) h legal p g = absurd g.2.2.2.2.2.2.2.2.2.2.2.2
grows_back (x0 ∷ x1 ∷ x2 ∷ x3 ∷ x4 ∷ x5 ∷ x6 ∷ x7 ∷ x8 ∷ x9 ∷ x10 ∷ x11 ∷ x12 ∷ []) h legal p g = absurd g.2.2.2.2.2.2.2.2.2.2.2.2.2
grows_back (x0 ∷ x1 ∷ x2 ∷ x3 ∷ x4 ∷ x5 ∷ x6 ∷ x7 ∷ x8 ∷ x9 ∷ x10 ∷ x11 ∷ x12 ∷ x13 ∷ []) h legal p g = absurd g.2.2.2.2.2.2.2.2.2.2.2.2.2.2
grows_back (x0 ∷ x1 ∷ x2 ∷ x3 ∷ x4 ∷ x5 ∷ x6 ∷ x7 ∷ x8 ∷ x9 ∷ x10 ∷ x11 ∷ x12 ∷ x13 ∷ x14 ∷ []) h legal p g = absurd g.2.2.2.2.2.2.2.2.2.2.2.2.2.2.2
grows_back (x0 ∷ x1 ∷ x2 ∷ x3 ∷ x4 ∷ x5 ∷ x6 ∷ x7 ∷ x8 ∷ x9 ∷ x10 ∷ x11 ∷ x12 ∷ x13 ∷ x14 ∷ x15 ∷ rest) h legal p g = grows_back_16 h.kind h.length h.sequence x0 x1 x2 x3 x4 x5 x6 x7 x8 x9 x10 x11 x12 x13 x14 x15 rest legal p g

-- THE TEST
grows_any : (kind : RecordKind) (page : List ℕ) → IsTrue (grows_as kind page) → IsTrue (grows_slot_head page)
grows_any Content page t = or_is _ _ (inl t)
grows_any Invalid page t = or_is _ _ (inr (or_is _ _ (inl t)))
grows_any Erased page t = or_is _ _ (inr (or_is _ _ (inr t)))

grows_some : (page : List ℕ) → IsTrue (grows_slot_head page) → GrowsNoSlotHead page → ⊥
grows_some page t none = elim (or_parts _ _ t) [
  | inl a ↦ grows_head Content page a none
  | inr b ↦ elim (or_parts _ _ b) [ inl c ↦ grows_head Invalid page c none | inr d ↦ grows_head Erased page d none ]
]

grows_none : (page : List ℕ) → (IsTrue (grows_slot_head page) → ⊥) → GrowsNoSlotHead page
grows_none page none torn grown h is =
    let back = grows_back page h is.legal (length page) (subst (Grown page) is.page_is grown) in
    none (grows_any h.kind page (and_is _ _ ((legal_is (greatest_head h.kind page)).1 back.0) (grown_is page (slot_head_page (length page) (greatest_head h.kind page)) back.1)))

head_some : (p : ℕ) (page : List ℕ) (o : Option SlotHead) → slot_head_of p page ≡ o → IsTrue (is_some o) → (h : SlotHead) × IsSlotHead p page h
head_some p page None e t = absurd (false≢true t)
head_some p page (Some h) e t = (h, (slot_heads_compute p page h).1 e)

some_head : (p : ℕ) (page : List ℕ) → (h : SlotHead) × IsSlotHead p page h → IsTrue (is_some (slot_head_of p page))
some_head p page (h, is) = ap is_some ((slot_heads_compute p page h).0 is)

pub sound_slot_heads_compute : SoundSlotHeadsCompute
sound_slot_heads_compute page = (
  λ t. elim (or_parts _ _ t) [
    | inl some ↦ inl (head_some (length page) page (slot_head_of (length page) page) refl some)
    | inr not_grows ↦ inr (grows_none page (is_not _ not_grows))
  ],
  λ sound. elim sound [
    | inl some ↦ or_is _ _ (inl (some_head (length page) page some))
    | inr none ↦ or_is _ _ (inr (not_is _ (λ t. grows_some page t none)))
  ],
)
