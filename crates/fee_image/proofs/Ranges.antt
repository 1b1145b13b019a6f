-- What programs and erases leave of pages.
use Rattle.std.proofs.Common.{◌≡◌, inl, inr, ◌<◌, ◌≤◌, ℕ, zero, suc, ◌+◌, ◌*◌, ◌-◌, List, [], ◌∷◌, ◌++◌, length, take, drop, get_or, replicate, sym, ap, ◌∙◌, subst, arith, length-append, length-drop}
use Rattle.std.proofs.lemmas.Bool.{cases_order, cases_eq}
use Rattle.std.proofs.lemmas.List.{take_at, drop_at, drop-drop, length-take-le, append_assoc, take-append-le, length-replicate, take-replicate, drop-replicate}
use Rattle.std.proofs.Math.Nat.{mul-le-mul_right}
use Rattle.std.specs.List.{All}
use Rattle.fls_model.specs.Bytes.{AreBytes, SameOutside, and_bytes, spliced}
use Rattle.fls_model.specs.Op.{MayLeave, Program, after_op}
use Rattle.fee_format.specs.Gate.{IsGate}
use Rattle.fee_format.specs.Pages.{gate_page, page_at}
use Rattle.fee_format.specs.SoundHead.{IsSoundHead}
use Rattle.fee_image.specs.Bank.{Bank, page_of, place_of_page}
use Rattle.fee_image.specs.Image.{Layout, bank_in, image_page}
use Rattle.fee_image.specs.Sound.{IsSoundImage}
use Rattle.fee_image.specs.Laws.{PagesOutsideStay, OtherBanksStay, ErasedIsBlank, KeepsSound, ProgramsTouchOnePage, ProgramsTouchTheirBank, ProgramsStand, GatesStand, ProgramsKeepSound}
use Rattle.fls_model.proofs.Kept.{ranges_keep_bytes}
use Rattle.fls_model.proofs.Pieces.{piece_front, piece_back, spliced_piece, and_blank, and_zeros}

-- a page beside the one that changes stays
page_same : (p q j : ℕ) (old new : List ℕ) → SameOutside (q * p) p old new → (j ≡ q → ⊥) → page_at p new j ≡ page_at p old j
page_same p q j old new out other = elim (cases_order j q) [
  | inl same ↦ absurd (other same)
  | inr (inl below) ↦ piece_front (q * p) (j * p) p old new out.front (let le = mul-le-mul_right p (let s : suc j ≤ q = omega arith in s) in let one : suc j * p ≡ j * p + p = omega arith in omega (arith, le, one))
  | inr (inr above) ↦ piece_back (q * p + p) (j * p) p old new out.back (let le = mul-le-mul_right p (let s : suc q ≤ j = omega arith in s) in let one : suc q * p ≡ q * p + p = omega arith in omega (arith, le, one))
]

-- PROGRAMS
pub programs_touch_their_bank : ProgramsTouchTheirBank
programs_touch_their_bank b old new page q size leaves j lt other =
    page_same b.page (b.at + q) (b.at + j) old new (subst (λ (n : ℕ). SameOutside (place_of_page b q) n old new) size leaves.0) (λ same. other (omega arith))

-- pages of different banks, or different pages of one, have different places
below_next : (B j i k q : ℕ) → j < k → i < B → j * B + i < k * B + q
below_next B j i k q less lt =
    let le = mul-le-mul_right B (let s : suc j ≤ k = omega arith in s) in
    let one : suc j * B ≡ j * B + B = omega arith in
    omega (arith, le, one)

places_differ : (B j i k q : ℕ) → i < B → q < B → ((j ≡ k) × (i ≡ q) → ⊥) → j * B + i ≡ k * B + q → ⊥
places_differ B j i k q lt lt2 other e = elim (cases_order j k) [
  | inl same ↦ other (same, let at : j * B ≡ k * B = ap (λ (n : ℕ). n * B) same in omega arith)
  | inr (inl less) ↦ absurd (omega (arith, below_next B j i k q less lt))
  | inr (inr more) ↦ absurd (omega (arith, below_next B k q j i more lt2))
]

pub programs_touch_one_page : ProgramsTouchOnePage
programs_touch_one_page l old new page k q j i size leaves lt lt2 other =
    page_same l.page (k * l.pages + q) (j * l.pages + i) old new
    (subst (λ (n : ℕ). SameOutside ((k * l.pages + q) * l.page) n old new) size leaves.0)
    (places_differ l.pages j i k q lt2 lt other)

-- as the two first pages of a bank were
sound_still : (l : Layout) (old new : List ℕ) (j : ℕ) → IsSoundImage l old → j < l.banks → image_page l new j 0 ≡ image_page l old j 0 → image_page l new j 1 ≡ image_page l old j 1 → IsGate l.page (image_page l new j 1) → IsSoundHead (image_page l new j 0)
sound_still l old new j sound lt head gate is = subst IsSoundHead (sym head) (sound j lt (sym gate ∙ is))

sound_bank : (l : Layout) (old new : List ℕ) (k q j : ℕ) → ((i : ℕ) → i < 2 → ((j ≡ k) × (i ≡ q) → ⊥) → image_page l new j i ≡ image_page l old j i) → KeepsSound l old k q → IsSoundImage l old → j < l.banks → IsGate l.page (image_page l new j 1) → IsSoundHead (image_page l new j 0)
sound_bank l old new k q j same keeps sound lt gate = elim (cases_eq j k) [
  | inr differs ↦ sound_still l old new j sound lt (same 0 (omega arith) (λ e. differs e.0)) (same 1 (omega arith) (λ e. differs e.0)) gate
  | inl is ↦ elim keeps [
    | inl (zeroth, shut) ↦ absurd (shut (subst (λ (n : ℕ). IsGate l.page (image_page l old n 1)) is (sym (same 1 (omega arith) (λ e. omega (arith, e.1))) ∙ gate)))
    | inr (inl (first, head)) ↦ subst IsSoundHead (sym (same 0 (omega arith) (λ e. omega (arith, e.1)))) (subst (λ (n : ℕ). IsSoundHead (image_page l old n 0)) (sym is) head)
    | inr (inr later) ↦ sound_still l old new j sound lt (same 0 (omega arith) (λ e. omega (arith, e.1))) (same 1 (omega arith) (λ e. omega (arith, e.1))) gate
  ]
]

pub programs_keep_sound : ProgramsKeepSound
programs_keep_sound l old new page k q two size leaves lt keeps sound j inside gate =
    sound_bank l old new k q j (λ i few other. programs_touch_one_page l old new page k q j i size leaves lt (omega arith) other) keeps sound inside gate

-- WHAT IS WRITTEN STANDS
-- to a place, and all else is as it was
spliced_outside : (bytes piece : List ℕ) (a n : ℕ) → length piece ≡ n → a + n ≤ length bytes → SameOutside a n bytes (spliced bytes a piece)
spliced_outside bytes piece a n is le =
    let front : length (take a bytes) ≡ a = length-take-le a bytes (omega arith) in
    let whole : spliced bytes a piece ≡ take a bytes ++ (piece ++ drop (a + length piece) bytes) = append_assoc (take a bytes) piece (drop (a + length piece) bytes) in
    record {
      size = omega (arith, length-append (take a bytes ++ piece) (drop (a + length piece) bytes), length-append (take a bytes) piece, front, length-drop (a + length piece) bytes);
      front = take-append-le a (take a bytes ++ piece) (drop (a + length piece) bytes) (omega (arith, length-append (take a bytes) piece, front)) ∙ take_at (take a bytes) piece a front;
      back = drop_at (take a bytes ++ piece) (drop (a + length piece) bytes) (a + n) (omega (arith, length-append (take a bytes) piece, front)) ∙ ap (λ (k : ℕ). drop (a + k) bytes) is;
    }

are_bytes : (page : List ℕ) → All (λ x. x < 256) page → AreBytes page
are_bytes [] all k = omega arith
are_bytes (x ∷ xs) all zero = all 0 0 (omega arith)
are_bytes (x ∷ xs) all (suc k) = are_bytes xs (λ i d lt. all (suc i) d (omega arith)) k

zeros_are_bytes : (n k : ℕ) → get_or (replicate n 0) k 0 < 256
zeros_are_bytes zero k = omega arith
zeros_are_bytes (suc n) zero = omega arith
zeros_are_bytes (suc n) (suc k) = zeros_are_bytes n k

-- a page each of whose bits is set in what stood in its place, or stays clear
module _ (b : Bank) (bytes page : List ℕ) (q : ℕ) (size : length page ≡ b.page) (small : AreBytes page) (fits : place_of_page b q + b.page ≤ length bytes) where
  abbrev a : ℕ
  a = place_of_page b q

  abbrev over : List ℕ
  over = and_bytes (take (length page) (drop a bytes)) page

  pub stands_over : over ≡ page → (page_of b (after_op (Program a page) bytes) q ≡ page) × MayLeave (Program a page) bytes (after_op (Program a page) bytes)
  stands_over same =
      let long : length over ≡ length page = ap length same in
      let stands = spliced_piece bytes over a b.page (long ∙ size) (omega (arith, fits)) ∙ same in
      let outside = spliced_outside bytes over a (length page) long (omega (arith, fits, size)) in (
        stands,
        (outside, λ were. ranges_keep_bytes a (length page) bytes (spliced bytes a over) outside were (subst AreBytes (sym (ap (λ (n : ℕ). take n (drop a (spliced bytes a over))) size ∙ stands)) small)),
      )

pub programs_stand : ProgramsStand
programs_stand b bytes page q size small fits blank =
    let was : take (length page) (drop (place_of_page b q) bytes) ≡ replicate (length page) 255 =
    ap (λ (n : ℕ). take n (drop (place_of_page b q) bytes)) size ∙ blank ∙ ap (λ (n : ℕ). replicate n 255) (sym size) in
    stands_over b bytes page q size (are_bytes page small) fits (ap (λ (l : List ℕ). and_bytes l page) was ∙ and_blank page small)

pub gates_stand : GatesStand
gates_stand b bytes q fits =
    let p = b.page in
    let size : length (gate_page p) ≡ p = length-replicate p 0 in
    let rest = drop (place_of_page b q) bytes in
    let whole : length (take (length (gate_page p)) rest) ≡ p = length-take-le (length (gate_page p)) rest (omega (arith, length-drop (place_of_page b q) bytes, fits, size)) ∙ size in
    stands_over b bytes (gate_page p) q size (zeros_are_bytes p) fits (and_zeros p (take (length (gate_page p)) rest) whole)

-- RANGES
pub pages_outside_stay : PagesOutsideStay
pages_outside_stay b old new address n q out (inl before) = piece_front address (place_of_page b q) b.page old new out.front before
pages_outside_stay b old new address n q out (inr behind) = piece_back (address + n) (place_of_page b q) b.page old new out.back behind

-- ERASES
pub other_banks_stay : OtherBanksStay
other_banks_stay l old new k address n j q out inside other lt =
    let B = l.pages in
    let p = l.page in
    let H = B * p in
    let place : (j * B + q) * p ≡ j * H + q * p = grind arith in
    let page_in : q * p + p ≤ H = (let le = mul-le-mul_right p (let t : suc q ≤ B = omega arith in t) in let one : suc q * p ≡ q * p + p = omega arith in omega (arith, le, one)) in
    elim (cases_order j k) [
      | inl same ↦ absurd (other same)
      | inr (inl less) ↦
          let le = mul-le-mul_right H (let t : suc j ≤ k = omega arith in t) in
          let one : suc j * H ≡ j * H + H = omega arith in
          pages_outside_stay (bank_in l 1 j) old new address n q out (inl (omega (arith, place, page_in, le, one, inside.low)))
      | inr (inr more) ↦
          let le = mul-le-mul_right H (let t : suc k ≤ j = omega arith in t) in
          let one : suc k * H ≡ k * H + H = omega arith in
          pages_outside_stay (bank_in l 1 j) old new address n q out (inr (omega (arith, place, le, one, inside.high)))
    ]

-- a page inside erased bytes
blank_inside : (bytes : List ℕ) (a z d p : ℕ) → a + z ≤ length bytes → d + p ≤ z → take p (drop (a + d) (spliced bytes a (replicate z 255))) ≡ replicate p 255
blank_inside bytes a z d p fits le =
    let X = spliced bytes a (replicate z 255) in
    let Y = drop a X in
    let all : take z Y ≡ take z (replicate z 255) = spliced_piece bytes (replicate z 255) a z (length-replicate z 255) (omega arith) ∙ sym (take-replicate z z 255 (omega arith)) in
    ap (take p) (sym (drop-drop d a X)) ∙ piece_front z d p (replicate z 255) Y all le ∙ ap (take p) (drop-replicate d z 255) ∙ take-replicate p (z - d) 255 (omega arith)

pub erased_is_blank : ErasedIsBlank
erased_is_blank b bytes address n q fits low high =
    let at : address + (place_of_page b q - address) ≡ place_of_page b q = omega arith in
    ap (λ (x : ℕ). take b.page (drop x (spliced bytes address (replicate n 255)))) (sym at)
    ∙ blank_inside bytes address n (place_of_page b q - address) b.page fits (omega arith)
