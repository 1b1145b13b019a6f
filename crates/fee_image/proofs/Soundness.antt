-- What keeps an image sound.
use Rattle.std.specs.Prelude.{if◌then◌else◌}
use Rattle.std.specs.Int.Bits.{and_self}
use Rattle.std.proofs.Common.{◌≡◌, inl, inr, ◌↔◌, ◌<◌, ◌≤◌, ℕ, zero, suc, ◌+◌, ◌-◌, ◌*◌, Bool, true, false, IsTrue, List, [], ◌∷◌, ◌++◌, length, take, drop, replicate, refl, sym, ap, ◌∙◌, subst, arith}
use Rattle.std.proofs.lemmas.Bool.{and_from, and_parts, cases_eq, false≢true}
use Rattle.std.proofs.lemmas.List.{take-append-drop, drop-drop, length-replicate}
use Rattle.fls_model.specs.Bytes.{piece, Grown}
use Rattle.fls_model.proofs.Pieces.{grown_take, grown_drop}
use Rattle.fee_format.specs.declared.bank_head.BankHead.{BankHead}
use Rattle.fee_format.specs.BankHead.{IsBankHead}
use Rattle.fee_format.specs.Gate.{IsGate, is_gate}
use Rattle.fee_format.specs.SoundHead.{IsSoundHead, is_sound_head}
use Rattle.fee_format.specs.Laws.{BeginsBlank}
use Rattle.fee_image.specs.Image.{Layout, image_page, held_of_bank}
use Rattle.fee_image.specs.Sound.{IsSoundBank, is_sound_bank, are_sound_below}
use Rattle.fee_image.specs.Laws.{SoundImagesCompute, TornErasesSetBits, TornErasesKeepSound, TornErasesMakeNoBank, TornErasesKeepActive, BlankIsSound, BlankHasErased}
use Rattle.fee_format.proofs.SoundHeads.{sound_heads_compute}
use Rattle.fee_format.proofs.Tests.{gates_compute}
use Rattle.fee_format.proofs.Torn.{blank_heads_are_sound, torn_gates_were_gates, torn_heads_are_same, torn_heads_stay_sound, torn_pages_keep_size}
use Rattle.fee_image.proofs.Banks.{no_active_computes}

-- SOUNDNESS, COMPUTED
bank_pick : (b c : Bool) (G H : Type 0) → IsTrue b ↔ G → IsTrue c ↔ H → IsTrue (if b then c else true) ↔ (G → H)
bank_pick true c G H f g = (λ t x. g.0 t, λ all. g.1 (all (f.0 refl)))
bank_pick false c G H f g = (λ t x. absurd (false≢true (f.1 x)), λ all. refl)

module _ (l : Layout) (bytes : List ℕ) where
  bank_is : (k : ℕ) → IsTrue (is_sound_bank l bytes k) ↔ IsSoundBank l bytes k
  bank_is k =
      bank_pick (is_gate l.page (image_page l bytes k 1)) (is_sound_head (image_page l bytes k 0)) (IsGate l.page (image_page l bytes k 1)) (IsSoundHead (image_page l bytes k 0))
      (gates_compute l.page (image_page l bytes k 1)) (sound_heads_compute (image_page l bytes k 0))

  abbrev Below : ℕ → Type 0
  Below n = (k : ℕ) → k < n → IsSoundBank l bytes k

  below_and : (n : ℕ) → (IsSoundBank l bytes n × Below n) → Below (suc n)
  below_and n all k lt = elim (cases_eq k n) [
    | inl same ↦ subst (IsSoundBank l bytes) (sym same) all.0
    | inr other ↦ all.1 k (omega arith)
  ]

  below_is : (n : ℕ) → IsTrue (are_sound_below l bytes n) ↔ Below n
  below_is zero = (λ t k lt. absurd (omega arith), λ all. refl)
  below_is (suc n) =
      let b = is_sound_bank l bytes n in
      let rest = are_sound_below l bytes n in (
        λ t. let parts = and_parts b rest t in below_and n ((bank_is n).0 parts.0, (below_is n).0 parts.1),
        λ sound. and_from b rest ((bank_is n).1 (sound n (omega arith))) ((below_is n).1 (λ k lt. sound k (omega arith))),
      )

pub sound_images_compute : SoundImagesCompute
sound_images_compute l bytes = below_is l bytes l.banks

-- MORE BITS
pub grown_self : (xs : List ℕ) → Grown xs xs
grown_self [] = tt
grown_self (x ∷ xs) = (and_self x, λ lt. lt, grown_self xs)

grown_append : (xs ys us vs : List ℕ) → Grown xs ys → Grown us vs → Grown (xs ++ us) (ys ++ vs)
grown_append [] [] us vs one two = two
grown_append [] (y ∷ ys) us vs one two = absurd one
grown_append (x ∷ xs) [] us vs one two = absurd one
grown_append (x ∷ xs) (y ∷ ys) us vs one two = (one.0, one.1, grown_append xs ys us vs one.2 two)

-- outside of the sector all bytes are the same
pub torn_erases_set_bits : TornErasesSetBits
torn_erases_set_bits address n old new (out, grown) =
    let front : Grown (take address old) (take address new) = subst (Grown (take address old)) (sym out.front) (grown_self (take address old)) in
    let back : Grown (drop (address + n) old) (drop (address + n) new) = subst (Grown (drop (address + n) old)) (sym out.back) (grown_self (drop (address + n) old)) in
    let parts : (xs : List ℕ) → take address xs ++ (piece address n xs ++ drop (address + n) xs) ≡ xs =
    λ xs. ap (λ (l : List ℕ). take address xs ++ (piece address n xs ++ l)) (sym (drop-drop n address xs)) ∙ ap (λ (l : List ℕ). take address xs ++ l) (take-append-drop n (drop address xs)) ∙ take-append-drop address xs in
    let all = grown_append (take address old) (take address new) (piece address n old ++ drop (address + n) old) (piece address n new ++ drop (address + n) new) front
    (grown_append (piece address n old) (piece address n new) (drop (address + n) old) (drop (address + n) new) grown back) in
    subst (λ (l : List ℕ). Grown l new) (parts old) (subst (Grown (take address old ++ (piece address n old ++ drop (address + n) old))) (parts new) all)

-- TORN ERASES
grown_page : (l : Layout) (old new : List ℕ) (k q : ℕ) → Grown old new → Grown (image_page l old k q) (image_page l new k q)
grown_page l old new k q grown = grown_take l.page _ _ (grown_drop ((k * l.pages + q) * l.page) old new grown)

pub torn_erases_keep_sound : TornErasesKeepSound
torn_erases_keep_sound l old new sound grown k lt gate =
    torn_heads_stay_sound (image_page l old k 0) (image_page l new k 0) (sound k lt (torn_gates_were_gates l.page (image_page l old k 1) (image_page l new k 1) (grown_page l old new k 1 grown) gate)) (grown_page l old new k 0 grown)

-- a page of a head's bytes has its length
head_length : (p : ℕ) (page : List ℕ) (h : BankHead) → 16 ≤ p → IsBankHead p page h → length page ≡ p
head_length p page h le is = ap length is.page_is ∙ omega (arith, length-replicate {A = ℕ} (p - 12) 255)

pub torn_erases_make_no_bank : TornErasesMakeNoBank
torn_erases_make_no_bank l old new k h big sound grown lt stands =
    let grown0 = grown_page l old new k 0 grown in
    let gate : IsGate l.page (image_page l old k 1) = torn_gates_were_gates l.page (image_page l old k 1) (image_page l new k 1) (grown_page l old new k 1 grown) stands.gate in
    let long : length (image_page l old k 0) ≡ l.page = sym (torn_pages_keep_size (image_page l old k 0) (image_page l new k 0) grown0) ∙ head_length l.page (image_page l new k 0) h big stands.head in
    elim (sound k lt gate) [
      | inl (i, is) ↦
          let head : IsBankHead l.page (image_page l old k 0) i = subst (λ (n : ℕ). IsBankHead n (image_page l old k 0) i) long is in
          let one : h ≡ i = (torn_heads_are_same l.page (image_page l old k 0) (image_page l new k 0) i h head grown0 stands.head).1 in
          record { head = subst (IsBankHead l.page (image_page l old k 0)) (sym one) head; gate = gate }
      | inr none ↦ absurd (none (image_page l new k 0) grown0 h (subst (λ (n : ℕ). IsBankHead n (image_page l new k 0) h) (sym long) stands.head))
    ]

pub torn_erases_keep_active : TornErasesKeepActive
torn_erases_keep_active l old new k h big sound grown active stands = record {
  bank = active.bank;
  stands = stands;
  first = λ j other lt ne also. active.first j other lt ne (torn_erases_make_no_bank l old new j other big sound grown lt also);
}

-- BLANK IMAGES
begins_take : (n : ℕ) (xs : List ℕ) → BeginsBlank xs → BeginsBlank (take n xs)
begins_take zero xs blank = tt
begins_take (suc n) [] blank = tt
begins_take (suc n) (x ∷ xs) blank = blank

begins_drop : (m n : ℕ) → BeginsBlank (drop m (replicate n 255))
begins_drop zero zero = tt
begins_drop zero (suc n) = omega arith
begins_drop (suc m) zero = tt
begins_drop (suc m) (suc n) = begins_drop m n

blank_page_of : (l : Layout) (n k q : ℕ) → BeginsBlank (image_page l (replicate n 255) k q)
blank_page_of l n k q = begins_take l.page _ (begins_drop ((k * l.pages + q) * l.page) n)

pub blank_is_sound : BlankIsSound
blank_is_sound l n k lt gate = blank_heads_are_sound (image_page l (replicate n 255) k 0) (blank_page_of l n k 0)

-- a bank head begins with 0x42
no_head : (p : ℕ) (page : List ℕ) (h : BankHead) → BeginsBlank page → IsBankHead p page h → ⊥
no_head p page h blank is = let none : 255 ≤ 0x42 = subst BeginsBlank is.page_is blank in omega arith

pub blank_has_erased : BlankHasErased
blank_has_erased l n number length =
    ap (held_of_bank l (replicate n 255) number length) ((no_active_computes l (replicate n 255)).0 (λ k h lt stands. no_head l.page (image_page l (replicate n 255) k 0) h (blank_page_of l n k 0) stands.head))
