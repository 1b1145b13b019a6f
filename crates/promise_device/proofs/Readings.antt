-- What the reading of a device over banks computes is what is said of an image.
use Rattle.std.specs.Prelude.{◌==◌, not, nat_lt, IfSome}
use Rattle.std.specs.Option.{option_map_or}
use Rattle.std.proofs.Common.{◌≡◌, ◌⊎◌, inl, inr, ◌↔◌, ◌<◌, ◌≤◌, ◌+◌, ◌-◌, ℕ, zero, suc, Bool, true, false, IsTrue, List, [], ◌∷◌, Option, Some, None, refl, sym, subst, arith}
use Rattle.std.proofs.lemmas.Bool.{cases_lt, false≢true}
use Rattle.nv_base.specs.Geometry.{size_of}
use Rattle.fls_model.specs.Attach.{enlarged}
use Rattle.fls_model.specs.Told.{bytes_now}
use Rattle.fee_format.specs.declared.bank_head.BankHead.{BankHead}
use Rattle.fee_format.specs.BankHead.{last_generation}
use Rattle.fee_format.specs.Formats.{new_format}
use Rattle.fee_format.specs.Pages.{blank_page, same_bytes}
use Rattle.fee_format.proofs.Tests.{both, either, lt_is, eq_is, bytes_are}
use Rattle.fee_image.specs.Bank.{Bank, page_of}
use Rattle.fee_image.specs.Image.{bank_in, active_of}
use Rattle.fee_image.specs.RecordList.{IsTailBlank, IsClosed, end_of}
use Rattle.fee_image.specs.Sound.{is_sound_image}
use Rattle.fee_image.proofs.Soundness.{sound_images_compute}
use Rattle.promise_device.specs.Making.{banks_of}
use Rattle.promise_device.specs.Image.{attached, IsSoundFlash, IsOfLastGeneration, is_of_last_generation, are_blank, is_closed_bank, lacks_pages, HasNoRoomFor, has_no_room_for}
use Rattle.promise_device.specs.Bridge.{wanted_pages, reading_of}
use Rattle.promise_device.specs.Laws.{SoundFlashesCompute, SoundStartsCompute, BanksAttachSound, LastGenerationsCompute, ClosedBanksCompute, FullBanksCompute, WornBanksCompute}

pub sound_flashes_compute : SoundFlashesCompute
sound_flashes_compute m image = sound_images_compute (banks_of m) (attached m.geometry image)

pub if_as : (o : Option (List ℕ)) (P Q : List ℕ → Type 0) → ((image : List ℕ) → P image → Q image) → IfSome o P → IfSome o Q
if_as None P Q as_ holds = tt
if_as (Some image) P Q as_ holds = as_ image holds

pub sound_starts_compute : SoundStartsCompute
sound_starts_compute m f sound = if_as (bytes_now f.entry) (IsSoundFlash m) (λ image. IsTrue ((reading_of m).is_sound image)) (λ image is. (sound_flashes_compute m image).1 is) sound

twice : (n : ℕ) (bytes : List ℕ) → enlarged n (enlarged n bytes) ≡ enlarged n bytes
twice zero [] = refl
twice (suc n) [] = refl
twice n (x ∷ xs) = refl

pub banks_attach_sound : BanksAttachSound
banks_attach_sound m image sound = subst (λ (bytes : List ℕ). IsTrue (is_sound_image (banks_of m) bytes)) (sym (twice (size_of m.geometry) image)) sound

-- THE ACTIVE BANK
some_is : {A : Type 0} (x y : A) → Some x ≡ Some y → x ≡ y
some_is x y e = cc e

-- what holds of the active bank, if there is one
in_active : (o : Option (ℕ × BankHead)) (f : ℕ × BankHead → Bool) (P : ℕ × BankHead → Type 0) → ((x : ℕ × BankHead) → IsTrue (f x) ↔ P x)
    → IsTrue (option_map_or f o false) ↔ ((k : ℕ) × (h : BankHead) × (o ≡ Some (k, h)) × P (k, h))
in_active None f P is = (λ t. absurd (false≢true t), λ (k, h, at, holds). absurd (let no_ : None ≡ Some (k, h) = at in cc no_))
in_active (Some x) f P is = (
  λ t. (x.0, x.1, refl, (is x).0 t),
  λ (k, h, at, holds). (is x).1 (subst P (sym (some_is x (k, h) at)) holds),
)

pub last_generations_compute : LastGenerationsCompute
last_generations_compute m image =
    in_active (active_of (banks_of m) image) (λ x. x.1.generation == last_generation) (λ x. x.1.generation ≡ last_generation) (λ x. eq_is x.1.generation last_generation)

-- ROOM
not_is : (b : Bool) (A : Type 0) → IsTrue b ↔ A → IsTrue (not b) ↔ (A → ⊥)
not_is true A is = (λ t a. false≢true t, λ none. absurd (none (is.0 refl)))
not_is false A is = (λ t a. false≢true (is.1 a), λ none. refl)

abbrev AreBlank : Bank → List ℕ → ℕ → ℕ → Type 0
AreBlank b bytes q n = (p : ℕ) → q ≤ p → p < q + n → page_of b bytes p ≡ blank_page b.page

blank_is : (b : Bank) (bytes : List ℕ) (q n : ℕ) → IsTrue (are_blank b bytes q n) ↔ AreBlank b bytes q n
blank_is b bytes q zero = (λ t p le lt. absurd (omega (arith, le, lt)), λ all. refl)
blank_is b bytes q (suc n) =
    let all = both (same_bytes (page_of b bytes q) (blank_page b.page)) (are_blank b bytes (q + 1) n) (page_of b bytes q ≡ blank_page b.page) (AreBlank b bytes (q + 1) n)
    (bytes_are (page_of b bytes q) (blank_page b.page)) (blank_is b bytes (q + 1) n) in (
      λ t p le lt. elim (cases_lt q p) [
        | inl more ↦ (all.0 t).1 p (omega (arith, more)) (omega (arith, lt))
        | inr here ↦ (let same : q ≡ p = omega (arith, here, le) in subst (λ (x : ℕ). page_of b bytes x ≡ blank_page b.page) same (all.0 t).0)
      ],
      λ each. all.1 (each q (omega arith) (omega arith), λ p le lt. each p (omega (arith, le)) (omega (arith, lt))),
    )

tail_is : (b : Bank) (bytes : List ℕ) (end : ℕ) → IsTrue (are_blank b bytes end (b.pages - end)) ↔ IsTailBlank b bytes end
tail_is b bytes end =
    let is = blank_is b bytes end (b.pages - end) in (
      λ t q le lt. is.0 t q le (omega (arith, le, lt)),
      λ blank. is.1 (λ q le lt. blank q le (omega (arith, le, lt))),
    )

pub closed_banks_compute : ClosedBanksCompute
closed_banks_compute b bytes end =
    either (not (b.format == new_format)) (not (are_blank b bytes end (b.pages - end))) (b.format ≡ new_format → ⊥) (IsTailBlank b bytes end → ⊥)
    (not_is (b.format == new_format) (b.format ≡ new_format) (eq_is b.format new_format))
    (not_is (are_blank b bytes end (b.pages - end)) (IsTailBlank b bytes end) (tail_is b bytes end))

abbrev Lacks : ℕ → List ℕ → Bank → Type 0
Lacks pages image b = IsClosed b image (end_of b image) ⊎ (b.pages < end_of b image + pages)

pub lacks_is : (pages : ℕ) (image : List ℕ) (b : Bank) → IsTrue (lacks_pages pages b image) ↔ Lacks pages image b
lacks_is pages image b =
    either (is_closed_bank b image (end_of b image)) (nat_lt b.pages (end_of b image + pages)) (IsClosed b image (end_of b image)) (b.pages < end_of b image + pages)
    (closed_banks_compute b image (end_of b image)) (lt_is b.pages (end_of b image + pages))

pub full_banks_compute : FullBanksCompute
full_banks_compute pages m image =
    in_active (active_of (banks_of m) image) (λ x. lacks_pages pages (bank_in (banks_of m) x.1.format x.0) image) (λ x. Lacks pages image (bank_in (banks_of m) x.1.format x.0))
    (λ x. lacks_is pages image (bank_in (banks_of m) x.1.format x.0))

-- WORN OUT
pub worn_banks_compute : WornBanksCompute
worn_banks_compute m f k n urgent worn = record {
  last = if_as _ (λ image. IsTrue (is_of_last_generation m image)) (IsOfLastGeneration m) (λ image is. (last_generations_compute m image).0 is) worn.last;
  no_erase = worn.follow;
  full = λ told small. elim (worn.full told small) [
    | inl room ↦ inl (if_as _ (λ image. IsTrue (has_no_room_for (wanted_pages m n urgent) m image)) (HasNoRoomFor (wanted_pages m n urgent) m) (λ image is. (full_banks_compute (wanted_pages m n urgent) m image).0 is) room)
    | inr failed ↦ inr failed
  ];
}
