-- A sound image, bank by bank.
use Rattle.std.specs.Prelude.{◌↔◌, IsSomeAnd, IsTrue, length}
use Rattle.std.proofs.Common.{◌≡◌, ◌<◌, ◌+◌, ℕ, Bool, false, List, Option, Some, None, subst, inl, inr, arith}
use Rattle.std.proofs.lemmas.Bool.{cases_lt}
use Rattle.fee_core.specs.fee_image.Image.{Layout, image_page}
use Rattle.fee_core.specs.fee_image.Sound.{IsSoundBank, IsSoundImage}
use Rattle.fee_format.specs.Gate.{IsGate}
use Rattle.fee_format.specs.SoundHead.{IsSoundHead}

pub bank_sound : (o : Option (List ℕ)) (l : Layout) (bank : ℕ) (head gate : List ℕ) (r : Bool) → length gate ≡ l.page → IsSomeAnd o (λ bytes. head ≡ image_page l bytes bank 0) → IsSomeAnd o (λ bytes. gate ≡ image_page l bytes bank 1)
    → (IsTrue r ↔ (IsGate (length gate) gate → IsSoundHead head)) → IsSomeAnd o (λ bytes. IsTrue r ↔ IsSoundBank l bytes bank)
bank_sound None l bank head gate r size first second is = first
bank_sound (Some bytes) l bank head gate r size first second is =
    subst (λ (h : List ℕ). IsTrue r ↔ (IsGate l.page (image_page l bytes bank 1) → IsSoundHead h)) first
    (subst (λ (g : List ℕ). IsTrue r ↔ (IsGate l.page g → IsSoundHead head)) second
    (subst (λ (n : ℕ). IsTrue r ↔ (IsGate n gate → IsSoundHead head)) size is))

-- so many banks are
abbrev pub AreSoundBelow : ℕ → Layout → List ℕ → Type 0
AreSoundBelow n l bytes = (k : ℕ) → k < n → IsSoundBank l bytes k

pub sound_more : (o : Option (List ℕ)) (l : Layout) (n : ℕ) (r : Bool) → IsTrue r → IsSomeAnd o (λ bytes. AreSoundBelow n l bytes) → IsSomeAnd o (λ bytes. IsTrue r ↔ IsSoundBank l bytes n)
    → IsSomeAnd o (λ bytes. AreSoundBelow (n + 1) l bytes)
sound_more None l n r is so_far one = so_far
sound_more (Some bytes) l n r is so_far one = λ k less. elim (cases_lt k n) [
  | inl before ↦ so_far k before
  | inr last ↦ subst (λ (i : ℕ). IsSoundBank l bytes i) (omega (arith, less, last)) (one.0 is)
]

pub not_sound : (o : Option (List ℕ)) (l : Layout) (n : ℕ) (r : Bool) → n < l.banks → (IsTrue r → ⊥) → IsSomeAnd o (λ bytes. IsTrue r ↔ IsSoundBank l bytes n) → IsSomeAnd o (λ bytes. IsTrue false ↔ IsSoundImage l bytes)
not_sound None l n r less never one = one
not_sound (Some bytes) l n r less never one = ((λ is. cc is), (λ sound. absurd (never (one.1 (sound n less)))))

-- of no bank nothing is asked
pub none_sound : (o : Option (List ℕ)) (l : Layout) (size : ℕ) → IsSomeAnd o (λ bytes. size ≡ length bytes) → IsSomeAnd o (λ bytes. AreSoundBelow 0 l bytes)
none_sound None l size some = some
none_sound (Some bytes) l size some = λ k less. absurd (omega (arith, less))
