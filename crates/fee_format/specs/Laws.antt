-- Laws of pages, for the layers above.
use Rattle.std.specs.Prelude.{◌≡◌, ◌↔◌, ◌≤◌, ℕ, IsTrue, List, [], ◌∷◌, length, Some}
use Rattle.fls_model.specs.Bytes.{Grown}
use Rattle.fee_format.specs.declared.bank_head.BankHead.{BankHead}
use Rattle.fee_format.specs.declared.rec_head.RecHead.{RecHead}
use Rattle.fee_format.specs.BankHead.{IsBankHead, bank_head_of}
use Rattle.fee_format.specs.Gate.{IsGate, is_gate}
use Rattle.fee_format.specs.RecHead.{IsRecHead, rec_head_of}
use Rattle.fee_format.specs.SoundHead.{IsSoundHead, is_sound_head}

-- WHAT A PAGE IS, COMPUTED
abbrev pub GatesCompute : Type 0
GatesCompute = (p : ℕ) (page : List ℕ) → IsTrue (is_gate p page) ↔ IsGate p page

abbrev pub BankHeadsCompute : Type 0
BankHeadsCompute = (p : ℕ) (page : List ℕ) (h : BankHead) → IsBankHead p page h ↔ (bank_head_of p page ≡ Some h)

abbrev pub RecHeadsCompute : Type 0
RecHeadsCompute = (format p : ℕ) (page : List ℕ) (h : RecHead) → IsRecHead format p page h ↔ (rec_head_of format p page ≡ Some h)

abbrev pub SoundHeadsCompute : Type 0
SoundHeadsCompute = (page : List ℕ) → IsTrue (is_sound_head page) ↔ IsSoundHead page

-- WHAT A TORN ERASE LEAVES
-- of a page one of as many bytes
abbrev pub TornPagesKeepSize : Type 0
TornPagesKeepSize = (page torn : List ℕ) → Grown page torn → length torn ≡ length page

-- of a bank head the same page, or none
abbrev pub TornHeadsAreSame : Type 0
TornHeadsAreSame = (p : ℕ) (page torn : List ℕ) (h i : BankHead) → IsBankHead p page h → Grown page torn → IsBankHead p torn i → (torn ≡ page) × (i ≡ h)

-- an open gate where one was
abbrev pub TornGatesWereGates : Type 0
TornGatesWereGates = (p : ℕ) (page torn : List ℕ) → Grown page torn → IsGate p torn → IsGate p page

-- of a page that may stand before an open gate another one
abbrev pub TornHeadsStaySound : Type 0
TornHeadsStaySound = (page torn : List ℕ) → IsSoundHead page → Grown page torn → IsSoundHead torn

-- no bank head of a page whose first byte is 0xFF, as a blank page's
abbrev pub BeginsBlank : List ℕ → Type 0
BeginsBlank [] = Unit {0}
BeginsBlank (x ∷ xs) = 255 ≤ x

abbrev pub BlankHeadsAreSound : Type 0
BlankHeadsAreSound = (page : List ℕ) → BeginsBlank page → IsSoundHead page
