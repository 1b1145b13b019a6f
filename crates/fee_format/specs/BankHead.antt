-- The page that a bank begins with.
use Rattle.std.specs.Prelude.{◌≡◌, ℕ, ◌-◌, ◌<◌, ◌^◌, ◌&&◌, nat_lt, if◌then◌else◌, List, ◌∷◌, ◌++◌, take, drop, get_or, replicate, Option, Some, None}
use Rattle.std.specs.Int.{w32, bytes_high_first, from_be_bytes}
use Rattle.fee_format.specs.declared.bank_head.BankHead.{BankHead}
use Rattle.fee_format.specs.Formats.{IsFormat, is_format}
use Rattle.fee_format.specs.Guard.{guarded}
use Rattle.fee_format.specs.Pages.{same_bytes}

-- a format, and a generation of 32 bits
pub record IsLegalBankHead (h : BankHead) : Type 0 where
  pub format : IsFormat h.format
  pub generation : h.generation < 2 ^ 32

-- the last generation, which no other follows
abbrev pub last_generation : ℕ
last_generation = 4294967295

-- the magic byte, the format, and the generation, big-endian
abbrev pub bank_head_bytes : BankHead → List ℕ
bank_head_bytes h = 0x42 ∷ h.format ∷ bytes_high_first 4 h.generation

-- these bytes and the complements of them
abbrev pub guarded_bytes : BankHead → List ℕ
guarded_bytes h = guarded (bank_head_bytes h)

-- all that, and the rest of the page blank
abbrev pub bank_head_page : ℕ → BankHead → List ℕ
bank_head_page p h = guarded_bytes h ++ replicate (p - 12) 255

-- a page of p bytes is the written form of a legal bank head
pub record IsBankHead (p : ℕ) (page : List ℕ) (h : BankHead) : Type 0 where
  pub legal : IsLegalBankHead h
  pub page_is : page ≡ bank_head_page p h

-- a page is the written form of no legal bank head
abbrev pub IsNoBankHead : ℕ → List ℕ → Type 0
IsNoBankHead p page = (h : BankHead) → IsBankHead p page h → ⊥

-- THE SAME, COMPUTED

-- the head that a page would have
abbrev pub bank_head_in : List ℕ → BankHead
bank_head_in page = record { format = get_or page 1 0; generation = from_be_bytes w32 (take 4 (drop 2 page)) }

-- the head that a page of p bytes has
abbrev pub bank_head_of : ℕ → List ℕ → Option BankHead
bank_head_of p page =
    if (is_format (bank_head_in page).format && nat_lt (bank_head_in page).generation (2 ^ 32)) && same_bytes page (bank_head_page p (bank_head_in page)) then Some (bank_head_in page) else None
