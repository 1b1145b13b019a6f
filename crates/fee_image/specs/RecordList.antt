-- The records of a bank.
use Rattle.std.specs.Prelude.{◌≡◌, ◌≢◌, ◌⊎◌, ◌↔◌, ◌<◌, ◌≤◌, ◌+◌, ◌-◌, ◌&&◌, nat_le, ℕ, zero, suc, Bool, if◌then◌else◌, IsTrue, List, [], ◌∷◌, take, Option, Some, None}
use Rattle.fee_format.specs.declared.bank_head.BankHead.{BankHead}
use Rattle.fee_format.specs.declared.rec_head.RecHead.{RecHead}
use Rattle.fee_format.specs.BankHead.{IsBankHead}
use Rattle.fee_format.specs.Formats.{IsFormat, is_format, new_format}
use Rattle.fee_format.specs.RecHead.{IsRecHead, rec_head_of}
use Rattle.fee_format.specs.Gate.{IsGate, is_gate}
use Rattle.fee_format.specs.Pages.{blank_page, body_pages_of, record_pages_of}
use Rattle.fee_image.specs.Bank.{Bank, page_of, pages_from}

-- A STANDING BANK

-- page 0 is a bank head and page 1 an open gate
pub record StandsAs (b : Bank) (bytes : List ℕ) (h : BankHead) : Type 0 where
  pub head : IsBankHead b.page (page_of b bytes 0) h
  pub gate : IsGate b.page (page_of b bytes 1)

-- it stands with no head
abbrev pub StandsNot : Bank → List ℕ → Type 0
StandsNot b bytes = (h : BankHead) → StandsAs b bytes h → ⊥

-- RECORDS

pub record Rec : Type 0 where
  -- the page of its bank where its header stands
  pub at : ℕ
  pub head : RecHead
  pub committed : Bool
  pub payload : List ℕ

-- how many pages of p bytes a record has
abbrev pub pages_of_head : ℕ → RecHead → ℕ
pages_of_head p h = record_pages_of h.length p

-- page q is a record header that lies within the bank with all its record, written as the bank's format says
pub record HasHead (b : Bank) (bytes : List ℕ) (q : ℕ) (h : RecHead) : Type 0 where
  pub format : IsFormat b.format
  pub page : IsRecHead b.format b.page (page_of b bytes q) h
  pub within : q + pages_of_head b.page h ≤ b.pages

-- this record stands at page q: its header, an open header gate, its body, and, exactly where it is committed, an
-- open commit gate
pub record Stands (b : Bank) (bytes : List ℕ) (q : ℕ) (r : Rec) : Type 0 where
  pub place : r.at ≡ q
  pub head : HasHead b bytes q r.head
  pub gate : IsGate b.page (page_of b bytes (q + 1))
  pub commit : IsTrue r.committed ↔ IsGate b.page (page_of b bytes (q + 2 + body_pages_of r.head.length b.page))
  pub payload : r.payload ≡ take r.head.length (pages_from b bytes (q + 2) (body_pages_of r.head.length b.page))

-- no record stands at page q: fewer than three pages remain, or the next one is no open gate, or there is no header
-- of a record that fits
abbrev pub Stops : Bank → List ℕ → ℕ → Type 0
Stops b bytes q = (b.pages < q + 3) ⊎ ((IsGate b.page (page_of b bytes (q + 1)) → ⊥) ⊎ ((h : RecHead) → HasHead b bytes q h → ⊥))

-- these records stand one after another from page q to page e
abbrev pub Walks : Bank → List ℕ → ℕ → List Rec → ℕ → Type 0
Walks b bytes q [] e = q ≡ e
Walks b bytes q (r ∷ rs) e = Stands b bytes q r × Walks b bytes (q + pages_of_head b.page r.head) rs e

-- the record list of a standing bank, and the page of the log's end
pub record IsLog (b : Bank) (bytes : List ℕ) (records : List Rec) (end : ℕ) : Type 0 where
  pub walk : Walks b bytes 2 records end
  pub stop : Stops b bytes end

-- THE SAME, COMPUTED

-- the record of a header at page q
abbrev pub rec_of : Bank → List ℕ → ℕ → RecHead → Rec
rec_of b bytes q h = record {
  at = q;
  head = h;
  committed = is_gate b.page (page_of b bytes (q + 2 + body_pages_of h.length b.page));
  payload = take h.length (pages_from b bytes (q + 2) (body_pages_of h.length b.page));
}

abbrev pub rec_within : Bank → List ℕ → ℕ → Option RecHead → Option Rec
rec_within b bytes q None = None
rec_within b bytes q (Some h) = if nat_le (q + pages_of_head b.page h) b.pages then Some (rec_of b bytes q h) else None

-- the record that stands at page q
abbrev pub record_at : Bank → List ℕ → ℕ → Option Rec
record_at b bytes q =
    if is_format b.format && (nat_le (q + 3) b.pages && is_gate b.page (page_of b bytes (q + 1)))
    then rec_within b bytes q (rec_head_of b.format b.page (page_of b bytes q)) else None

-- a record, if there is one, and those behind it
abbrev pub and_behind : Option Rec → (Rec → List Rec) → List Rec
and_behind None behind = []
and_behind (Some r) behind = r ∷ behind r

-- the records from page q on, at most n
abbrev pub records_from : Bank → List ℕ → ℕ → ℕ → List Rec
records_from b bytes zero q = []
records_from b bytes (suc n) q = and_behind (record_at b bytes q) (λ r. records_from b bytes n (q + pages_of_head b.page r.head))

-- all that stand from page q on
abbrev pub records_left : Bank → List ℕ → ℕ → List Rec
records_left b bytes q = records_from b bytes b.pages q

abbrev pub records_of : Bank → List ℕ → List Rec
records_of b bytes = records_left b bytes 2

-- the page behind these records, the first of which stands at page q
abbrev pub end_after : ℕ → ℕ → List Rec → ℕ
end_after p q [] = q
end_after p q (r ∷ rs) = end_after p (q + pages_of_head p r.head) rs

-- the page of the log's end
abbrev pub end_of : Bank → List ℕ → ℕ
end_of b bytes = end_after b.page 2 (records_of b bytes)

-- THE TAIL

-- the tail, which is all pages from the log's end on, is blank
abbrev pub IsTailBlank : Bank → List ℕ → ℕ → Type 0
IsTailBlank b bytes end = (q : ℕ) → end ≤ q → q < b.pages → page_of b bytes q ≡ blank_page b.page

-- a bank is closed for appending exactly where its tail isn't blank or its format is an old one
abbrev pub IsClosed : Bank → List ℕ → ℕ → Type 0
IsClosed b bytes end = (b.format ≢ new_format) ⊎ (IsTailBlank b bytes end → ⊥)

-- the free pages of a bank of so many: those of the tail, none in a closed bank
abbrev pub free_pages_of : ℕ → ℕ → Bool → ℕ
free_pages_of pages end closed = if closed then 0 else pages - end
