-- The bytes of the whole flash: its banks, the active one, and the marks that a start-up finds.
use Rattle.std.specs.Prelude.{◌≡◌, ◌⊎◌, ◌<◌, ◌≤◌, ◌*◌, nat_lt, if◌then◌else◌, ℕ, zero, suc, List, [], ◌∷◌, Option, Some, None}
use Rattle.nv_base.specs.declared.geometry.Geometry.{Geometry}
use Rattle.nv_base.specs.declared.instance.DeviceNumber.{DeviceNumber}
use Rattle.nv_base.specs.declared.instance.Instance.{Instance}
use Rattle.nv_base.specs.declared.mark.Mark.{Mark}
use Rattle.nv_base.specs.Geometry.{pages_of_bank}
use Rattle.nv_base.specs.Marks.{instance_of, listed}
use Rattle.fee_format.specs.declared.bank_head.BankHead.{BankHead}
use Rattle.fee_format.specs.BankHead.{bank_head_of}
use Rattle.fee_format.specs.Gate.{is_gate}
use Rattle.fee_image.specs.Bank.{Bank, page_of}
use Rattle.fee_image.specs.RecordList.{StandsAs}
use Rattle.fee_image.specs.Found.{IsFound, shown_in}
use Rattle.nv_base.specs.Held.{Held, never_written}

-- BANKS

-- how an image is cut into banks, one behind another
pub record Layout : Type 0 where
  -- bytes of a page
  pub page : ℕ
  -- pages of each bank
  pub pages : ℕ
  -- how many banks
  pub banks : ℕ

-- a bank has room for its head and its gate, and there are two to eight banks
pub record IsLegalLayout (l : Layout) : Type 0 where
  pub page : 16 ≤ l.page
  pub pages : 2 ≤ l.pages
  pub banks_low : 2 ≤ l.banks
  pub banks_high : l.banks ≤ 8

-- a flash that so many banks share equally
abbrev pub layout_of : Geometry → ℕ → Layout
layout_of g banks = record { page = g.page; pages = pages_of_bank g banks; banks = banks }

-- bank k, with records of this format
abbrev pub bank_in : Layout → ℕ → ℕ → Bank
bank_in l format k = record { page = l.page; pages = l.pages; format = format; at = k * l.pages }

-- what stands on page q of bank k
abbrev pub image_page : Layout → List ℕ → ℕ → ℕ → List ℕ
image_page l bytes k = page_of (bank_in l 1 k) bytes

-- bank k stands with this head
abbrev pub BankStands : Layout → List ℕ → ℕ → BankHead → Type 0
BankStands l bytes k h = StandsAs (bank_in l h.format k) bytes h

-- THE ACTIVE BANK

-- bank k with its head comes before bank j with this one: by a greater generation, and on a tie by the lesser number
abbrev pub ComesFirst : ℕ → BankHead → ℕ → BankHead → Type 0
ComesFirst k h j other = (other.generation < h.generation) ⊎ ((other.generation ≡ h.generation) × (k < j))

-- bank k is active: it stands, and comes before every other one that stands too
pub record IsActive (l : Layout) (bytes : List ℕ) (k : ℕ) (h : BankHead) : Type 0 where
  pub bank : k < l.banks
  pub stands : BankStands l bytes k h
  pub first : (j : ℕ) (other : BankHead) → j < l.banks → (j ≡ k → ⊥) → BankStands l bytes j other → ComesFirst k h j other

-- no bank is active, since none stands
abbrev pub HasNoActive : Layout → List ℕ → Type 0
HasNoActive l bytes = (k : ℕ) (h : BankHead) → k < l.banks → BankStands l bytes k h → ⊥

-- THE FOUND MAP

-- what a start-up finds for a number of this length: what the active bank holds, nothing where none is active
abbrev pub IsFoundIn : Layout → List ℕ → ℕ → ℕ → Held → Type 0
IsFoundIn l bytes number length held =
    ((k : ℕ) × (h : BankHead) × IsActive l bytes k h × IsFound (bank_in l h.format k) bytes number length held)
    ⊎ (HasNoActive l bytes × (held ≡ never_written))

-- these marks are what a start-up finds for these numbers with their lengths, one after another
abbrev pub AreFound : Layout → List (DeviceNumber × ℕ) → List ℕ → List (Instance × Mark) → Type 0
AreFound l [] bytes marks = marks ≡ []
AreFound l (x ∷ xs) bytes marks =
    (held : Held) × (rest : List (Instance × Mark)) × IsFoundIn l bytes x.0.0 x.1 held × AreFound l xs bytes rest × (marks ≡ listed (instance_of x.0) held.mark rest)

-- THE SAME, COMPUTED

-- the head with which bank k stands
abbrev pub head_of_bank : Layout → List ℕ → ℕ → Option BankHead
head_of_bank l bytes k = if is_gate l.page (image_page l bytes k 1) then bank_head_of l.page (image_page l bytes k 0) else None

-- the first of the banks before k, and bank k with this head
abbrev pub first_with : Option (ℕ × BankHead) → ℕ → BankHead → Option (ℕ × BankHead)
first_with None k h = Some (k, h)
first_with (Some x) k h = if nat_lt x.1.generation h.generation then Some (k, h) else Some x

abbrev pub first_of : Option (ℕ × BankHead) → ℕ → Option BankHead → Option (ℕ × BankHead)
first_of first k None = first
first_of first k (Some h) = first_with first k h

-- the bank that comes first of the n first ones
abbrev pub active_below : Layout → List ℕ → ℕ → Option (ℕ × BankHead)
active_below l bytes zero = None
active_below l bytes (suc k) = first_of (active_below l bytes k) k (head_of_bank l bytes k)

-- the active bank with its head
abbrev pub active_of : Layout → List ℕ → Option (ℕ × BankHead)
active_of l bytes = active_below l bytes l.banks

abbrev pub held_of_bank : Layout → List ℕ → ℕ → ℕ → Option (ℕ × BankHead) → Held
held_of_bank l bytes number length None = never_written
held_of_bank l bytes number length (Some x) = shown_in (bank_in l x.1.format x.0) bytes number length

-- what a start-up finds for a number of this length, and its mark
abbrev pub found_held : Layout → List ℕ → ℕ → ℕ → Held
found_held l bytes number length = held_of_bank l bytes number length (active_of l bytes)

abbrev pub found_mark : Layout → List ℕ → ℕ → ℕ → Mark
found_mark l bytes number length = (found_held l bytes number length).mark

-- and for these numbers with their lengths, one after another
abbrev pub found_list : Layout → List (DeviceNumber × ℕ) → List ℕ → List (Instance × Mark)
found_list l [] bytes = []
found_list l (x ∷ xs) bytes = listed (instance_of x.0) (found_mark l bytes x.0.0 x.1) (found_list l xs bytes)
