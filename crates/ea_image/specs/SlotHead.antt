-- The page that a slot begins with.
use Rattle.std.specs.Prelude.{◌≡◌, ◌⊎◌, ℕ, ◌-◌, ◌<◌, ◌^◌, ◌==◌, ◌&&◌, ◌||◌, not, nat_lt, if◌then◌else◌, Bool, true, false, List, [], ◌∷◌, ◌++◌, length, take, drop, get_or, replicate, Option, Some, None, is_some, bit_and}
use Rattle.std.specs.Int.{w16, w32, bytes_high_first, from_be_bytes}
use Rattle.fls_model.specs.Bytes.{Grown}
use Rattle.fee_format.specs.declared.rec_head.RecordKind.{RecordKind}
use Rattle.fee_format.specs.declared.rec_head.RecordKind.TheVariants.{Content, Invalid, Erased}
use Rattle.fee_format.specs.RecHead.{IsLengthOfKind, is_length_of_kind, kind_byte, kind_in}
use Rattle.fee_format.specs.Guard.{complements, guarded}
use Rattle.fee_format.specs.Pages.{same_bytes}
use Rattle.ea_image.specs.declared.slot_head.SlotHead.{SlotHead}

-- a length of its kind, of 16 bits, and a sequence of 32 bits
pub record IsLegalSlotHead (h : SlotHead) : Type 0 where
  pub kind : IsLengthOfKind h.kind h.length
  pub length : h.length < 65536
  pub sequence : h.sequence < 2 ^ 32

-- the magic byte, the kind, the length and the sequence, big-endian
abbrev pub slot_head_bytes : SlotHead → List ℕ
slot_head_bytes h = 0x45 ∷ kind_byte h.kind ∷ (bytes_high_first 2 h.length ++ bytes_high_first 4 h.sequence)

-- these bytes and the complements of them, and the rest of the page blank
abbrev pub slot_head_page : ℕ → SlotHead → List ℕ
slot_head_page p h = guarded (slot_head_bytes h) ++ replicate (p - 16) 255

-- a page of p bytes is the written form of a legal head
pub record IsSlotHead (p : ℕ) (page : List ℕ) (h : SlotHead) : Type 0 where
  pub legal : IsLegalSlotHead h
  pub page_is : page ≡ slot_head_page p h

-- a page is the written form of no legal head
abbrev pub IsNoSlotHead : ℕ → List ℕ → Type 0
IsNoSlotHead p page = (h : SlotHead) → IsSlotHead p page h → ⊥

-- THE SAME, COMPUTED
-- the head that a page would have
abbrev pub slot_head_in : List ℕ → SlotHead
slot_head_in page = record { kind = kind_in (get_or page 1 0); length = from_be_bytes w16 (take 2 (drop 2 page)); sequence = from_be_bytes w32 (take 4 (drop 4 page)) }

abbrev pub is_legal_slot_head : SlotHead → Bool
is_legal_slot_head h = nat_lt h.sequence (2 ^ 32) && (is_length_of_kind h.kind h.length && nat_lt h.length 65536)

-- the head that a page of p bytes has
abbrev pub slot_head_of : ℕ → List ℕ → Option SlotHead
slot_head_of p page = if is_legal_slot_head (slot_head_in page) && same_bytes page (slot_head_page p (slot_head_in page)) then Some (slot_head_in page) else None

-- PAGES THAT MAY STAND BEFORE AN OPEN GATE
-- a page that is a head
abbrev pub IsSomeSlotHead : List ℕ → Type 0
IsSomeSlotHead page = (h : SlotHead) × IsSlotHead (length page) page h

-- a page of which no setting of zero bits to one makes a head
abbrev pub GrowsNoSlotHead : List ℕ → Type 0
GrowsNoSlotHead page = (torn : List ℕ) → Grown page torn → IsNoSlotHead (length page) torn

-- a head, or a page of which a torn erase makes none
abbrev pub IsSoundSlotHead : List ℕ → Type 0
IsSoundSlotHead page = IsSomeSlotHead page ⊎ GrowsNoSlotHead page

-- THE SAME, COMPUTED
-- more bits make one page of another
abbrev pub is_grown : List ℕ → List ℕ → Bool
is_grown [] [] = true
is_grown (x ∷ xs) (y ∷ ys) = (bit_and x y == x) && is_grown xs ys
is_grown _ _ = false

-- the greatest length that a page leaves room for beside the complements that it has; a mark without content has none
abbrev pub greatest_length : RecordKind → List ℕ → ℕ
greatest_length Content page = from_be_bytes w16 (complements (take 2 (drop 10 page)))
greatest_length Invalid page = 0
greatest_length Erased page = 0

-- the greatest head of a kind that a page leaves room for: where more bits make any, they make this one
abbrev pub greatest_head : RecordKind → List ℕ → SlotHead
greatest_head kind page = record { kind = kind; length = greatest_length kind page; sequence = from_be_bytes w32 (complements (take 4 (drop 12 page))) }

abbrev pub grows_as : RecordKind → List ℕ → Bool
grows_as kind page = is_legal_slot_head (greatest_head kind page) && is_grown page (slot_head_page (length page) (greatest_head kind page))

abbrev pub grows_slot_head : List ℕ → Bool
grows_slot_head page = grows_as Content page || (grows_as Invalid page || grows_as Erased page)

abbrev pub is_sound_slot_head : List ℕ → Bool
is_sound_slot_head page = is_some (slot_head_of (length page) page) || not (grows_slot_head page)
