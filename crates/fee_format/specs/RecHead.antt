-- The page that a record begins with.
use Rattle.std.specs.Prelude.{◌≡◌, ℕ, ◌-◌, ◌<◌, ◌^◌, ◌==◌, ◌&&◌, nat_lt, if◌then◌else◌, Bool, List, ◌∷◌, ◌++◌, take, drop, get_or, replicate, Option, Some, None}
use Rattle.std.specs.Int.{w16, w32, bytes_high_first, from_be_bytes}
use Rattle.fee_format.specs.declared.rec_head.RecHead.{RecHead}
use Rattle.fee_format.specs.declared.rec_head.RecordKind.{RecordKind}
use Rattle.fee_format.specs.declared.rec_head.RecordKind.TheVariants.{Content, Invalid, Erased}
use Rattle.fee_format.specs.Formats.{new_format, IsCountIn, is_count_in, count_bytes}
use Rattle.fee_format.specs.Pages.{same_bytes}

-- a content has 1 byte or more, and the mark of an invalidated or erased instance has no body
abbrev pub IsLengthOfKind : RecordKind → ℕ → Type 0
IsLengthOfKind Content length = 0 < length
IsLengthOfKind Invalid length = length ≡ 0
IsLengthOfKind Erased length = length ≡ 0

-- a number that is neither 0 nor 65,535; a length of its kind, of 16 bits; and a count of 32 bits
pub record IsLegalRecHead (h : RecHead) : Type 0 where
  pub number_low : 0 < h.number.0
  pub number_high : h.number.0 < 65535
  pub kind : IsLengthOfKind h.kind h.length
  pub length : h.length < 65536
  pub count : h.count < 2 ^ 32

-- the byte of a kind
abbrev pub kind_byte : RecordKind → ℕ
kind_byte Content = 1
kind_byte Invalid = 2
kind_byte Erased = 3

-- the magic byte, the kind, the number, the length and the count, big-endian, and the rest of the page blank
abbrev pub rec_head_bytes : ℕ → RecHead → List ℕ
rec_head_bytes format h = 0x52 ∷ kind_byte h.kind ∷ (bytes_high_first 2 h.number.0 ++ bytes_high_first 2 h.length ++ count_bytes format h.count)

abbrev pub rec_head_page : ℕ → ℕ → RecHead → List ℕ
rec_head_page format p h = rec_head_bytes format h ++ replicate (p - 10) 255

-- a page of p bytes is the written form of a legal record header, in a bank of a format
pub record IsRecHead (format p : ℕ) (page : List ℕ) (h : RecHead) : Type 0 where
  pub legal : IsLegalRecHead h
  pub counted : IsCountIn format h.count
  pub page_is : page ≡ rec_head_page format p h

-- a page is the written form of no legal record header
abbrev pub IsNoRecHead : ℕ → ℕ → List ℕ → Type 0
IsNoRecHead format p page = (h : RecHead) → IsRecHead format p page h → ⊥

-- THE SAME, COMPUTED

-- the count that a page would have
abbrev pub count_in : ℕ → List ℕ → ℕ
count_in format page = if format == new_format then from_be_bytes w32 (take 4 (drop 6 page)) else 0

-- the kind that a byte would be
abbrev pub kind_in : ℕ → RecordKind
kind_in byte = if byte == 1 then Content else (if byte == 2 then Invalid else Erased)

-- the header that a page would have
abbrev pub rec_head_in : ℕ → List ℕ → RecHead
rec_head_in format page =
    record { number = record { 0 = from_be_bytes w16 (take 2 (drop 2 page)) }; kind = kind_in (get_or page 1 0); length = from_be_bytes w16 (take 2 (drop 4 page)); count = count_in format page }

abbrev pub is_length_of_kind : RecordKind → ℕ → Bool
is_length_of_kind Content length = nat_lt 0 length
is_length_of_kind Invalid length = length == 0
is_length_of_kind Erased length = length == 0

abbrev pub is_legal_rec_head : RecHead → Bool
is_legal_rec_head h =
    nat_lt h.count (2 ^ 32) && ((nat_lt 0 h.number.0 && nat_lt h.number.0 65535)
    && (is_length_of_kind h.kind h.length && nat_lt h.length 65536))

-- the header that a page of p bytes has
abbrev pub rec_head_of : ℕ → ℕ → List ℕ → Option RecHead
rec_head_of format p page =
    if (is_count_in format (rec_head_in format page).count && is_legal_rec_head (rec_head_in format page)) && same_bytes page (rec_head_page format p (rec_head_in format page))
    then Some (rec_head_in format page) else None
