-- Pages of which a torn erase makes no bank head.
use Rattle.std.specs.Prelude.{◌⊎◌, ℕ, ◌-◌, ◌==◌, ◌&&◌, ◌||◌, not, nat_lt, nat_le, Bool, true, List, [], ◌∷◌, length, drop, get_or, is_some, bit_and}
use Rattle.fls_model.specs.Bytes.{Grown}
use Rattle.fee_format.specs.declared.bank_head.BankHead.{BankHead}
use Rattle.fee_format.specs.BankHead.{IsBankHead, IsNoBankHead, bank_head_of}

-- a page that is a bank head
abbrev pub IsSomeBankHead : List ℕ → Type 0
IsSomeBankHead page = (h : BankHead) × IsBankHead (length page) page h

-- a page of which no setting of zero bits to one makes a bank head
abbrev pub GrowsNoBankHead : List ℕ → Type 0
GrowsNoBankHead page = (torn : List ℕ) → Grown page torn → IsNoBankHead (length page) torn

-- a page that may stand before an open gate: a bank head, or one of which a torn erase makes none
abbrev pub IsSoundHead : List ℕ → Type 0
IsSoundHead page = IsSomeBankHead page ⊎ GrowsNoBankHead page

-- THE SAME, COMPUTED

-- a byte has no bits but those of another
abbrev pub is_part : ℕ → ℕ → Bool
is_part x byte = bit_and x byte == x

-- two bytes without a bit in common: more bits can make complements of them
abbrev pub is_apart : ℕ → ℕ → Bool
is_apart x y = (nat_lt x 256 && nat_lt y 256) && (bit_and x y == 0)

abbrev pub are_bytes : List ℕ → Bool
are_bytes [] = true
are_bytes (x ∷ xs) = nat_lt x 256 && are_bytes xs

-- the magic byte and a format, and their complements, lack no bit; the generation and its complement have no bit in
-- common
abbrev pub may_grow_as : ℕ → List ℕ → Bool
may_grow_as format page =
    is_part (get_or page 0 0) 0x42
    && (is_part (get_or page 1 0) format
    && (is_apart (get_or page 2 0) (get_or page 8 0)
    && (is_apart (get_or page 3 0) (get_or page 9 0)
    && (is_apart (get_or page 4 0) (get_or page 10 0)
    && (is_apart (get_or page 5 0) (get_or page 11 0)
    && (is_part (get_or page 6 0) 0xbd
    && is_part (get_or page 7 0) (255 - format)))))))

-- of either format
abbrev pub may_grow : List ℕ → Bool
may_grow page = may_grow_as 1 page || may_grow_as 2 page

-- more bits can make a bank head of a page
abbrev pub grows_bank_head : List ℕ → Bool
grows_bank_head page = nat_le 12 (length page) && (may_grow page && are_bytes (drop 12 page))

abbrev pub is_sound_head : List ℕ → Bool
is_sound_head page = is_some (bank_head_of (length page) page) || not (grows_bank_head page)
