-- Which numbers are copied, and why the copies have room.
use Rattle.std.specs.Prelude.{◌≡◌, ◌⊎◌, ◌<◌, ◌≤◌, ◌+◌, ◌-◌, ◌==◌, ◌&&◌, ◌||◌, not, if◌then◌else◌, Bool, true, false, ℕ, IsTrue, List, [], ◌∷◌, map, Option, Some, None}
use Rattle.nv_base.specs.Pages.{record_pages_of}
use Rattle.fee_format.specs.declared.rec_head.RecHead.{RecHead}
use Rattle.fee_image.specs.Found.{fits}
use Rattle.nv_base.specs.Held.{Held, never_written}
use Rattle.fee_image.specs.May.{May, IsAmong, IsWider, held_written, settling}

-- one for each configured number, in their order
pub record Flag : Type 0 where
  pub number : ℕ
  pub length : ℕ
  -- the target has a copy of what is settled
  pub copied : Bool
  -- there is a record of it
  pub written : Bool
  pub settled : Held

-- no copy is left to make
abbrev pub is_done : Flag → Bool
is_done f = f.copied || not f.written

-- without a record nothing was ever written
abbrev pub shown_by : Flag → Held
shown_by f = if f.written then f.settled else never_written

-- a fact of each number with its length, and none of others
abbrev pub by_flag : (Flag → Option (List Held)) → List Flag → May
by_flag P [] number length = None
by_flag P (f ∷ fs) number length = if (f.number == number) && (f.length == length) then P f else by_flag P fs number length

-- the target shows the settled mark alone where no copy is left to make, and anything of others
abbrev pub copied_of : List Flag → May
copied_of fs = by_flag (λ f. if is_done f then Some (shown_by f ∷ []) else None) fs

-- the settled mark may be found, or one of the doubts
abbrev pub may_of : List Flag → (ℕ → List Held) → May
may_of fs doubts = by_flag (λ f. Some (shown_by f ∷ doubts f.number)) fs

-- CHANGES
abbrev pub at_number : ℕ → (Flag → Flag) → List Flag → List Flag
at_number number change fs = map (λ f. if f.number == number then change f else f) fs

-- an append clears the flag of its number, a commit settles its mark, and a copy's commit sets its flag
abbrev pub cleared : ℕ → List Flag → List Flag
cleared number fs = at_number number (λ f. record f { copied = false }) fs

abbrev pub settled_at : ℕ → Held → List Flag → List Flag
settled_at number m fs = at_number number (λ f. record f { written = true; settled = m }) fs

abbrev pub marked : ℕ → List Flag → List Flag
marked number fs = at_number number (λ f. record f { copied = true }) fs

-- each flag has this
abbrev pub Each : (Flag → Type 0) → List Flag → Type 0
Each P [] = Unit {0}
Each P (f ∷ fs) = P f × Each P fs

-- where no copy is left, the target shows nothing but what may be found
abbrev pub DoneIsWhole : Type 0
DoneIsWhole = (fs : List Flag) (doubts : ℕ → List Held) → Each (λ f. IsTrue (is_done f)) fs → IsWider (copied_of fs) (may_of fs doubts)

-- an erased bank may be a target of which nothing is copied
abbrev pub ClearMayBeErased : Type 0
ClearMayBeErased = (fs : List Flag) → Each (λ f. f.copied ≡ false) fs → (number length : ℕ) → IsAmong (copied_of fs number length) never_written

abbrev pub ClearingWidens : Type 0
ClearingWidens = (fs : List Flag) (number : ℕ) → IsWider (copied_of fs) (copied_of (cleared number fs))

-- of a number whose flag is clear the target may show anything, whatever is settled
abbrev pub SettlingWidens : Type 0
SettlingWidens =
    (fs : List Flag) (number : ℕ) (m : Held) → IsWider (copied_of (cleared number fs)) (copied_of (settled_at number m (cleared number fs)))

-- a record copies the settled mark of its number
abbrev pub Copies : RecHead → List ℕ → Flag → Type 0
Copies h body f = IsTrue (f.number == h.number.0) → IsTrue (fits f.number f.length h) × (f.written ≡ true) × (f.settled ≡ held_written h body)

abbrev pub MarkingHolds : Type 0
MarkingHolds = (fs : List Flag) (h : RecHead) (body : List ℕ) → Each (Copies h body) fs → IsWider (settling (copied_of fs) h body) (copied_of (marked h.number.0 fs))

-- ROOM
-- the pages of all numbers whose flag is clear, with a record or not: an urgent write may come
abbrev pub need : ℕ → List Flag → ℕ
need p [] = 0
need p (f ∷ fs) = (if f.copied then 0 else record_pages_of f.length p) + need p fs

-- numbers that ascend
abbrev pub AreFlags : ℕ → List Flag → Type 0
AreFlags low [] = Unit {0}
AreFlags low (f ∷ fs) = (low < f.number) × AreFlags f.number fs

-- the target's log, the copies to come and the old bank's free pages are together at most a bank
abbrev pub HasRoom : ℕ → ℕ → ℕ → ℕ → List Flag → Type 0
HasRoom p pages end free fs = end + need p fs + free ≤ pages

-- an urgent append takes as much of the old bank as it may add to the copies
abbrev pub AppendsKeepRoom : Type 0
AppendsKeepRoom =
    (p pages end free low number length : ℕ) (fs : List Flag)
    → AreFlags low fs → Each (λ f. f.number ≡ number → f.length ≡ length) fs → HasRoom p pages end free fs → record_pages_of length p ≤ free
    → HasRoom p pages end (free - record_pages_of length p) (cleared number fs)

-- a copy of a number whose flag is clear has room, and none is needed for it behind it
abbrev pub IsClearOf : ℕ → ℕ → List Flag → Type 0
IsClearOf number length [] = ⊥
IsClearOf number length (f ∷ fs) = ((f.number ≡ number) × (f.length ≡ length) × (f.copied ≡ false)) ⊎ IsClearOf number length fs

abbrev pub CopiesHaveRoom : Type 0
CopiesHaveRoom =
    (p pages end free number length : ℕ) (fs : List Flag) → IsClearOf number length fs → HasRoom p pages end free fs
    → (end + record_pages_of length p ≤ pages) × HasRoom p pages (end + record_pages_of length p) free (marked number fs)
