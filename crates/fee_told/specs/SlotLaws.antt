-- Laws of what a device over banks tells.
use Rattle.std.specs.Prelude.{◌≡◌, ◌⊎◌, ◌==◌, ◌<◌, ◌≤◌, ℕ, false, IsTrue, List, [], length, Option, Some, None}
use Rattle.nv_base.specs.declared.instance.DeviceNumber.{DeviceNumber}
use Rattle.nv_base.specs.declared.mark.Mark.{Mark}
use Rattle.nv_base.specs.declared.geometry.Geometry.{Geometry}
use Rattle.nv_base.specs.Geometry.{IsLegal, HasBanks, sectors_of_bank}
use Rattle.nv_base.specs.Lengths.{AreLengths}
use Rattle.memif.specs.Told.{more_writes, Slot, Job, Stand, Open, is_open, slot_at, length_of, IfElse}
use Rattle.memif.specs.Marks.{IsPossible, Keeps, Doubts, SettlesAs, ComesFrom}
use Rattle.fls_model.specs.Op.{MayLeave}
use Rattle.fee_format.specs.declared.bank_head.BankHead.{BankHead}
use Rattle.fee_format.specs.declared.rec_head.RecHead.{RecHead}
use Rattle.fee_image.specs.Found.{fits}
use Rattle.fee_image.specs.Image.{Layout, IsLegalLayout, layout_of}
use Rattle.fee_image.specs.Log.{Log}
use Rattle.fee_image.specs.Places.{noted}
use Rattle.fee_image.specs.May.{May, IsWider, settling, held_written}
use Rattle.fee_image.specs.Banks.{Old, NoBank, OldBank, Banks, Holds}
use Rattle.fee_image.specs.BankLaws.{found_alone, program_of, erase_of}
use Rattle.fee_told.specs.Slots.{Memory, banks_with, writes_in, HasJob, slots_held, slots_found, settled_in, settled_at, held_of, may_of, may_told}
use Rattle.fee_told.specs.Slots.{AreCopied, IsCopied}

-- WHAT IS TOLD HOLDS
-- the bytes hold the banks, with no more that may be found than is told
pub record IsHeld (l : Layout) (numbers : List (DeviceNumber × ℕ)) (bytes : List ℕ) (m : Memory) (copied : May) : Type 0 where
  pub banks : Holds l numbers bytes (banks_with m (may_told l numbers bytes m) copied)
  pub job : HasJob numbers m.stand m.old
  pub seal : IsCopied l numbers bytes m.phase m.old copied

-- whatever was known of what may be found, what is told is all of it
abbrev pub HeldAnew : Type 0
HeldAnew =
    (l : Layout) (numbers : List (DeviceNumber × ℕ)) (bytes : List ℕ) (m : Memory) (may copied : May)
    → AreLengths 0 numbers → Holds l numbers bytes (banks_with m may copied) → HasJob numbers m.stand m.old
    → IsCopied l numbers bytes m.phase m.old copied
    → IsHeld l numbers bytes m copied

-- what a start-up would find in an image is possible, where the image holds banks of which no more may be found
abbrev pub ImagesFind : Type 0
ImagesFind =
    (l : Layout) (numbers : List (DeviceNumber × ℕ)) (slots : List Slot) (image : List ℕ) (s : Banks)
    → IsLegalLayout l → Holds l numbers image s → IsWider s.may (may_of numbers slots)
    → (n : ℕ) → IsPossible (slot_at numbers slots n) (held_of l numbers image n)

-- a target that shows the settled marks alone shows nothing but what is told
abbrev pub CopiesAreTold : Type 0
CopiesAreTold =
    (l : Layout) (numbers : List (DeviceNumber × ℕ)) (bytes : List ℕ) (m : Memory) (copied before : May)
    → IsHeld l numbers bytes m before → AreCopied l numbers bytes m.old copied → IsWider copied (may_told l numbers bytes m)

-- WHAT A STEP MAKES OF IT
-- no other job is open than before
abbrev pub GoesOn : Stand → Stand → Type 0
GoesOn old new = (new ≡ old) ⊎ (is_open new ≡ false)

-- a step behind which no more may be found, and which left each place what it showed
abbrev pub StepsKeep : Type 0
StepsKeep =
    (l : Layout) (numbers : List (DeviceNumber × ℕ)) (old new : List ℕ) (m t : Memory) (copied : May)
    → Holds l numbers new (banks_with t (may_told l numbers old m) copied)
    → settled_in l numbers new t.old ≡ settled_in l numbers old m.old → GoesOn m.stand t.stand
    → (n : ℕ) → Keeps (slot_at numbers (slots_held l numbers old m) n) (slot_at numbers (slots_held l numbers new t) n)

-- a step that commits a record: its mark alone may be found for its number, which is settled, and the others stay
abbrev pub StepsSettle : Type 0
StepsSettle =
    (l : Layout) (numbers : List (DeviceNumber × ℕ)) (old new : List ℕ) (m t : Memory) (before copied : May) (h : RecHead) (body : List ℕ) (size : ℕ)
    → IsHeld l numbers old m before
    → Holds l numbers new (banks_with t (settling (may_told l numbers old m) h body) copied) → is_open t.stand ≡ false
    → length_of numbers h.number.0 ≡ Some size → IsTrue (fits h.number.0 size h) → h.count ≡ more_writes 1 (writes_in numbers m.old h.number.0)
    → ((n : ℕ) → (n ≡ h.number.0 → ⊥) → settled_at l numbers new t.old n ≡ settled_at l numbers old m.old n)
    → (n : ℕ) → IfElse (n == h.number.0)
    (SettlesAs (held_written h body).mark (slot_at numbers (slots_held l numbers old m) n) (slot_at numbers (slots_held l numbers new t) n))
    (Keeps (slot_at numbers (slots_held l numbers old m) n) (slot_at numbers (slots_held l numbers new t) n))

-- a step behind which nothing but the settled marks may be found: a target comes to stand
abbrev pub StepsSeal : Type 0
StepsSeal =
    (l : Layout) (numbers : List (DeviceNumber × ℕ)) (old new : List ℕ) (m t : Memory) (before may copied : May)
    → IsHeld l numbers old m before → Holds l numbers new (banks_with t may copied)
    → AreCopied l numbers old m.old may → GoesOn m.stand t.stand
    → (n : ℕ) → Keeps (slot_at numbers (slots_held l numbers old m) n) (slot_at numbers (slots_held l numbers new t) n)

-- IN MEMORY ALONE
-- the old bank is the same, with the same places
abbrev pub SamePlaces : Old → Old → Type 0
SamePlaces NoBank NoBank = Unit {0}
SamePlaces (OldBank k h log) (OldBank j i next) = (j ≡ k) × (i ≡ h) × (next.places ≡ log.places)
SamePlaces old new = ⊥

-- what is told depends on the places and the open job alone
abbrev pub PlacesTell : Type 0
PlacesTell =
    (l : Layout) (numbers : List (DeviceNumber × ℕ)) (bytes : List ℕ) (m t : Memory)
    → SamePlaces m.old t.old → t.stand ≡ m.stand → slots_held l numbers bytes t ≡ slots_held l numbers bytes m

-- a job ends, or goes on
abbrev pub JobsKeep : Type 0
JobsKeep =
    (l : Layout) (numbers : List (DeviceNumber × ℕ)) (bytes : List ℕ) (m t : Memory) (copied : May)
    → IsHeld l numbers bytes m copied → SamePlaces m.old t.old → GoesOn m.stand t.stand
    → (n : ℕ)
    → Keeps (slot_at numbers (slots_held l numbers bytes m) n) (slot_at numbers (slots_held l numbers bytes t) n)

-- a job opens: a read changes nothing, any other may leave its mark
abbrev pub Opened : Job → ℕ → Slot → Slot → Option Mark → Type 0
Opened j n s t None = Keeps s t
Opened j n s t (Some mark) = IfElse (n == j.number) (Doubts mark s t) (Keeps s t)

abbrev pub JobsOpen : Type 0
JobsOpen =
    (l : Layout) (numbers : List (DeviceNumber × ℕ)) (bytes : List ℕ) (m t : Memory) (copied : May) (j : Job) (size : ℕ)
    → IsHeld l numbers bytes m copied → SamePlaces m.old t.old → is_open m.stand ≡ false → t.stand ≡ Open j
    → length_of numbers j.number ≡ Some size
    → (n : ℕ)
    → Opened j n (slot_at numbers (slots_held l numbers bytes m) n) (slot_at numbers (slots_held l numbers bytes t) n) j.mark

-- A START-UP
-- whatever was told before, what is found now is settled, and no doubt is left
pub record IsStarted (old new : Slot) : Type 0 where
  pub comes_from : ComesFrom old new
  pub clear : new.doubts ≡ []

abbrev pub StartsFind : Type 0
StartsFind =
    (l : Layout) (numbers : List (DeviceNumber × ℕ)) (bytes : List ℕ) (slots : List Slot) (t : Memory) (copied : May)
    → ((n : ℕ) → IsPossible (slot_at numbers slots n) (held_of l numbers bytes n))
    → Holds l numbers bytes (banks_with t (found_alone l bytes) copied) → is_open t.stand ≡ false
    → (n : ℕ) → IsStarted (slot_at numbers slots n) (slot_at numbers (slots_held l numbers bytes t) n)

-- so too of a device that isn't started
abbrev pub UnstartedFind : Type 0
UnstartedFind =
    (l : Layout) (numbers : List (DeviceNumber × ℕ)) (bytes : List ℕ) (slots : List Slot)
    → ((n : ℕ) → IsPossible (slot_at numbers slots n) (held_of l numbers bytes n))
    → (n : ℕ) → IsStarted (slot_at numbers slots n) (slot_at numbers (slots_found l numbers bytes) n)

-- which tells what a start-up finds now
abbrev pub UnstartedIsFound : Type 0
UnstartedIsFound =
    (l : Layout) (numbers : List (DeviceNumber × ℕ)) (bytes : List ℕ) (n : ℕ)
    → IsPossible (slot_at numbers (slots_found l numbers bytes) n) (held_of l numbers bytes n)

-- PLACES
-- a program doesn't reach what the old bank's places show
abbrev pub IsBehindLog : Old → ℕ → ℕ → Type 0
IsBehindLog NoBank j q = Unit {0}
IsBehindLog (OldBank k h log) j q = j ≡ k → log.end ≤ q

-- a page of an append, or of the target, whatever is left of it
abbrev pub ProgramsKeepSettled : Type 0
ProgramsKeepSettled =
    (l : Layout) (numbers : List (DeviceNumber × ℕ)) (old new page : List ℕ) (s : Banks) (j q : ℕ) (next : Old)
    → IsLegalLayout l → Holds l numbers old s → length page ≡ l.page → q < l.pages
    → MayLeave (program_of l j q page) old new → IsBehindLog s.old j q → SamePlaces s.old next
    → settled_in l numbers new next ≡ settled_in l numbers old s.old

-- a sector of the target
abbrev pub ErasesKeepSettled : Type 0
ErasesKeepSettled =
    (g : Geometry) (banks : ℕ) (numbers : List (DeviceNumber × ℕ)) (old new : List ℕ) (s : Banks) (sector : ℕ) (next : Old)
    → IsLegal g → HasBanks g banks → Holds (layout_of g banks) numbers old s → sector < sectors_of_bank g banks
    → MayLeave (erase_of g banks s.target sector) old new → SamePlaces s.old next
    → settled_in (layout_of g banks) numbers new next ≡ settled_in (layout_of g banks) numbers old s.old

-- a commit gives its own number a place, and no other
abbrev pub CommitsKeepOthers : Type 0
CommitsKeepOthers =
    (l : Layout) (numbers : List (DeviceNumber × ℕ)) (old new page : List ℕ) (s : Banks) (k q : ℕ) (h : BankHead) (log next : Log) (r : RecHead)
    → IsLegalLayout l → Holds l numbers old s → s.old ≡ OldBank k h log → length page ≡ l.page → q < l.pages
    → log.end ≤ q → MayLeave (program_of l k q page) old new
    → next.places ≡ noted numbers log.places log.end r
    → (n : ℕ) → (n ≡ r.number.0 → ⊥) → settled_at l numbers new (OldBank k h next) n ≡ settled_at l numbers old s.old n
