-- What is told of a device by the changing operations of its flash: what a start-up would find, where the power went
-- off, where it was worn out. A device says in its own contract which of this it tells; the laws here hold of any.
use Rattle.std.specs.Prelude.{◌≡◌, ◌⊎◌, ◌↔◌, ◌<◌, ◌≤◌, ℕ, Bool, true, List, Option, Some, None}
use Rattle.memif.specs.declared.answer.DeviceTurn.{DeviceTurn}
use Rattle.memif.specs.declared.answer.DeviceTurn.TheVariants.{Off}
use Rattle.memif.specs.Told.{DeviceTold, Slot, Held, Part, Second, part_at, slot_at, is_urgent}
use Rattle.memif.specs.Marks.{IsPossible}
use Rattle.nv_base.specs.Count.{last_count, Rose}

-- what is told of an operation by itself
pub data Trait : Type 0 where
  -- it left a switch at its seal: it programmed the head of a bank, or left the gate of one in doubt
  Seals : Trait
  -- it took a page of those that are kept for urgent writes
  TakesKept : Trait

-- a moment: once so many operations were made, or a power cut before or within an operation, numbered from 0
pub data When : Type 0 where
  After : (operations : ℕ) → When
  CutIn : (operation : ℕ) → When

-- a moment is counted by the operations of both parts
pub record Clock : Type 1 where
  -- the maps, from the numbers to what they hold, that a start-up may find then
  pub may_find : When → (ℕ → Held) → Type 0
  -- the power went off in this operation
  pub off_in : ℕ → Type 0
  -- this operation failed
  pub failed : ℕ → Type 0
  -- once so many operations were made, it is worn out for this number: for its urgent jobs, or for its others
  pub worn : (operations number : ℕ) → (urgent : Bool) → Type 0
  -- this operation was one of the second part
  pub of_second : ℕ → Type 0
  -- once so many operations were made, so many pages were free in the active bank
  pub spare : (operations pages : ℕ) → Type 0
  -- this operation was such a one
  pub was : Trait → (operation : ℕ) → Type 0

-- nothing is told: no map, no cut, no failure, never worn, no second part, no free page, and no trait
abbrev pub untold : Clock
untold = record { may_find = λ w m. ⊥; off_in = λ k. ⊥; failed = λ k. ⊥; worn = λ k n urgent. ⊥; of_second = λ k. ⊥; spare = λ k s. ⊥; was = λ t k. ⊥ }

-- WHAT STAYS

pub record SameClock (old new : Clock) : Type 0 where
  pub may_find : (w : When) (m : ℕ → Held) → new.may_find w m ↔ old.may_find w m
  pub off_in : (k : ℕ) → new.off_in k ↔ old.off_in k
  pub failed : (k : ℕ) → new.failed k ↔ old.failed k
  pub worn : (k n : ℕ) (urgent : Bool) → new.worn k n urgent ↔ old.worn k n urgent
  pub of_second : (k : ℕ) → new.of_second k ↔ old.of_second k
  pub spare : (k s : ℕ) → new.spare k s ↔ old.spare k s
  pub was : (t : Trait) (k : ℕ) → new.was t k ↔ old.was t k

-- behind so many operations: what was told of them gets no map, no free page and no trait more, where it was worn it stays
-- so, and which of them failed and the parts that they were of stay
pub record Past (ops : ℕ) (old new : Clock) : Type 0 where
  pub after : (k : ℕ) (m : ℕ → Held) → k ≤ ops → new.may_find (After k) m → old.may_find (After k) m
  pub cut : (k : ℕ) (m : ℕ → Held) → k < ops → new.may_find (CutIn k) m → old.may_find (CutIn k) m
  pub failed : (k : ℕ) → k < ops → new.failed k ↔ old.failed k
  pub worn : (k n : ℕ) (urgent : Bool) → k ≤ ops → old.worn k n urgent → new.worn k n urgent
  pub of_second : (k : ℕ) → k < ops → new.of_second k ↔ old.of_second k
  pub spare : (k s : ℕ) → k ≤ ops → new.spare k s → old.spare k s
  pub was : (t : Trait) (k : ℕ) → k < ops → new.was t k → old.was t k

-- the power goes off only in an operation of a turn that says so
abbrev pub GoesOff : DeviceTurn → ℕ → ℕ → ℕ → Type 0
GoesOff Off ops ops_new k = (k ≡ ops) × (k < ops_new)
GoesOff answer ops ops_new k = ⊥

-- WHAT IS FOUND

-- each number has in a map what it may hold: what is settled, or a doubt
abbrev pub ArePossible : DeviceTold → Option (List Slot) → (ℕ → Held) → Type 0
ArePossible d (Some slots) m = (n : ℕ) → IsPossible (slot_at d.fixed.numbers slots n) (m n)
ArePossible d None m = Unit {0}

-- so it is of each map that a start-up would find now
abbrev pub FindsNow : DeviceTold → Clock → Type 0
FindsNow d c = (m : ℕ → Held) → c.may_find (After d.ops) m → ArePossible d d.slots m

-- A TURN ON A PART

pub record Ticks (p : Part) (answer : DeviceTurn) (old : DeviceTold) (clock : Clock) (new : DeviceTold) (clock_new : Clock) : Type 0 where
  pub past : Past old.ops clock clock_new
  -- what a cut in this turn may leave was possible before it
  pub cut : (k : ℕ) (m : ℕ → Held) → old.ops ≤ k → k < new.ops → clock_new.may_find (CutIn k) m → ArePossible old old.slots m
  -- the power went off in an operation that was made before, or that this turn made; past the end of the count it isn't known
  pub off : (k : ℕ) → clock_new.off_in k → (clock.off_in k × ((k < old.ops) ⊎ (last_count ≤ k))) ⊎ GoesOff answer old.ops new.ops k
  -- an operation of this turn that failed was counted in it
  pub failed : (k : ℕ) → old.ops ≤ k → k < new.ops → clock_new.failed k → Rose (part_at p old).faults (part_at p new).faults
  -- and it is one of its part
  pub part : (k : ℕ) → old.ops ≤ k → k < new.ops → clock_new.of_second k ↔ (p ≡ Second)
  -- a page that is kept for urgent writes is taken by an urgent job alone
  pub kept : (k : ℕ) → old.ops ≤ k → k < new.ops → clock_new.was TakesKept k → is_urgent old.stand ≡ true
