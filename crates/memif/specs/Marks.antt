-- How what the numbers hold changes.
use Rattle.std.specs.Prelude.{◌≡◌, ◌⊎◌, ◌==◌, ℕ, List, [], Option, Some, None}
use Rattle.std.specs.List.{Contains}
use Rattle.nv_base.specs.declared.mark.Mark.{Mark}
use Rattle.memif.specs.Told.{DeviceTold, Slot, Held, held_next, slot_at, IfElse}

-- a start-up may find this
abbrev pub IsPossible : Slot → Held → Type 0
IsPossible s h = (h ≡ s.settled) ⊎ Contains s.doubts h

-- ONE NUMBER
-- what is settled stays, and there is no new doubt
pub record Keeps (old new : Slot) : Type 0 where
  pub settled : new.settled ≡ old.settled
  pub doubts : (h : Held) → Contains new.doubts h → Contains old.doubts h

-- what is settled stays, and a job that was accepted may leave this mark: a doubt more
pub record Doubts (mark : Mark) (old new : Slot) : Type 0 where
  pub settled : new.settled ≡ old.settled
  pub doubts : (h : Held) → Contains new.doubts h → Contains old.doubts h ⊎ (h ≡ held_next mark old.settled)
  pub taken : Contains new.doubts (held_next mark old.settled)

-- to settle a mark: it is the settled one, and no doubt is left
pub record SettlesAs (mark : Mark) (old new : Slot) : Type 0 where
  pub settled : new.settled ≡ held_next mark old.settled
  pub doubts : new.doubts ≡ []

-- what it holds and what it may hold were possible before
pub record ComesFrom (old new : Slot) : Type 0 where
  pub settled : IsPossible old new.settled
  pub doubts : (h : Held) → Contains new.doubts h → IsPossible old h

-- ALL NUMBERS
-- a fact on the slots before and after, where they are told after a call; then they were before it
abbrev pub IfTold : Option (List Slot) → Option (List Slot) → (List Slot → List Slot → Type 0) → Type 0
IfTold old None P = Unit {0}
IfTold None (Some new) P = ⊥
IfTold (Some old) (Some new) P = P old new

-- a fact on the slot of each number, before and after
abbrev pub EachNumber : (ℕ → Slot → Slot → Type 0) → DeviceTold → DeviceTold → Type 0
EachNumber P old new = IfTold old.slots new.slots (λ s t. (n : ℕ) → P n (slot_at old.fixed.numbers s n) (slot_at old.fixed.numbers t n))

-- each number keeps what is settled, and has no new doubt
abbrev pub KeepsAll : DeviceTold → DeviceTold → Type 0
KeepsAll = EachNumber (λ n s t. Keeps s t)

-- a job was accepted: a read changes no number, any other job may leave its mark for its own
abbrev pub DoubtsAt : ℕ → Option Mark → DeviceTold → DeviceTold → Type 0
DoubtsAt number None = KeepsAll
DoubtsAt number (Some mark) = EachNumber (λ n s t. IfElse (n == number) (Doubts mark s t) (Keeps s t))

-- a mark is settled for one number; the others keep theirs
abbrev pub Settles : ℕ → Mark → DeviceTold → DeviceTold → Type 0
Settles number mark = EachNumber (λ n s t. IfElse (n == number) (SettlesAs mark s t) (Keeps s t))
