-- What work from above comes to.
use Rattle.std.specs.Prelude.{◌≡◌, ◌⊎◌, ◌<◌, ◌≤◌, ℕ, List, Option, Some, None, true, false}
use Rattle.nv_base.specs.Count.{Rose}
use Rattle.memif.specs.declared.trials.Rest.{Rest}
use Rattle.memif.specs.declared.trials.Rest.TheVariants.{Idle, Off, Fault}
use Rattle.memif.specs.Told.{DeviceTold, Slot, Held, slot_at, is_off, is_open, nothing_open}
use Rattle.memif.specs.Clock.{Clock, After, Past}

abbrev pub Rests : Rest → DeviceTold → Type 0
Rests Idle new = nothing_open new ≡ true
Rests Off new = is_off new ≡ true
Rests Fault new = is_open new.stand ≡ false

-- no part counted a fault
pub record IsFaultless (old new : DeviceTold) : Type 0 where
  pub first : ¬ Rose old.first.faults new.first.faults
  pub second : ¬ Rose old.second.faults new.second.faults

-- each map that a start-up would find now is that of the settled marks
abbrev pub AreSettled : DeviceTold → Option (List Slot) → (ℕ → Held) → Type 0
AreSettled d (Some slots) m = (n : ℕ) → m n ≡ (slot_at d.fixed.numbers slots n).settled
AreSettled d None m = Unit {0}

abbrev pub FindsSettled : DeviceTold → Clock → Type 0
FindsSettled d c = (m : ℕ → Held) → c.may_find (After d.ops) m → AreSettled d d.slots m

-- no count falls, what was told of the operations before gets no map more, and an operation since that failed was counted by
-- a part
pub record Lasts (old : DeviceTold) (clock : Clock) (new : DeviceTold) (clock_new : Clock) : Type 0 where
  pub ops : old.ops ≤ new.ops
  pub past : Past old.ops clock clock_new
  pub faults : (old.first.faults ≤ new.first.faults) × (old.second.faults ≤ new.second.faults)
  pub failed : (k : ℕ) → old.ops ≤ k → k < new.ops → clock_new.failed k → Rose old.first.faults new.first.faults ⊎ Rose old.second.faults new.second.faults
