-- Calls on one of two devices.
use Rattle.std.specs.Prelude.{◌≡◌, ◌≢◌, ℕ}
use Rattle.memif.specs.declared.mem_if.MemIf.{MemIf}
use Rattle.memif.specs.Told.{DeviceTold}
use Rattle.memif.specs.Clock.{Clock}

-- a call does this to the device of a number, and the other one stays
pub record OnDevice {A B : Type 0} (device : ℕ)
    (Does : DeviceTold → Clock → DeviceTold → Clock → Type 0) (told_a : A → DeviceTold) (clock_a : A → Clock)
    (told_b : B → DeviceTold) (clock_b : B → Clock) (old new : MemIf A B) : Type 0 where
  pub first : device ≡ 0 → Does (told_a old.first) (clock_a old.first) (told_a new.first) (clock_a new.first)
  pub second : device ≡ 1 → Does (told_b old.second) (clock_b old.second) (told_b new.second) (clock_b new.second)
  pub first_same : device ≢ 0 → new.first ≡ old.first
  pub second_same : device ≢ 1 → new.second ≡ old.second

-- this holds of the device of a number
pub record OfDevice {A B : Type 0} (device : ℕ)
    (Holds : DeviceTold → Clock → Type 0) (told_a : A → DeviceTold) (clock_a : A → Clock)
    (told_b : B → DeviceTold) (clock_b : B → Clock) (d : MemIf A B) : Type 0 where
  pub first : device ≡ 0 → Holds (told_a d.first) (clock_a d.first)
  pub second : device ≡ 1 → Holds (told_b d.second) (clock_b d.second)
