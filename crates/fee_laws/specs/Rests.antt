-- The turns in which nothing happens.
use Rattle.std.specs.Prelude.{◌≡◌, ◌⊎◌, ℕ, Bool, true, false, List, None, IsSome}
use Rattle.nv_base.specs.declared.instance.DeviceNumber.{DeviceNumber}
use Rattle.memif.specs.declared.answer.DeviceTurn.{DeviceTurn}
use Rattle.memif.specs.declared.answer.DeviceTurn.TheVariants as turn
use Rattle.memif.specs.Calls.{Turns}
use Rattle.fls_model.specs.Told.{Told}
use Rattle.promise_device.specs.Making.{Making}
use Rattle.fee_told.specs.Device.{told_of, clock_of}
use Rattle.fee_laws.specs.Inside.{Parts, device_of, IsSound}

-- the device is as it was
abbrev pub Rests : DeviceTurn → Making → Told → Parts → Type 0
Rests answer m entry s = Turns answer (told_of (device_of m entry s)) (clock_of (device_of m entry s)) (told_of (device_of m entry s)) (clock_of (device_of m entry s))

-- nothing is open: no job and no switch, or it isn't started
abbrev pub IdleTurns : Type 0
IdleTurns =
    (m : Making) (entry : Told) (s : Parts) (listed : List (DeviceNumber × ℕ)) (kept count : ℕ) (is_off : Bool)
    → IsSound m entry s listed kept count is_off → (s.started ≡ false) ⊎ ((s.job ≡ None) × (s.banks.course ≡ None)) → Rests turn.Idle m entry s

-- a job or a switch is open while a power cut stands
abbrev pub OffTurns : Type 0
OffTurns =
    (m : Making) (entry : Told) (s : Parts) (listed : List (DeviceNumber × ℕ)) (kept count : ℕ)
    → IsSound m entry s listed kept count true → s.started ≡ true → IsSome s.job ⊎ IsSome s.banks.course → Rests turn.Off m entry s
