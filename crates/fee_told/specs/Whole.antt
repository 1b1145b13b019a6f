-- What a turn makes of a device as a whole: from its banks to what it tells.
use Rattle.std.specs.Prelude.{◌≡◌, ◌<◌, ◌++◌, ◌∷◌, ℕ, true, false, IsTrue, List, [], length, IfSome}
use Rattle.nv_base.specs.declared.instance.DeviceNumber.{DeviceNumber}
use Rattle.memif.specs.Told.{Job}
use Rattle.memif.specs.Marks.{KeepsAll, Settles, DoubtsAt}
use Rattle.memif.specs.Clock.{FindsNow}
use Rattle.fls_model.specs.Op.{Op, MayLeave}
use Rattle.fls_model.specs.Told.{Change, bytes_now}
use Rattle.fee_format.specs.declared.rec_head.RecHead.{RecHead}
use Rattle.fee_image.specs.Image.{Layout, IsLegalLayout}
use Rattle.fee_image.specs.May.{May, held_written}
use Rattle.fls_told.specs.Device.{slot_with}
use Rattle.fls_told.specs.Clock.{ToldAlike, CutsArePossible}
use Rattle.fls_told.specs.Runs.{LeavesSound}
use Rattle.fls_told.specs.Tells.{IsSame, AreTold}
use Rattle.fee_told.specs.Slots.{Memory}
use Rattle.fee_told.specs.SlotLaws.{IsHeld, Opened}
use Rattle.fee_told.specs.Device.{Device, layout_in, flash_device, tells, tells_now, told_of, clock_of}
use Rattle.fee_told.specs.Kept.{IsKept}
use Rattle.fee_told.specs.Appends.{IsCommitted}

-- a device that is started, and whose bytes hold its banks, where they are told
pub record HoldsBanks (d : Device) (copied : May) : Type 0 where
  pub started : d.started ≡ true
  pub alike : ToldAlike (flash_device d)
  pub legal : IsLegalLayout (layout_in d)
  pub some : IfSome (bytes_now d.flash) (λ bytes. 0 < length bytes)
  pub held : IsTrue (tells_now d) → IfSome (bytes_now d.flash) (λ bytes. IsHeld (layout_in d) d.making.numbers bytes d.memory copied)

-- what a start-up would find now is possible by what it tells
abbrev pub HeldFindsNow : Type 0
HeldFindsNow = (d : Device) (copied : May) → HoldsBanks d copied → FindsNow (told_of d) (clock_of d)

-- so it is before a device is started
abbrev pub UnstartedFindsNow : Type 0
UnstartedFindsNow =
    (d : Device) → d.started ≡ false → IfSome (bytes_now d.flash) (λ bytes. 0 < length bytes) → FindsNow (told_of d) (clock_of d)

-- an image is kept, whatever the device has in memory behind it
pub record IsKeptSo (l : Layout) (numbers : List (DeviceNumber × ℕ)) (old image : List ℕ) (m : Memory) : Type 0 where
  pub behind : Memory
  pub copied : May
  pub kept : IsKept l numbers old image m behind copied

-- an image that was sound is
abbrev pub IsSoundNow : Device → Type 0
IsSoundNow d = IsTrue (tells d) → IfSome (bytes_now d.flash) (λ bytes. IsTrue ((flash_device d).reading.is_sound bytes))

-- whatever a cut of an operation leaves is kept
abbrev pub CutsKeep : Op → Device → Type 0
CutsKeep op d =
    IsTrue (tells d) → IfSome (bytes_now d.flash) (λ bytes. (image : List ℕ) → MayLeave op bytes image
    → IsKeptSo (layout_in d) d.making.numbers bytes image d.memory)

-- so it is possible by what is told, and sound where the bytes are
abbrev pub CutsAreTold : Type 0
CutsAreTold = (op : Op) (d : Device) (copied : May) → HoldsBanks d copied → IsSoundNow d → CutsKeep op d → CutsArePossible op (flash_device d) × LeavesSound op (flash_device d)

-- BEFORE AND AFTER
-- behind an operation it tells only from a sound image on
abbrev pub ToldBehind : Type 0
ToldBehind = (d : Device) (before : List Change) (change : Change) → d.operations ≡ before ++ change ∷ [] → IsTrue (tells_now d) → IsTrue (tells d)

pub record AreStarted (d t : Device) : Type 0 where
  pub same : IsSame (flash_device d) (flash_device t)
  pub making : t.making ≡ d.making
  pub old : d.started ≡ true
  pub new : t.started ≡ true

abbrev pub KeptIsTold : Type 0
KeptIsTold =
    (d t : Device) (copied : May) → AreStarted d t
    → ((old new : List ℕ) → AreTold (flash_device d) (flash_device t) old new → IsKept (layout_in d) d.making.numbers old new d.memory t.memory copied)
    → KeepsAll (told_of d) (told_of t)

abbrev pub CommitsAreTold : Type 0
CommitsAreTold =
    (d t : Device) (copied : May) (r : RecHead) (body : List ℕ) → AreStarted d t
    → ((old new : List ℕ) → AreTold (flash_device d) (flash_device t) old new → IsCommitted (layout_in d) d.making.numbers old new d.memory t.memory copied r body)
    → Settles r.number.0 (held_written r body).mark (told_of d) (told_of t)

abbrev pub OpensAreTold : Type 0
OpensAreTold =
    (d t : Device) (j : Job) → AreStarted d t
    → ((old new : List ℕ) → AreTold (flash_device d) (flash_device t) old new → (n : ℕ) → Opened j n (slot_with (flash_device d) old n) (slot_with (flash_device t) new n) j.mark)
    → DoubtsAt j.number j.mark (told_of d) (told_of t)
