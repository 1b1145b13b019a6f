-- What a device tells by the operations of its flash.
use Rattle.std.specs.Prelude.{◌≡◌, ◌⊎◌, ◌<◌, ◌≤◌, ◌++◌, ◌∷◌, [], ℕ, Bool, true, IsTrue, List, length, take, slice_get, unwrap_or, Some, None, is_some, IfSome}
use Rattle.nv_base.specs.Count.{last_count, Rose}
use Rattle.memif.specs.declared.answer.DeviceTurn.{DeviceTurn}
use Rattle.memif.specs.declared.answer.DeviceTurn.TheVariants as turn
use Rattle.memif.specs.Told.{Held, First, is_urgent}
use Rattle.memif.specs.Marks.{IsPossible}
use Rattle.memif.specs.Clock.{When, After, CutIn, TakesKept, Clock, SameClock, FindsNow, Ticks}
use Rattle.fls_model.specs.declared.flash.FlashAnswer.{FlashAnswer}
use Rattle.fls_model.specs.declared.flash.FlashAnswer.TheVariants.{Done, Failed, Off}
use Rattle.fls_model.specs.Op.{Op, MayLeave}
use Rattle.fls_model.specs.Step.{IsAsked}
use Rattle.fls_model.specs.Told.{Told, Change, IfBothTold, bytes_now}
use Rattle.promise_device.specs.Bridge.{may_be_closed, IsSuch}
use Rattle.promise_device.specs.FlashRun.{TellsBytes, IsCutImage, HasFailed, bytes_after}
use Rattle.fls_told.specs.Device.{FlashDevice, flash_run, tells_held, told_first, tells_now, slot_with, asked_ops, flash_told}

-- THE CLOCK
-- a map is what a start-up finds in an image
abbrev pub IsMapOf : FlashDevice → List ℕ → (ℕ → Held) → Type 0
IsMapOf d image m = (n : ℕ) → m n ≡ d.reading.held image n

-- a moment's bytes are told: always from a sound image on, and before the first operation from any
abbrev pub TellsAfter : FlashDevice → ℕ → Type 0
TellsAfter d k = IsTrue (tells_held d) ⊎ ((k ≡ 0) × IsTrue (told_first d))

-- of the bytes once k operations were made
pub record FindsAfter (d : FlashDevice) (k : ℕ) (m : ℕ → Held) : Type 0 where
  pub told : TellsAfter d k
  pub made : k ≤ length d.operations
  pub small : k < last_count
  pub image : List ℕ
  pub is : bytes_after (flash_run d) k ≡ Some image
  pub finds : IsMapOf d image m

-- of each image that a cut before or within operation k may leave
pub record FindsInCut (d : FlashDevice) (k : ℕ) (m : ℕ → Held) : Type 0 where
  pub told : IsTrue (tells_held d)
  pub small : k < last_count
  pub image : List ℕ
  pub leaves : IsCutImage (flash_run d) k image
  pub finds : IsMapOf d image m

abbrev pub may_find_of : FlashDevice → When → (ℕ → Held) → Type 0
may_find_of d (After k) m = FindsAfter d k m
may_find_of d (CutIn k) m = FindsInCut d k m

-- the power went off in the operations that were answered so; past the end of the count it isn't known
abbrev pub off_in_of : FlashDevice → ℕ → Type 0
off_in_of d k = (last_count ≤ k) ⊎ ((x : Change) × (slice_get d.operations k ≡ Some x) × (x.answer ≡ Off))

-- since it is worn out for a number: the image had no room for such a record by then, or a program failed since the last erase
pub record IsWornFor (d : FlashDevice) (k n : ℕ) (urgent : Bool) : Type 0 where
  pub since : ℕ
  pub is : d.worn n ≡ Some since
  pub from : since ≤ k
  pub full : TellsBytes (flash_run d) → k < last_count
      → IfSome (bytes_after (flash_run d) k) (λ image. IsTrue (d.reading.is_full n urgent image)) ⊎ IsTrue (may_be_closed (take k d.operations))

-- of the bytes once k operations were made: so many pages are free
pub record HasFree (d : FlashDevice) (k pages : ℕ) : Type 0 where
  pub told : IsTrue (tells_held d)
  pub made : k ≤ length d.operations
  pub small : k < last_count
  pub image : List ℕ
  pub is : bytes_after (flash_run d) k ≡ Some image
  pub few : pages ≤ d.reading.free (take k d.operations) image

abbrev pub flash_clock : FlashDevice → Clock
flash_clock d = record {
  may_find = may_find_of d;
  off_in = off_in_of d;
  failed = HasFailed (flash_run d);
  worn = IsWornFor d;
  of_second = λ k. ⊥;
  spare = HasFree d;
  was = λ trait k. IsSuch d.reading (flash_run d) trait k;
}

-- WITHOUT AN OPERATION
pub record MakesNone (d t : FlashDevice) : Type 0 where
  pub reading : t.reading ≡ d.reading
  pub entry : t.entry ≡ d.entry
  pub operations : t.operations ≡ d.operations
  pub bytes : bytes_now t.flash ≡ bytes_now d.flash

-- any call but a turn
abbrev pub ClocksStay : Type 0
ClocksStay = (d t : FlashDevice) → MakesNone d t → ((n : ℕ) → t.worn n ≡ d.worn n) → SameClock (flash_clock d) (flash_clock t)

-- a turn, in which it may turn out to be worn out
abbrev pub ClocksPass : Type 0
ClocksPass =
    (answer : DeviceTurn) (d t : FlashDevice) → MakesNone d t → ((n : ℕ) → (t.worn n ≡ d.worn n) ⊎ (d.worn n ≡ None))
    → Ticks First answer (flash_told d) (flash_clock d) (flash_told t) (flash_clock t)

-- it is worn out now for a number of which the bytes are so, or where a program failed since the last erase
abbrev pub WornNow : Type 0
WornNow =
    (d : FlashDevice) (since n : ℕ) (urgent : Bool) → d.worn n ≡ Some since → since ≤ asked_ops d
    → (IfSome (bytes_now d.flash) (λ image. IsTrue (d.reading.is_full n urgent image)) ⊎ IsTrue (may_be_closed d.operations))
    → (flash_clock d).worn (asked_ops d) n urgent

-- what is free now
abbrev pub FreeNow : Type 0
FreeNow =
    (d : FlashDevice) (pages : ℕ) → (flash_clock d).spare (asked_ops d) pages
    → IsTrue (tells_held d) × ((image : List ℕ) × (bytes_now d.flash ≡ Some image) × (pages ≤ d.reading.free d.operations image))

-- BY AN OPERATION
abbrev pub change_of : Op → Told → FlashAnswer → Change
change_of op s answer = record { op = op; before = unwrap_or (bytes_now s) []; answer = answer }

-- a turn that asked for a changing operation
pub record Makes (op : Op) (answer : FlashAnswer) (d t : FlashDevice) : Type 0 where
  pub reading : t.reading ≡ d.reading
  pub entry : t.entry ≡ d.entry
  pub asked : IsAsked op d.flash answer t.flash
  pub operations : t.operations ≡ d.operations ++ change_of op d.flash answer ∷ []
  pub worn : (n : ℕ) → t.worn n ≡ d.worn n

abbrev pub turn_of : FlashAnswer → DeviceTurn
turn_of Done = turn.Worked
turn_of Failed = turn.Worked
turn_of Off = turn.Off

-- each map that a start-up would find in an image is possible
abbrev pub ImageIsPossible : FlashDevice → List ℕ → List ℕ → Type 0
ImageIsPossible d bytes image = (n : ℕ) → IsPossible (slot_with d bytes n) (d.reading.held image n)

-- whatever a cut of an operation leaves
abbrev pub CutsArePossible : Op → FlashDevice → Type 0
CutsArePossible op d =
    IsTrue (tells_held d) → IfSome (bytes_now d.flash) (λ bytes. (image : List ℕ) → MayLeave op bytes image → ImageIsPossible d bytes image)

-- both are told, or neither
abbrev pub ToldAlike : FlashDevice → Type 0
ToldAlike d = IfBothTold d.entry.bytes d.flash.bytes (λ first last. Unit {0})

-- an operation that failed is counted at once
abbrev pub CountsFailure : FlashAnswer → FlashDevice → FlashDevice → Type 0
CountsFailure answer d t = answer ≡ Failed → Rose d.faults t.faults

-- a page that is kept for urgent writes is taken by an urgent job
abbrev pub TakesKeptPages : Op → FlashAnswer → FlashDevice → Type 0
TakesKeptPages op answer d = IsTrue (d.reading.is_such TakesKept (change_of op d.flash answer)) → is_urgent d.stand ≡ true

abbrev pub ClocksTick : Type 0
ClocksTick =
    (op : Op) (answer : FlashAnswer) (d t : FlashDevice) → ToldAlike d → Makes op answer d t → CountsFailure answer d t → CutsArePossible op d → TakesKeptPages op answer d
    → Ticks First (turn_of answer) (flash_told d) (flash_clock d) (flash_told t) (flash_clock t)

abbrev pub ClocksFindNow : Type 0
ClocksFindNow =
    (d : FlashDevice) → (IsTrue (tells_now d) → IfSome (bytes_now d.flash) (λ bytes. ImageIsPossible d bytes bytes)) → FindsNow (flash_told d) (flash_clock d)

-- where its flash told its bytes it tells what its numbers hold until its first operation
abbrev pub TellsFirst : Type 0
TellsFirst = (d : FlashDevice) → ToldAlike d → (flash_told d).tells ≡ true → (flash_told d).ops ≡ 0 → is_some (flash_told d).slots ≡ true
