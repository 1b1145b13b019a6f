-- Laws of the course of a switch, for the layers above.
use Rattle.std.specs.Prelude.{◌≡◌, ◌<◌, ◌≤◌, ◌+◌, ℕ, Bool, false, List, length, set, slice_get, Option, Some, None}
use Rattle.nv_base.specs.declared.instance.DeviceNumber.{DeviceNumber}
use Rattle.nv_base.specs.Pages.{record_pages_of}
use Rattle.fee_image.specs.declared.place.Place.{Place}
use Rattle.fee_image.specs.declared.place.Place.TheVariants.{Content}
use Rattle.fee_course.specs.declared.course.Course.{Course}
use Rattle.fee_course.specs.declared.course.Course.TheVariants.{Gate}
use Rattle.fee_course.specs.Copies.{as_copied}
use Rattle.fee_course.specs.Course.{after_done, flag_due, appended_to, turns_left, most_turns, IsUnderWay}

-- the next operation isn't the gate
abbrev pub IsBeforeGate : Course → Type 0
IsBeforeGate (Gate failed) = ⊥
IsBeforeGate _ = Unit {0}

-- each operation before the gate that is done leaves one turn less
abbrev pub TurnsFall : Type 0
TurnsFall =
    (p sectors : ℕ) (ns : List (DeviceNumber × ℕ)) (places : List Place) (copied : List Bool) (c : Course)
    → 16 ≤ p → IsUnderWay p sectors ns places copied c → IsBeforeGate c
    → let done = as_copied (flag_due c) copied in
    turns_left p sectors ns places done None (after_done p sectors ns places done c) + 1 ≡ turns_left p sectors ns places copied None c

-- what comes behind an operation that is done is under way
abbrev pub StaysUnderWay : Type 0
StaysUnderWay =
    (p sectors : ℕ) (ns : List (DeviceNumber × ℕ)) (places : List Place) (copied : List Bool) (c : Course)
    → 16 ≤ p → 0 < sectors → IsUnderWay p sectors ns places copied c
    → let done = as_copied (flag_due c) copied in
    IsUnderWay p sectors ns places done (after_done p sectors ns places done c)

-- an append adds no more than the turns of a copy of its content
abbrev pub AppendsAdd : Type 0
AppendsAdd =
    (p sectors i : ℕ) (ns : List (DeviceNumber × ℕ)) (places : List Place) (copied : List Bool) (c : Course) (n : DeviceNumber × ℕ)
    → slice_get ns i ≡ Some n → length places ≡ length ns → length copied ≡ length ns
    → turns_left p sectors ns places copied (Some i) c ≤ turns_left p sectors ns places copied None c + (record_pages_of n.1 p + 1)

-- as many are left once it has begun
abbrev pub AppendsBegin : Type 0
AppendsBegin =
    (p sectors i : ℕ) (ns : List (DeviceNumber × ℕ)) (places : List Place) (copied : List Bool) (c : Course)
    → turns_left p sectors ns places (set copied i false) (Some i) (appended_to i c) ≡ turns_left p sectors ns places copied (Some i) c

-- and, of one that has, once its content is the number's; where it is given up no more
abbrev pub AppendsEnd : Type 0
AppendsEnd =
    (p sectors i at count : ℕ) (ns : List (DeviceNumber × ℕ)) (places : List Place) (copied : List Bool) (c : Course)
    → set copied i false ≡ copied → appended_to i c ≡ c
    → turns_left p sectors ns (set places i (Content at count)) copied None c ≡ turns_left p sectors ns places copied (Some i) c

abbrev pub AppendsGivenUp : Type 0
AppendsGivenUp =
    (p sectors i : ℕ) (ns : List (DeviceNumber × ℕ)) (places : List Place) (copied : List Bool) (c : Course)
    → turns_left p sectors ns places copied None c ≤ turns_left p sectors ns places copied (Some i) c

-- no more than the greatest figure are left at any time
abbrev pub TurnsAreFew : Type 0
TurnsAreFew =
    (p sectors : ℕ) (ns : List (DeviceNumber × ℕ)) (places : List Place) (copied : List Bool) (appended : Option ℕ) (c : Course)
    → IsUnderWay p sectors ns places copied c → turns_left p sectors ns places copied appended c ≤ most_turns p sectors ns
