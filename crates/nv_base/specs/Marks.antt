-- Marks of instances.
use Rattle.std.specs.Prelude.{ℕ, ◌<◌, ◌+◌, ◌*◌, ◌/◌, ◌%◌, ◌≤◌, List, [], ◌∷◌, length}
use Rattle.nv_base.specs.declared.instance.DeviceNumber.{DeviceNumber}
use Rattle.nv_base.specs.declared.instance.Instance.{Instance}
use Rattle.nv_base.specs.declared.mark.Mark.{Mark}
use Rattle.nv_base.specs.declared.mark.Mark.TheVariants.{Content, Invalid, Erased}

-- the device number of an instance
abbrev pub number_of : Instance → ℕ
number_of i = i.block * 64 + i.index

-- the instance of a device number
abbrev pub instance_of : DeviceNumber → Instance
instance_of n = record { block = n.0 / 64; index = n.0 % 64 }

-- a mark of an instance before these, left out where it is Erased
abbrev pub listed : Instance → Mark → List (Instance × Mark) → List (Instance × Mark)
listed i Erased marks = marks
listed i mark marks = (i, mark) ∷ marks

-- a mark that an instance is listed with: a content of at least one byte, or Invalid
abbrev pub IsStored : Mark → Type 0
IsStored (Content bytes) = 0 < length bytes
IsStored Invalid = Unit {0}
IsStored Erased = ⊥

-- instances that ascend from a place on, each with a mark
abbrev pub AreMarks : ℕ → List (Instance × Mark) → Type 0
AreMarks low [] = Unit {0}
AreMarks low (x ∷ xs) = (low ≤ number_of x.0) × (x.0.block ≤ 1023) × (x.0.index ≤ 63) × IsStored x.1 × AreMarks (number_of x.0 + 1) xs

-- marks, and for how many more memory is there
pub record MarksAndRoom : Type 0 where
  pub marks : List (Instance × Mark)
  pub room : ℕ

-- the first place above all of these, or this one where there is none
abbrev pub next_or : ℕ → List (Instance × Mark) → ℕ
next_or low [] = low
next_or low (x ∷ xs) = next_or (number_of x.0 + 1) xs
