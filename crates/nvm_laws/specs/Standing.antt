-- What stands at the device of a stack behind a start-up, with nothing after it.
use Rattle.std.specs.Prelude.{◌≡◌, ◌-◌, ℕ, true, List, [], ◌∷◌, length, slice_get, Option, Some}
use Rattle.block_machine.specs.nv_base.Marks.{instance_of, listed}
use Rattle.block_machine.specs.nv_base.declared.instance.DeviceNumber.{DeviceNumber}
use Rattle.memif.specs.Told.{DeviceTold, Slot, Part, PartTold, slot_at}
use Rattle.memif.specs.Clock.{Clock}
use Rattle.block_machine.specs.Words.{Instance, Mark, Found}
use Rattle.nv_desk_copies.specs.nv_desk.Desk.{DeskState}
use Rattle.job_progress.specs.Hand.{HandState}
use Rattle.nvm_laws.specs.Keeps.{StackKeepsAsTold}

-- these marks of numbers as a list has them: ascending, without the erased ones
abbrev pub marks_standing : (ℕ → Mark) → List (DeviceNumber × ℕ) → List (Instance × Mark)
marks_standing held [] = []
marks_standing held (x ∷ xs) = listed (instance_of x.0) (held x.0.0) (marks_standing held xs)

-- what these slots have settled
abbrev pub settled_marks : List (DeviceNumber × ℕ) → List Slot → List (Instance × Mark)
settled_marks numbers slots = marks_standing (λ n. (slot_at numbers slots n).settled.mark) numbers

-- Where the device tells what it holds, and is started, that is what the Found lists which is the last entry, and nothing else.
abbrev pub FoundStands : Type 1
FoundStands =
    (before : Part → PartTold) (desk : DeskState) (hand : Option HandState) (d : DeviceTold) (clock : Clock) (marks : List (Instance × Mark)) (ops : ℕ) (slots : List Slot)
    → StackKeepsAsTold before desk hand d clock → d.started ≡ true → d.slots ≡ Some slots → slice_get desk.entries (length desk.entries - 1) ≡ Some (Found marks ops)
    → marks ≡ settled_marks d.fixed.numbers slots
