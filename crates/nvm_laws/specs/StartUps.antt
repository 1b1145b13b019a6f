-- What is kept around a start-up of the stack.
use Rattle.std.specs.Prelude.{◌≡◌, ℕ, List, [], Option, None}
use Rattle.memif.specs.Told.{DeviceTold, Part, PartTold}
use Rattle.memif.specs.Clock.{Clock}
use Rattle.memif.specs.Calls.{InOrder}
use Rattle.block_machine.specs.Words.{Instance, Mark, Found, Configuration}
use Rattle.promise_blocks.specs.Operations.{AreOfJobs, AreStartsTold}
use Rattle.nvm_device_laws.specs.Turn.{Keeps, down}
use Rattle.nv_desk_copies.specs.nv_desk.Desk.{DeskState}
use Rattle.job_progress.specs.Hand.{HandState}
use Rattle.nvm_laws.specs.Halves.{Adds}
use Rattle.nvm_laws.specs.Keeps.{StackKeeps, KeepsWhileDown, KeepsAsTold, StackKeepsAsTold, DownKeepsAsTold}

-- before the first start-up
abbrev pub StacksBegin : DeviceTold → Clock → Type 0
StacksBegin d clock =
    (c : Configuration) (cap : ℕ) (before : Part → PartTold) → InOrder d clock → d.ops ≡ 0 → d.starts ≡ 0 → Keeps c cap [] before (down d) clock
    → KeepsAsTold (KeepsWhileDown c cap [] before d clock) c cap [] d clock

-- a start-up may follow at any time, whatever is in hand
abbrev pub StacksComeDown : DeviceTold → Clock → Type 0
StacksComeDown d clock =
    (before : Part → PartTold) (desk : DeskState) (hand : Option HandState) → StackKeepsAsTold before desk hand d clock
    → DownKeepsAsTold before desk d clock

-- behind its entry nothing is in hand; over a device that tells what it holds
abbrev pub StacksComeUp : DeviceTold → Clock → Type 0
StacksComeUp d clock =
    (before : Part → PartTold) (old new : DeskState) (marks : List (Instance × Mark)) (ops : ℕ) → Adds (Found marks ops) old new
    → Keeps new.config new.cap new.entries before d clock → AreOfJobs new.config new.entries d clock → AreStartsTold new.entries d
    → StackKeeps before new None d clock
