-- What a power cut within a turn leaves.
use Rattle.std.specs.Prelude.{◌<◌, ◌≤◌, ℕ, List}
use Rattle.memif.specs.Told.{DeviceTold, Held, Part, PartTold}
use Rattle.memif.specs.Clock.{Clock, CutIn}
use Rattle.block_machine.specs.Words.{Entry, Configuration}
use Rattle.promise_blocks.specs.Marks.{KeepsMarks, marks_in}
use Rattle.promise_blocks.specs.OverDevice.{HasStarted}
use Rattle.nvm_device_laws.specs.Turn.{Keeps}

-- Each map that a cut before or within the operation of a turn may leave has marks that the state before the turn allows: of each
-- instance the settled one, or one that a job took since.
abbrev pub CutsInATurnKeep : DeviceTold → Clock → DeviceTold → Clock → Type 0
CutsInATurnKeep old clock new clock_new =
    (c : Configuration) (cap : ℕ) (h : List Entry) (before : Part → PartTold) → HasStarted h → Keeps c cap h before old clock
    → (k : ℕ) (held : ℕ → Held) → old.ops ≤ k → k < new.ops → clock_new.may_find (CutIn k) held → KeepsMarks c h (marks_in held)
