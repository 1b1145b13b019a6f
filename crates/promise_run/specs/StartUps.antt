-- What a history tells of start-ups, and that a turn counts none.
use Rattle.std.specs.Prelude.{◌≡◌, ◌+◌, ◌++◌, List}
use Rattle.memif.specs.declared.answer.DeviceTurn.{DeviceTurn}
use Rattle.memif.specs.Told.{DeviceTold}
use Rattle.memif.specs.Clock.{Clock}
use Rattle.memif.specs.Calls.{Turns}
use Rattle.block_machine.specs.Words.{Entry}
use Rattle.promise_blocks.specs.Operations.{founds}

-- those of two pieces of a history are those of both
abbrev pub FoundsAdd : Type 0
FoundsAdd = (h more : List Entry) → founds (h ++ more) ≡ founds h + founds more

-- behind a device's turn as many were made as before it
abbrev pub TurnsStartNone : Type 1
TurnsStartNone =
    (answer : DeviceTurn) (old : DeviceTold) (clock : Clock) (new : DeviceTold) (clock_new : Clock) → Turns answer old clock new clock_new → new.starts ≡ old.starts
