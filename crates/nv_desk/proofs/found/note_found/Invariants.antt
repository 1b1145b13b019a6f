use Rattle.std.proofs.Common.{[], take}
use Rattle.block_machine.specs.State.{State}
use Rattle.block_machine.specs.StartUp.{started_with}
use Rattle.nv_recorder.specs.FoundMarks.{marks_at}
use Rattle.nv_desk_state.specs.Kept.{Agrees}
use Rattle.nv_desk.proofs.found.note_found.Given as goal

abbrev pub invariant-loop-i : goal.invariant-loop-i
invariant-loop-i l = (s : State) → Agrees l.config l.fn.kept (started_with l.config s []) → Agrees l.config l.kept (started_with l.config s (marks_at (take l.i l.found.places)))
