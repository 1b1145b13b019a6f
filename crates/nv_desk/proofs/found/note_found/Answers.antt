use Rattle.std.proofs.Common.{arith, List, subst}
use Rattle.std.proofs.lemmas.List.{take_all}
use Rattle.block_machine.specs.StartUp.{started_with}
use Rattle.nv_recorder.specs.declared.found_marks.FoundPlace.{FoundPlace}
use Rattle.nv_recorder.specs.FoundMarks.{marks_at}
use Rattle.nv_desk_state.specs.Kept.{Agrees}
use Rattle.nv_desk.proofs.found.note_found.Goals as goal

pub loop-i-preserved : goal.loop-i-preserved
loop-i-preserved c = λ s begun. c.note_place.ensures s (c.loop-i.invariant s begun)

pub returns : goal.returns
returns c = λ s begun.
    subst (λ (ps : List FoundPlace). Agrees c.args.config.now c.loop-i.kept (started_with c.args.config.now s (marks_at ps)))
    (take_all c.loop-i.i c.args.found.now.places (omega (arith, c.loop-i-test.false, c.len-i-end.ensures.count))) (c.loop-i.invariant s begun)
