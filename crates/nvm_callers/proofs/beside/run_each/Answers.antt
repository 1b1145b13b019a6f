use Rattle.nvm_callers.proofs.Rounds.{moved}
use Rattle.nvm_callers.proofs.beside.run_each.Goals as goal

pub returns-clause-each : goal.returns-clause-each
returns-clause-each g c = λ place d low.
    let at = (c.for_each_chunk_mut.ensures.by_index place d low).1 in
    moved (g.J.ThreadWork.done c.args.job.now c.args.shared.now) at.start_plus_offset at.old_element at.new_element (at.call at.offset d at.offset_in_chunk)
