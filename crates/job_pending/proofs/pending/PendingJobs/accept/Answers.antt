use Rattle.std.proofs.Common.{◌++◌, ◌∷◌, [], length-append, refl, ◌∙◌}
use Rattle.block_machine.specs.Blocks.{job_block, rank_of}
use Rattle.job_pending.proofs.Agreement.{accepted, accepted_counts, accepted_may, more_fit, more_queued, new_apart}
use Rattle.job_pending.proofs.Splits.{none_on}
use Rattle.job_pending.proofs.pending.PendingJobs.accept.Goals as goal

pub returns-clause-agrees : goal.returns-clause-agrees
returns-clause-agrees c waiting held agrees new taken =
    let h = rw (← c.self.view_is) at agrees in
    let below = rw (← c.self.view_is) at c.requires.known in
    let room = rw (← c.self.view_is) at c.requires.room in
    let more = waiting ++ c.args.job ∷ [] in
    let may = accepted_may c.args.config.now _ waiting held c.args.job h new taken below room in
    let counts = accepted_counts c.args.config.now _ waiting held c.args.job h new taken below room in
    let queued = more_queued c.args.config.now _ waiting more held c.args.job (rank_of c.args.config.now c.args.job).immediate h may counts refl in
    let added = c.add-added.ensures.added (c.add-added.ensures.room.1 (rw c.waiting_of-waiting.ensures queued)) in
    let none = h.slots (job_block c.args.job) ∙ none_on waiting c.args.job (new_apart waiting held c.args.job new) in
    let put = c.put.ensures.put none below (more_fit c.args.config.now _ waiting more held h may (length-append waiting (c.args.job ∷ []))) in
    rw (put, c.accept.ensures, c.reserved.ensures, added, c.waiting_of-waiting.ensures) (accepted c.args.config.now _ waiting held c.args.job h new taken below room)
