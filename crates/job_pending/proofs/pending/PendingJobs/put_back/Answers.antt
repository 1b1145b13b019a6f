use Rattle.std.proofs.Common.{◌≡◌, ◌+◌, ◌∷◌, ◌∙◌, sym, refl, Some}
use Rattle.block_machine.specs.State.{Job}
use Rattle.block_machine.specs.Blocks.{job_block, rank_of}
use Rattle.job_pending.proofs.Agreement.{again_counts, again_may, length_more, more_fit, more_queued, waits_again}
use Rattle.job_pending.proofs.Splits.{none_on}
use Rattle.job_pending.proofs.pending.PendingJobs.put_back.Goals as goal

pub returns-clause-agrees : goal.returns-clause-agrees
returns-clause-agrees c waiting held agrees free =
    let h = rw (← c.self.view_is) at agrees in
    let is : held ≡ Some c.in-Some.job = sym h.hand ∙ sym c.in-Some.ensures.value in
    let a = rw is at h in
    let standard = rw is at free in
    let g : Job = record c.in-Some.job { reserved = c.in-Some.job.reserved + 2 } in
    let may = again_may c.args.config.now _ waiting c.in-Some.job a standard in
    let counts = again_counts c.args.config.now _ waiting c.in-Some.job a standard in
    let queued = more_queued c.args.config.now _ waiting (g ∷ waiting) _ g (rank_of c.args.config.now c.in-Some.job).immediate a may counts refl in
    let added = c.put_back-added.ensures.put_back (c.put_back-added.ensures.room.1 (rw c.waiting_of-waiting.ensures queued)) in
    let none = a.slots (job_block c.in-Some.job) ∙ none_on waiting c.in-Some.job a.hand_apart.apart in
    let put = (rw c.wait_again.ensures at c.put.ensures.put) none a.hand_apart.place (more_fit c.args.config.now _ waiting (g ∷ waiting) _ a may (length_more g waiting)) in
    rw (is, c.take.ensures.after, put, added, c.reserved.ensures, c.wait_again.ensures, c.waiting_of-waiting.ensures)
    (waits_again c.args.config.now _ waiting c.in-Some.job a standard)
