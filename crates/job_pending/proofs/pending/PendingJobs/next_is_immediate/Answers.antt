use Rattle.std.proofs.Common.{◌==◌, not, length, ◌∙◌, sym, ap}
use Rattle.job_queues.specs.Jobs.{Jobs}
use Rattle.job_queues.proofs.Order.{immediate_goes_first}
use Rattle.job_pending.specs.Pending.{Pending}
use Rattle.job_pending.proofs.pending.PendingJobs.next_is_immediate.Goals as goal

pub returns : goal.returns
returns c c' waiting held agrees =
    let p : Pending = c.args.self.now in
    let queues = ap (λ (v : Pending). v.queues) c.self.view_is ∙ agrees.queues in
    c.has_immediate.ensures ∙ ap (λ (q : Jobs). not (length q.immediate == 0)) queues ∙ sym (immediate_goes_first c' waiting p.queues.immediate_size p.queues.standard_size)
