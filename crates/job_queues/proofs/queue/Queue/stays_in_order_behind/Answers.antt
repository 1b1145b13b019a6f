use Rattle.std.proofs.Common.{sym, ap, ◌∙◌}
use Rattle.std.specs.Prelude.{option_copied}
use Rattle.job_queues.proofs.InOrder.{in_order_behind, in_order_alone}
use Rattle.job_queues.proofs.queue.Queue.stays_in_order_behind.Goals as goal

pub returns-then-self-clause-all : goal.returns-then-self-clause-all
returns-then-self-clause-all c led =
    let last = sym c.back.ensures ∙ ap option_copied c.in-Some.is in
    rw (← c.self.view_is) (in_order_behind c.in-Some.last.now c.args.job.now c.self.inside.ring.items (c.self.invariant c.if-self.true) last (c.leads.ensures.0 led))

pub returns-in-None-clause-others : goal.returns-in-None-clause-others
returns-in-None-clause-others c e =
    rw (← c.self.view_is) (in_order_alone c.args.job.now c.self.inside.ring.items (sym c.back.ensures ∙ ap option_copied c.in-None.is)).0

pub returns-in-None-clause-all : goal.returns-in-None-clause-all
returns-in-None-clause-all c e =
    rw (← c.self.view_is) (in_order_alone c.args.job.now c.self.inside.ring.items (sym c.back.ensures ∙ ap option_copied c.in-None.is)).1
