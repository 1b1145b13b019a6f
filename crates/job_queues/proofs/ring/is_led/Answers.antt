use Rattle.std.proofs.Common.{sym, ap, ◌∙◌}
use Rattle.std.specs.Prelude.{option_copied}
use Rattle.job_queues.proofs.InOrder.{in_order_next}
use Rattle.job_queues.proofs.ring.is_led.Goals as goal

pub returns-in-Some-get : goal.returns-in-Some-get
returns-in-Some-get c led before =
    let job = sym c.get.ensures ∙ ap option_copied c.in-Some.is in
    let behind = sym c.get-2.ensures ∙ ap option_copied c.in-Some-get.is in
    in_order_next c.in-Some.job.now c.in-Some-get.behind.now c.args.at c.args.ring.now.items c.requires job behind (c.leads.ensures.0 led) before
