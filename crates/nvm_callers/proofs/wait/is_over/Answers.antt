use Rattle.nvm_callers.proofs.Common.{◌∙◌, sym, arith, eqb-true, knows}
use Rattle.nvm_callers.proofs.Making.{off_ends, poll_ends}
use Rattle.nvm_callers.proofs.wait.is_over.Goals as goal

pub returns-then-polled-result_code-clause-over : goal.returns-then-polled-result_code-clause-over
returns-then-polled-result_code-clause-over c ended =
    let polled = c.poll-polled.result in
    let low = c.requires.block in
    poll_ends c.args.shared.now.terms c.args.block (knows c.args.pass.now) (knows c.poll-polled.new.pass) polled.entry polled.status c.requires.configured (omega (arith, low))
    (λ is. c.if-polled-result_code.true (is ∙ sym c.result_code.ensures)) c.poll-polled.ensures.note c.poll-polled.ensures.fresh

pub returns-clause-over : goal.returns-clause-over
returns-clause-over c ended =
    let power = c.poll_off-power.result in
    off_ends c.args.shared.now.terms c.args.block (knows c.poll-polled.new.pass) (knows c.poll_off-power.new.pass) power.entry power.status c.poll_off-power.ensures.note
    (eqb-true power.status 1 ended) c.poll_off-power.ensures.fresh
