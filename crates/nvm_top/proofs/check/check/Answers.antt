use Rattle.std.proofs.Common.{Err, ap}
use Rattle.nvm_top.proofs.RunLines.{unchecked_text}
use Rattle.nvm_top.proofs.check.check.Goals as goal

pub returns-in-Err-clause-by_input : goal.returns-in-Err-clause-by_input
returns-in-Err-clause-by_input g c =
    unchecked_text (g.S.Source.left c.args.input.now) _ _ c.in-Err.stop _ _ _ (λ is. c.in-Err.ensures.read_fault (ap Err is)) c.in-Err.ensures.err c.report.ensures.line
