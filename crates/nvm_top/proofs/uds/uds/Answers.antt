use Rattle.std.proofs.Common.{Err, ap, inr}
use Rattle.nvm_top.specs.Uds.{HasWrongRequest}
use Rattle.nvm_top.proofs.WholeCalls.{unread}
use Rattle.nvm_top.proofs.Serving.{HasRequestsOf, answered}
use Rattle.nvm_top.proofs.uds.uds.Goals as goal

pub returns-in-Err-clause-promise : goal.returns-in-Err-clause-promise
returns-in-Err-clause-promise g c = inr (unread HasWrongRequest HasRequestsOf (g.S.Source.left c.args.input.now) _ _ c.in-Err.stop _ _ c.report.result (g.F.Flash.told c.args.flash) (λ is. c.in-Err.ensures.read_fault (ap Err is)) c.in-Err.ensures.err c.report.ensures.line)

pub returns-in-Ok-clause-promise : goal.returns-in-Ok-clause-promise
returns-in-Ok-clause-promise g c =
    answered (g.S.Source.left c.args.input.now) _ _ c.serve_flash.result.0 c.in-Ok.gateway.config c.in-Ok.gateway.requests (g.F.Flash.told c.args.flash) (g.F.Flash.told c.serve_flash.result.1) _ _ c.in-Ok.ensures.requests (c.serve_flash.ensures.promise (g.S.Source.left c.args.input.now))
