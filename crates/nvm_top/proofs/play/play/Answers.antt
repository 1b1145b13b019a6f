use Rattle.std.proofs.Common.{Err, ap, inr}
use Rattle.nvm_script.specs.declared.script.Mode.TheVariants as mode
use Rattle.nvm_top.specs.Ends.{HasWrongLine}
use Rattle.nvm_top.proofs.WholeCalls.{HasStepsOf, steps_made, unread}
use Rattle.nvm_top.proofs.play.play.Goals as goal

pub returns-in-Err-clause-promise : goal.returns-in-Err-clause-promise
returns-in-Err-clause-promise g c = inr (unread (HasWrongLine mode.Play) (HasStepsOf mode.Play) (g.S.Source.left c.args.input.now) _ _ c.in-Err.stop _ _ c.report.result (g.F.Flash.told c.args.flash) (λ is. c.in-Err.ensures.read_fault (ap Err is)) c.in-Err.ensures.err c.report.ensures.line)

pub returns-in-Ok-clause-promise : goal.returns-in-Ok-clause-promise
returns-in-Ok-clause-promise g c =
    steps_made mode.Play (g.S.Source.left c.args.input.now) _ _ c.play_flash.result.0 c.in-Ok.script.config c.in-Ok.script.steps (g.F.Flash.told c.args.flash) (g.F.Flash.told c.play_flash.result.1) _ _ c.in-Ok.ensures.steps (c.play_flash.ensures.promise (g.S.Source.left c.args.input.now))
