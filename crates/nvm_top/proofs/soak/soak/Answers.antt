use Rattle.std.proofs.Common.{[], Err, ap, inr}
use Rattle.nvm_script.specs.declared.script.Mode.TheVariants as mode
use Rattle.nvm_top.specs.Ends.{HasScript}
use Rattle.script_soak.specs.Soak.{soak}
use Rattle.nvm_top.specs.Soak.{HasStepAt}
use Rattle.nvm_top.proofs.WholeCalls.{unread}
use Rattle.nvm_top.proofs.Soaks.{soaked}
use Rattle.nvm_top.proofs.soak.soak.Goals as goal

pub returns-in-Ok-clause-promise : goal.returns-in-Ok-clause-promise
returns-in-Ok-clause-promise g c =
    soaked (g.S.Source.left c.args.input.now) _ _ c.play_flash.result.0 c.in-Ok.script.config c.in-Ok.script.steps (λ x. soak x c.args.seed c.args.count) (g.F.Flash.told c.args.flash) (g.F.Flash.told c.play_flash.result.1) _ _ c.in-Ok.ensures.config c.in-Ok.ensures.steps
    (c.play_flash.ensures.promise (g.S.Source.left c.args.input.now))

pub returns-in-Err-clause-promise : goal.returns-in-Err-clause-promise
returns-in-Err-clause-promise g c =
    inr (unread HasStepAt (λ x bytes. HasScript mode.Play bytes x []) (g.S.Source.left c.args.input.now) _ _ c.in-Err.stop _ _ c.report.result (g.F.Flash.told c.args.flash) (λ is. c.in-Err.ensures.read_fault (ap Err is)) c.in-Err.ensures.err c.report.ensures.line)
