use Rattle.std.proofs.Common.{◌∙◌}
use Rattle.nvm_figures.proofs.JobTurns.{step_is, program_turned}
use Rattle.nvm_figures.proofs.finish.go_on.Goals as goal

pub returns-in_default-result : goal.returns-in_default-result
returns-in_default-result g c =
    let turned = rw c.in-Worked.is at c.turn.ensures in (
      c.next.ensures.step,
      c.next.ensures.after ∙ program_turned _ _ _ _ _ _ _ _ _ (step_is _ _ _ c.requires.step) c.requires.works c.requires.busy
          c.result.ensures.result c.in_default-result.not-JobPending c.outcome_of.ensures,
      (turned.0.1.0, turned.0.1.1),
    )
