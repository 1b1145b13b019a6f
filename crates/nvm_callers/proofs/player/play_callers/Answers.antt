use Rattle.nvm_callers.proofs.Common.{◌∙◌, arith, IfOk-weaker}
use Rattle.nvm_callers.proofs.player.play_callers.Goals as goal

-- src/player.rt:48:1
pub returns-in-Ok-share-clause-order : goal.returns-in-Ok-share-clause-order
returns-in-Ok-share-clause-order g c =
    let counted = c.len-few.ensures in
    let fits = c.len-few.type_inv in
    IfOk-weaker c.run_programs.result _ _ (λ r keeps. keeps c.args.steps.now (record { run = c.requires.steps; few = omega (arith, counted, fits); are = c.as_slice.ensures.value ∙ c.in-Ok.ensures })) c.run_programs.ensures.order
