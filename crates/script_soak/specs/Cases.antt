-- Steps that were drawn by hand, with another program, for the demo's two blocks.
use Rattle.std.specs.Prelude.{List, [], ◌∷◌, replicate, Some}
use Rattle.nv_base.specs.declared.request.Request.TheVariants.{Write}
use Rattle.nvm_script.specs.declared.step.Step.{Step}
use Rattle.nvm_script.specs.declared.step.StepKind.TheVariants.{Ask, Drain}
use Rattle.script_soak.specs.Soak.{step_at}

-- seed 7 draws a drain, a write of block 3 and a write of block 2
abbrev pub seven : List Step
seven =
    step_at 0 Drain ∷ step_at 1 (Ask (Write 3 (Some (replicate 20 3)) 0)) ∷ step_at 2 (Ask (Write 2 (Some (replicate 4 219)) 0)) ∷ step_at 3 Drain
    ∷ []
