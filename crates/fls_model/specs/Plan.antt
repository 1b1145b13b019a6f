-- What a changing operation makes of a planned power cut.
use Rattle.std.specs.Prelude.{◌≡◌, ◌⊎◌}
use Rattle.nv_base.specs.Plan.{Planning, Nears, Comes, ComesUnplanned}
use Rattle.fls_model.specs.declared.flash.FlashAnswer.{FlashAnswer}
use Rattle.fls_model.specs.declared.flash.FlashAnswer.TheVariants.{Done, Failed, Off}

-- by the answer to a changing operation that was asked for: a planned cut comes exactly at its operation, and each
-- other cut is counted as unplanned. One that failed may not have reached the flash that cuts.
abbrev pub PlanGoes : FlashAnswer → Planning → Planning → Type 0
PlanGoes Done p q = Nears p q
PlanGoes Failed p q = Nears p q ⊎ (q ≡ p)
PlanGoes Off p q = Comes p q ⊎ ComesUnplanned p q
