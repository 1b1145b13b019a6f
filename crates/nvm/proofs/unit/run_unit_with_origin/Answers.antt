use Rattle.std.proofs.Common.{ℕ, ap, subst, ◌∙◌}
use Rattle.nvm_flash.specs.block_config.Config.{Configuration}
use Rattle.nvm.specs.Closing.{UnitState}
use Rattle.nvm.specs.Unit.{HasRun}
use Rattle.nvm.proofs.unit.run_unit_with_origin.Goals as goal

pub returns-in-Ok-switch_on-clause-ran : goal.returns-in-Ok-switch_on-clause-ran
returns-in-Ok-switch_on-clause-ran g c =
    subst (λ (x : Configuration). HasRun x (g.F.Flash.told c.args.flash) (g.F.Flash.told c.switch_off.result) (g.U.Unit.ran c.args.unit.now c.switch_off.new.unit c.args.cuts))
    (c.in-Ok-switch_on.ensures.stays.config ∙ ap (λ (s : UnitState). s.desk.config) c.in-Ok.ensures.made.only)
    (subst (λ (n : ℕ). HasRun c.in-Ok-switch_on.started.desk.config (g.F.Flash.told c.args.flash) (g.F.Flash.told c.switch_off.result) (g.U.Unit.ran c.args.unit.now c.switch_off.new.unit n))
    c.in-Ok-switch_on.ensures.plans (c.switch_off.ensures (g.F.Flash.told c.args.flash) c.args.cuts c.requires.over))
