use Rattle.nvm.specs.Unit.{takes_of}
use Rattle.nvm.proofs.UnitLaws.{has_run}
use Rattle.nvm.proofs.unit.switch_off.Goals as goal

pub returns : goal.returns
returns g c = λ inner cuts over.
    has_run c.args.stack c.run.new.stack inner (g.F.Flash.told c.into_flash.result) (g.U.Unit.ran c.args.unit.now c.run.new.self (takes_of c.args.stack)) c.requires.most c.run.ensures.stays c.run.ensures.ran (c.into_flash.ensures.closes inner cuts over)
