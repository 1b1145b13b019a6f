use Rattle.std.proofs.Common.{ap}
use Rattle.nvm_c.proofs.UnitLaws.{comes_back}
use Rattle.nvm_c.proofs.unit_opening.open.Goals as goal

pub returns-in-Ok-clause-stopped : goal.returns-in-Ok-clause-stopped
returns-in-Ok-clause-stopped g c =
    comes_back c.args.config c.in-Ok.stack.desk.config c.args.flash c.args.cuts g.O.Origin.making g.O.Origin.entry c.begin.result (ap (λ s. s.desk.config) c.in-Ok.ensures.made.only) c.requires c.begin.ensures.stopped
