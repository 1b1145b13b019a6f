use Rattle.std.proofs.Common.{subst}
use Rattle.nvm_c.specs.Held.{Ran}
use Rattle.nvm_c.specs.declared.work.Outcome.{Outcome}
use Rattle.nvm_c.specs.declared.work.UnitWork.TheVariants.{Close}
use Rattle.nvm_c.proofs.CallLaws.{closed}
use Rattle.nvm_c.proofs.turns.nvm_close.Goals as goal

pub returns-in-Closed-clause-given_back : goal.returns-in-Closed-clause-given_back
returns-in-Closed-clause-given_back c =
    closed c.args.handle.now.kept c.work_on.new.handle.kept c.in-Closed.lent (subst (λ (y : Outcome). Ran c.args.handle.now.kept Close y c.work_on.new.handle.kept) c.in-Closed.is c.work_on.ensures)
