use Rattle.nvm_callers.proofs.Common.{knows}
use Rattle.nvm_callers.proofs.Making.{did_poll, did_wait}
use Rattle.nvm_callers.proofs.caller.Caller.wait.Goals as goal

pub returns-clause-done : goal.returns-clause-done
returns-clause-done g c = λ ds bytes began made did over.
    did_wait c.args.shared.now.terms c.args.self.now.number ds bytes began made c.args.line c.args.block (knows c.args.pass.now) (knows c.is_over.new.pass) c.is_over.ensures.polled (c.is_over.ensures.over over) did

pub returns-clause-left : goal.returns-clause-left
returns-clause-left g c = λ ds bytes began made did goes_on.
    did_poll c.args.shared.now.terms c.args.self.now.number ds bytes began made (knows c.args.pass.now) (knows c.is_over.new.pass) c.is_over.ensures.polled did
