use Rattle.nvm_callers.proofs.Common.{knows}
use Rattle.nvm_callers.proofs.Making.{did_store}
use Rattle.nvm_callers.proofs.caller.Caller.store.Goals as goal

pub returns-clause-done : goal.returns-clause-done
returns-clause-done g c = λ ds bytes began same did.
    did_store c.args.shared.now.terms c.args.self.now.number ds c.args.deed.0 c.args.deed.1 c.args.deed.2 c.args.content.now (knows c.args.pass.now) (knows c.store.new.pass)
    bytes (g.S.Stores.bytes c.args.stores.now) began (g.S.Stores.made c.args.stores.now) (g.S.Stores.made c.store.new.self) c.store.ensures.same same c.store.ensures.stored did
