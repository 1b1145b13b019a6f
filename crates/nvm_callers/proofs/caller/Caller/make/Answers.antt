use Rattle.nvm_callers.proofs.Common.{[], ◌∷◌, ◌++◌, List, ℕ, subst, sym, knows, Deed, Store, Did}
use Rattle.nvm_callers.proofs.caller.Caller.make.Goals as goal

pub returns-in-Store-clause-done : goal.returns-in-Store-clause-done
returns-in-Store-clause-done g c = λ ds bytes began same did.
    let is = c.store.ensures.done ds bytes began same did in
    let told = subst (λ (x : List ℕ). Did c.args.shared.now.terms c.args.self.now.number (ds ++ Store c.in-Store.line c.in-Store.block c.in-Store.number x ∷ []) (knows c.store.new.pass) bytes began (g.S.Stores.made c.store.new.stores)) c.as_slice.ensures is in
    subst (λ (d : Deed). Did c.args.shared.now.terms c.args.self.now.number (ds ++ d ∷ []) (knows c.store.new.pass) bytes began (g.S.Stores.made c.store.new.stores)) (sym c.in-Store.is) told

pub returns-then-wait-clause-done : goal.returns-then-wait-clause-done
returns-then-wait-clause-done g c = λ ds bytes began same did.
    subst (λ (d : Deed). Did c.args.shared.now.terms c.args.self.now.number (ds ++ d ∷ []) (knows c.wait.new.pass) bytes began (g.S.Stores.made c.args.stores.now)) (sym c.in-Await.is)
    (c.wait.ensures.done ds bytes began (g.S.Stores.made c.args.stores.now) did c.if-wait.true)

pub returns-else-wait-clause-left : goal.returns-else-wait-clause-left
returns-else-wait-clause-left g c = λ ds bytes began same did. c.wait.ensures.left ds bytes began (g.S.Stores.made c.args.stores.now) did c.if-wait.false

pub returns-in-Ok-clause-done : goal.returns-in-Ok-clause-done
returns-in-Ok-clause-done g c = λ ds bytes began same did.
    subst (λ (d : Deed). Did c.args.shared.now.terms c.args.self.now.number (ds ++ d ∷ []) (knows c.ask.new.pass) bytes began (g.S.Stores.made c.args.stores.now)) (sym c.in-Ask.is)
    (c.in-Ok.ensures.done ds bytes began (g.S.Stores.made c.args.stores.now) did)

pub returns-in-Err-NoRoom-clause-left : goal.returns-in-Err-NoRoom-clause-left
returns-in-Err-NoRoom-clause-left g c = λ ds bytes began same did. c.in-Err-NoRoom.ensures.left ds bytes began (g.S.Stores.made c.args.stores.now) did

pub returns-in-Err-Memory-clause-left : goal.returns-in-Err-Memory-clause-left
returns-in-Err-Memory-clause-left g c = λ ds bytes began same did. c.in-Err-Memory.ensures.left ds bytes began (g.S.Stores.made c.args.stores.now) did
