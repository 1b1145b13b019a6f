use Rattle.std.specs.Prelude.{IsTrue, ◌↔◌}
use Rattle.std.proofs.Common.{false, subst}
use Rattle.nvm_laws.specs.Halves.{IsAtRest}
use Rattle.nvm_core.specs.Stack.{StackState}
use Rattle.nvm_core.proofs.Renewing.{not_at_rest}
use Rattle.nvm_core.proofs.stack.Stack.is_at_rest.Goals as goal

pub returns-in_default : goal.returns-in_default
returns-in_default g c =
    let inside = c.self.inside in
    let told = g.D.MemDevice.told in
    subst (λ (s : StackState g.row.D.Denot g.row.C.Denot). IsTrue false ↔ IsAtRest s.desk (told s.device)) c.self.view_is
    (not_at_rest c.next.result inside.front.desk (told inside.driver.device) c.next.ensures c.in_default.not-Nothing)
