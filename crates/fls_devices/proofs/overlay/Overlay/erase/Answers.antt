use Rattle.fls_devices.proofs.Steps.{passed}
use Rattle.fls_devices.proofs.overlay.Overlay.erase.Goals as goal

pub returns-clause-step : goal.returns-clause-step
returns-clause-step g c = λ _. rw (← c.self.view_is, c.is_off-self-inside.ensures) (passed _ _ _ _ _ c.self.invariant c.if-self.false c.erase-answer.ensures c.pass.ensures).0

pub invariant_of-self : goal.invariant_of-self
invariant_of-self g c = rw c.is_off-self-inside.ensures (passed _ _ _ _ _ c.self.invariant c.if-self.false c.erase-answer.ensures c.pass.ensures).1
