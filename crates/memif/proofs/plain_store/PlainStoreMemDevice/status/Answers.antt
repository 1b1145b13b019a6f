use Rattle.memif.proofs.PlainCalls.{in_order}
use Rattle.memif.proofs.plain_store.PlainStoreMemDevice.status.Goals as goal

pub returns-then-is_some-clause-order : goal.returns-then-is_some-clause-order
returns-then-is_some-clause-order c = in_order _ _ _ _ _ _ _ c.self.view_is c.self.invariant
