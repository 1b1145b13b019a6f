use Rattle.memif.proofs.PlainCalls.{arms}
use Rattle.memif.proofs.plain_store.PlainStoreMemDevice.arm.Goals as goal

pub returns : goal.returns
returns c = arms c.args.which c.args.nth c.args.keep _ _ _ _ _ _ _ c.self.view_is c.self.invariant
