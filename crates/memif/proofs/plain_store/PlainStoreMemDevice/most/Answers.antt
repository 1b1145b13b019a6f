use Rattle.memif.proofs.PlainCalls.{most_turns}
use Rattle.memif.proofs.plain_store.PlainStoreMemDevice.most.Goals as goal

pub returns : goal.returns
returns c = most_turns _ _ _ _ _ _ _ c.self.view_is _ _ c.requires
