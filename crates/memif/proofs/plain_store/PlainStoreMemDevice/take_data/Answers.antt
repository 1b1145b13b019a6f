use Rattle.std.proofs.Common.{arith}
use Rattle.memif.proofs.PlainCalls.{lent_within, lent_is}
use Rattle.memif.proofs.plain_store.PlainStoreMemDevice.take_data.Goals as goal

pub index-requires : goal.index-requires
index-requires c = omega (arith, lent_within _ _ _ _ _ _ _ c.self.view_is _ c.self.invariant c.in-Some.is, c.self.inside.kept.ok)

pub returns-in-Some : goal.returns-in-Some
returns-in-Some c = lent_is _ _ _ _ _ _ _ c.self.view_is _ _ _ c.self.invariant c.in-Some.is c.index.ensures c.as_slice.ensures
