use Rattle.std.proofs.Common.{sym, arith}
use Rattle.memif.proofs.Plain.{kept_length}
use Rattle.memif.proofs.PlainCalls.{kind_none, kind_some}
use Rattle.memif.proofs.plain_store.PlainStoreMemDevice.mark_kind.Goals as goal

pub index-requires : goal.index-requires
index-requires c = let at = c.in-Some.ensures.place in omega (arith, at.within, kept_length _ _ c.self.invariant.room, c.self.inside.kept.ok)

pub returns-in-Some : goal.returns-in-Some
returns-in-Some c = let at = sym c.in-Some.ensures.value in kind_some _ _ _ _ _ _ _ c.self.view_is _ _ _ c.self.invariant at c.index.ensures

pub returns-in-None : goal.returns-in-None
returns-in-None c = kind_none _ _ _ _ _ _ _ c.self.view_is _ c.in-None.ensures.place
