use Rattle.std.proofs.Common.{Some}
use Rattle.memif.proofs.PlainCalls.{read_starts}
use Rattle.memif.proofs.plain_store.PlainStoreMemDevice.start_read.Goals as goal

pub returns : goal.returns
returns c =
    let none = rw c.from.ensures at c.in_ok-place.ensures.refusal in
    rw c.of.ensures (read_starts _ _ _ _ _ _ _ c.self.view_is c.args.number c.in_ok-place.place (Some c.args.length) c.self.invariant none c.in_ok-place.ensures.place)
