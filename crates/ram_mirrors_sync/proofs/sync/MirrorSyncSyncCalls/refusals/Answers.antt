use Rattle.ram_mirrors_sync.proofs.Copies.{none_refused}
use Rattle.ram_mirrors_sync.proofs.sync.MirrorSyncSyncCalls.refusals.Goals as goal

pub returns : goal.returns
returns g c = none_refused c.args.self.now.ends c.args.block
