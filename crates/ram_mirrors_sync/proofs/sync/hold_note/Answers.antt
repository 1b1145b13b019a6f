use Rattle.std.proofs.Common.{subst}
use Rattle.ram_mirrors_sync.specs.Blocks.{SyncValue, AreEndsOf}
use Rattle.ram_mirrors_sync.proofs.Coming.{came}
use Rattle.ram_mirrors_sync.proofs.sync.hold_note.Goals as goal

pub returns-then-place-len-clause-came : goal.returns-then-place-len-clause-came
returns-then-place-len-clause-came g c = λ before n looked.
    came c.args.sync.now.mirrors c.args.sync.now.ends before c.args.block n
    (subst (λ (v : SyncValue g.row.N.Denot). AreEndsOf v.mirrors v.ends) c.sync.view_is c.sync.invariant) looked
