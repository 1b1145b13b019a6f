use Rattle.block_config.proofs.Bounds.{are_bounded}
use Rattle.block_config.proofs.config.Config.make.Goals as goal

pub measures_of-measures-requires-clause-bounded : goal.measures_of-measures-requires-clause-bounded
measures_of-measures-requires-clause-bounded c =
    rw c.deref.ensures.value (are_bounded c.args.head.id c.args.blocks.items c.requires.blocks_legal)
