use Rattle.nvm_laws.proofs.FreshCopies.{are_synchronized}
use Rattle.pair_tests.proofs.both.holds_over.Goals as goal

pub make-requires-2-clause-synchronized : goal.make-requires-2-clause-synchronized
make-requires-2-clause-synchronized g c = are_synchronized c.args.config c.in-Ok.copies c.blocks-blocks.ensures.legal c.in-Ok.ensures
