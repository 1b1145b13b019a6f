use Rattle.nvm_laws.proofs.FreshCopies.{are_synchronized}
use Rattle.nvm_tests.proofs.callers.run.Goals as goal

pub make_untold-requires-clause-synchronized : goal.make_untold-requires-clause-synchronized
make_untold-requires-clause-synchronized g c = are_synchronized c.args.config c.in_ok-parts.parts.0 c.blocks-blocks.ensures.legal c.in_ok-parts.ensures.copies
