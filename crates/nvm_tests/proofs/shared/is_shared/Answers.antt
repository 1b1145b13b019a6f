use Rattle.std.proofs.Common.{ap}
use Rattle.nvm_laws.proofs.FreshCopies.{are_synchronized}
use Rattle.nvm_tests.proofs.shared.is_shared.Goals as goal

pub make_untold-requires-clause-synchronized : goal.make_untold-requires-clause-synchronized
make_untold-requires-clause-synchronized g c = are_synchronized c.args.config c.in_ok-copies.copies c.blocks-blocks.ensures.legal c.in_ok-copies.ensures

-- it isn't said that the device tells what it holds
pub serves-requires-clause-quiet : goal.serves-requires-clause-quiet
serves-requires-clause-quiet g c = ap (λ t. t.tells) c.in-Ok.ensures.terms
