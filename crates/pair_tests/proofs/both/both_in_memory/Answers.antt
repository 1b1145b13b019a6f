use Rattle.pair_tests.proofs.InMemory.{in_memory}
use Rattle.pair_tests.proofs.both.both_in_memory.Goals as goal

pub make-requires : goal.make-requires
make-requires c = in_memory c.args.first c.args.second c.requires.first c.requires.second
