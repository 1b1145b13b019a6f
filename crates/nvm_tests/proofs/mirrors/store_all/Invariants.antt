use Rattle.ram_mirrors.specs.Ends.{IsOwnerOf}
use Rattle.nvm_tests.proofs.mirrors.store_all.Given as goal

abbrev pub invariant-loop-i : goal.invariant-loop-i
invariant-loop-i l = IsOwnerOf l.mirror l.owner
