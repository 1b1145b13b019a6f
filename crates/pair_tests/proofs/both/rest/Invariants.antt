use Rattle.std.proofs.Common.{◌≡◌, true}
use Rattle.pair_tests.proofs.both.rest.Given as goal

-- the stack stands
abbrev pub invariant-loop : goal.invariant-loop
invariant-loop g l = l.stack.ready ≡ true
