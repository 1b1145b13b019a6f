use Rattle.std.proofs.Common.{◌≡◌, true}
use Rattle.nvm_rows.proofs.stack.make_turns.Given as goal

-- the stack stands
abbrev pub invariant-loop : goal.invariant-loop
invariant-loop g l = l.stack.ready ≡ true
