use Rattle.std.proofs.Common.{◌≡◌, true}
use Rattle.nvm_rows.proofs.stack.make_all.Given as goal

-- the stack stands
abbrev pub invariant-loop-step : goal.invariant-loop-step
invariant-loop-step g l =
    (goal.iterator-loop-step g).can_next l.step-iterator ×
    (goal.iterator-loop-step g).is_finite l.step-iterator ×
    (l.stack.ready ≡ true)
