use Rattle.std.proofs.Common.{◌≡◌, ◌+◌, ◌^◌, length}
use Rattle.std.specs.Prelude.{All}
use Rattle.turn_gate.specs.Pass.{IsPassOf, IsOutside, IsFree}
use Rattle.nvm_tests.proofs.lock.join_all.Given as goal

abbrev pub invariant-loop-worker : goal.invariant-loop-worker
invariant-loop-worker l = IsPassOf l.gate l.pass × IsOutside l.pass × (l.pass.me.0.parts + length l.workers.items ≡ 2 ^ 64) × All (λ w. IsFree l.gate 1 w.pass) l.workers.items

abbrev pub decreases-loop-worker : goal.decreases-loop-worker
decreases-loop-worker l = length l.workers.items
