use Rattle.std.proofs.Common.{◌≡◌, ◌+◌, ◌-◌, ◌^◌, length}
use Rattle.std.specs.Prelude.{All}
use Rattle.turn_gate.specs.Pass.{IsPassOf, IsOutside, IsFree}
use Rattle.nvm_tests.proofs.lock.workers_of.Given as goal

abbrev pub invariant-loop-workers : goal.invariant-loop-workers
invariant-loop-workers l = IsPassOf l.gate l.pass × IsOutside l.pass × (l.pass.me.0.parts + length l.workers.items ≡ 2 ^ 64) × All (λ w. IsFree l.gate 1 w.pass) l.workers.items

abbrev pub decreases-loop-workers : goal.decreases-loop-workers
decreases-loop-workers l = 16 - length l.workers.items
