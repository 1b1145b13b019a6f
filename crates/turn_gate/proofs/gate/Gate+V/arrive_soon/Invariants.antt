use Rattle.std.proofs.Common.{ℕ, ◌≡◌}
use Rattle.turn_gate.specs.Turns.{looked}
use Rattle.turn_gate.proofs.gate.Gate+V.arrive_soon.Given as goal

abbrev pub invariant-loop : goal.invariant-loop
invariant-loop g l = (s : ℕ) × (l.pass.me ≡ (looked l.initial.pass.me.0 s, l.initial.pass.me.1)) × (l.pass.table_id ≡ l.initial.pass.table_id)
