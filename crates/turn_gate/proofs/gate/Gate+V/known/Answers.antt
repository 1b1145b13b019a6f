use Rattle.std.proofs.Common.{arith, sym, ap, ◌∙◌}
use Rattle.turn_gate.specs.Pass.{GateValue}
use Rattle.turn_gate.proofs.Copying.{copies}
use Rattle.turn_gate.proofs.gate.Gate+V.known.Goals as goal

pub split_seat-requires : goal.split_seat-requires
split_seat-requires g c = let words = c.self.invariant in (c.requires.own ∙ sym (ap (λ (z : GateValue). z.table) c.self.view_is), omega arith, copies _ _ _ _ _ _ _ _)
