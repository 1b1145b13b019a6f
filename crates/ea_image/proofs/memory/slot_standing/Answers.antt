use Rattle.std.proofs.Common.{[], length, sym, ap, ◌∙◌, subst}
use Rattle.std.proofs.lemmas.Bool.{false≢true}
use Rattle.fee_format.specs.Gate.{IsGate}
use Rattle.ea_image.specs.Slots.{fitting}
use Rattle.ea_image.proofs.Standing.{standing_open, standing_shut, read_as}
use Rattle.ea_image.proofs.memory.slot_standing.Goals as goal

pub returns-then-gate_stands : goal.returns-then-gate_stands
returns-then-gate_stands c =
    let gate = subst (λ n. IsGate n c.args.gate.now) c.requires (c.gate_stands.ensures.0 c.if-gate_stands.true) in
    c.fitting.ensures ∙ ap (fitting c.args.size) (read_as (length c.args.head.now) c.args.head.now c.read_slot_head.result c.read_slot_head.ensures)
    ∙ sym (standing_open (length c.args.head.now) c.args.size (record { head = c.args.head.now; gate = c.args.gate.now; body = [] }) gate)

pub returns-else-gate_stands : goal.returns-else-gate_stands
returns-else-gate_stands c =
    sym (standing_shut (length c.args.head.now) c.args.size (record { head = c.args.head.now; gate = c.args.gate.now; body = [] })
    (λ gate. false≢true (sym c.if-gate_stands.false ∙ c.gate_stands.ensures.1 (subst (λ n. IsGate n c.args.gate.now) (sym c.requires) gate))))
