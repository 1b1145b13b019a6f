use Rattle.std.proofs.Common.{arith, sym, ap, subst, ◌∙◌}
use Rattle.turn_gate.specs.Pass.{GateValue, IsWithin}
use Rattle.turn_gate.proofs.Steps.{compares}
use Rattle.turn_gate.proofs.Copying.{copies, informs, is_copy, same_view, stands}
use Rattle.turn_gate.proofs.gate.Gate+V.compare.Goals as goal

pub split_seat-copy-requires : goal.split_seat-copy-requires
split_seat-copy-requires g c =
    let words = c.self.invariant in
    let table = sym (ap (λ (z : GateValue). z.table) c.self.view_is) in
    (c.into_seat-seat.ensures.0 ∙ (ap (λ b. b.table_id) c.replace.ensures.value ∙ (c.requires.1.1.1.1.1.0 ∙ table)), omega arith, copies _ _ _ _ _ _ _ _)

pub join_seat-requires : goal.join_seat-requires
join_seat-requires g c =
    let words = c.self.invariant in
    let table = sym (ap (λ (z : GateValue). z.table) c.self.view_is) in
    let split = c.split_seat-copy.ensures in (
      c.requires.1.1.1.0 ∙ table,
      split.3 ∙ (c.into_seat-seat.ensures.0 ∙ (ap (λ b. b.table_id) c.replace.ensures.value ∙ (c.requires.1.1.1.1.1.0 ∙ table))),
      ap (λ m. m.1) split.4,
      omega arith,
      informs _ _ _ _ _ _ _ _ _ _ (is_copy g.V.Kept.entries g.V.Kept.gives g.V.Kept.is_open g.V.Kept.root 0 (g.V.Kept.root c.self.inside.table.shared.key.value.value) c.into_seat-seat.result.me.0 _ (ap (λ m. m.0) split.4)),
    )

pub load-requires : goal.load-requires
load-requires g c =
    let words = c.self.invariant in
    let table = sym (ap (λ (z : GateValue). z.table) c.self.view_is) in
    (c.join_seat.ensures.0 ∙ (c.requires.1.1.1.0 ∙ table), omega arith, compares _ _ _ _ _ _ _ _ _ _ _)

pub returns-clause-within : goal.returns-clause-within
returns-clause-within g c =
    let told = c.load.ensures.2 in
    let v = c.args.pass.now.me.0 in
    let base = g.V.Kept.root c.self.inside.table.shared.key.value.value in
    let was = c.into_seat-seat.ensures.2 in
    let s = c.into_seat-seat.result.me.0 in
    let same = same_view g.V.Kept.entries g.V.Kept.gives g.V.Kept.is_open g.V.Kept.root 0 base _ s g.view was (ap (λ b. b.views) c.replace.ensures.value ∙ c.requires.1.1.1.1.1.1) in
    subst (IsWithin g.V.Kept.gives v.seen) same
    (stands g.V.Kept.entries g.V.Kept.gives g.V.Kept.is_open g.V.Kept.root 0 base c.join_seat.new.seat.me.0 v c.split_seat-copy.result.me.0 s (ap (λ m. m.0) c.join_seat.ensures.2) (ap (λ m. m.0) c.split_seat-copy.ensures.4) c.requires.1.1.1.1.0.0 told.1)
