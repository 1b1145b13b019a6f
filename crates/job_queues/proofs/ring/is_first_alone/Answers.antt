use Rattle.std.proofs.Common.{sym, ◌∙◌}
use Rattle.std.proofs.lemmas.List.{take_rest}
use Rattle.job_queues.proofs.Turned.{without_first_alone}
use Rattle.job_queues.proofs.ring.is_first_alone.Goals as goal

pub returns : goal.returns
returns c all =
    let rest = sym (rw take_rest at c.has_none.ensures) ∙ c.if-not-has_none.false in
    without_first_alone c.args.number c.as_slices.result.0.now c.as_slices.result.1.now c.args.ring.now.items _ c.as_slices.ensures
    (sym c.is_empty.ensures ∙ c.if-is_empty.false) c.if-front-number.false rest (sym c.has_none-2.ensures ∙ all)
