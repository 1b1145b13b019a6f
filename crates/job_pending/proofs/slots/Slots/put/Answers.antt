use Rattle.std.proofs.Common.{length, length-append, ◌∷◌, [], sym, ap, ◌∙◌, arith}
use Rattle.job_pending.proofs.Index.{indexed_by, none_on}
use Rattle.job_pending.proofs.slots.Slots.put.Goals as goal

pub invariant_of-self : goal.invariant_of-self
invariant_of-self c =
    let pushed = c.push_reserved.ensures.items in
    let long = ap length pushed ∙ length-append c.self.inside.jobs.items (c.args.job ∷ []) in
    let count = c.self.inside.jobs.ok.0 in (
      indexed_by c.self.inside.at.items c.self.inside.jobs.items c.push_reserved.new.self.items c.args.job c.from-2.result c.len-place.result c.self.invariant.0
          (none_on c.self.inside.jobs.items c.block-block.result c.args.job c.block-block.ensures (sym (rw (← c.self.view_is) at c.has.ensures) ∙ c.if-has.false)) (omega (arith, c.if-from-len.false, c.from.ensures, c.len.ensures, c.block-block.ensures, c.self.inside.at.ok.0))
          (c.from-2.ensures ∙ c.block-block.ensures) (c.len-place.ensures ∙ count) pushed,
      omega (arith, long, count, c.if-place-from.false, c.len-place.ensures, c.from-else-from-len.ensures),
      omega (arith, c.push_reserved.ensures.capacity, c.self.invariant.2),
    )
