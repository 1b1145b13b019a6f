use Rattle.std.proofs.Common.{◌<◌, length, sym, ap, ◌∙◌, arith}
use Rattle.job_pending.proofs.Index.{job_there, no_job_there, no_place, other_there, read_at, read_job}
use Rattle.job_pending.proofs.slots.Slots.place_of.Goals as goal

pub returns-in_default : goal.returns-in_default
returns-in_default c =
    rw (← c.self.view_is) (no_place c.self.inside.at.items c.self.inside.jobs.items c.args.block c.self.invariant.0
    (omega (arith, c.in_default.ensures.lookup.3, c.from.ensures, ap length c.deref.ensures.value)))

pub returns-in_default-get : goal.returns-in_default-get
returns-in_default-get c =
    rw (← c.self.view_is) (no_job_there c.self.inside.at.items c.self.inside.jobs.items c.args.block c.self.invariant.0 c.from-place.result
    (read_at c.deref.result.now c.self.inside.at.items c.from.result c.args.block c.from-place.result c.in-Some.at.now c.deref.ensures.value c.from.ensures c.from-place.ensures c.in-Some.ensures.lookup.1)
    (omega (arith, c.in_default-get.ensures.lookup.3, ap length c.deref-2.ensures.value)))

pub returns-then-block : goal.returns-then-block
returns-then-block c =
    let below : c.from-place.result < length c.self.inside.jobs.items = omega (arith, c.in-Some-get.ensures.lookup.3.0, ap length c.deref-2.ensures.value) in
    rw (← c.self.view_is) (
      below,
      job_there c.self.inside.at.items c.self.inside.jobs.items c.args.block c.self.invariant.0 c.from-place.result
          (read_at c.deref.result.now c.self.inside.at.items c.from.result c.args.block c.from-place.result c.in-Some.at.now c.deref.ensures.value c.from.ensures c.from-place.ensures c.in-Some.ensures.lookup.1)
          c.in-Some-get.job.now below (read_job c.deref-2.result.now c.self.inside.jobs.items c.from-place.result c.in-Some-get.job.now c.deref-2.ensures.value c.in-Some-get.ensures.lookup.1)
          (sym c.block.ensures ∙ c.if-block.true),
    )

pub returns-else-block : goal.returns-else-block
returns-else-block c =
    rw (← c.self.view_is) (other_there c.self.inside.at.items c.self.inside.jobs.items c.args.block c.self.invariant.0 c.from-place.result
    (read_at c.deref.result.now c.self.inside.at.items c.from.result c.args.block c.from-place.result c.in-Some.at.now c.deref.ensures.value c.from.ensures c.from-place.ensures c.in-Some.ensures.lookup.1)
    c.in-Some-get.job.now (read_job c.deref-2.result.now c.self.inside.jobs.items c.from-place.result c.in-Some-get.job.now c.deref-2.ensures.value c.in-Some-get.ensures.lookup.1)
    (λ same. c.if-block.false (c.block.ensures ∙ same)))
