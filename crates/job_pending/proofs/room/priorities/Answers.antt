use Rattle.std.proofs.Common.{◌≡◌, ◌<◌, length, refl, ap, ◌∙◌, arith, add-one, true}
use Rattle.std.proofs.lemmas.List.{length-set}
use Rattle.job_pending.specs.Room.{has_priority}
use Rattle.job_pending.proofs.Fitting.{have_noted, none_noted, one_noted}
use Rattle.job_pending.proofs.room.priorities.Goals as goal

pub loop-id-init : goal.loop-id-init
loop-id-init c = (refl, λ p. none_noted 256 p)

pub loop-id-preserved : goal.loop-id-preserved
loop-id-preserved c =
    let below : c.from.result < length c.loop-id.found = omega (arith, c.from.ensures, c.loop-id.invariant.0) in (
      length-set c.loop-id.found c.from.result true ∙ c.loop-id.invariant.0,
      rw (add-one c.loop-id.id) (one_noted c.args.config.now c.loop-id.id c.loop-id.found c.from.result c.loop-id.invariant.1 below (c.from.ensures ∙ c.priority_of.ensures)),
    )

pub returns-clause-have : goal.returns-clause-have
returns-clause-have c =
    let all : c.loop-id.id ≡ c.args.ids = omega (arith, c.loop-id-test.false, c.loop-id.auto.id-end) in
    have_noted c.args.config.now c.args.ids c.count.result c.loop-id.found (λ p. c.loop-id.invariant.1 p ∙ ap (λ n. has_priority c.args.config.now n p) all) c.count.ensures.count
