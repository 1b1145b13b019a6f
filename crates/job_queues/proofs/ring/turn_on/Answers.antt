use Rattle.std.proofs.Common.{arith, ◌∙◌, sym}
use Rattle.std.proofs.lemmas.Grind.{common_steps}
use Rattle.std.proofs.lemmas.Bool.{ne_eqb}
use Rattle.job_queues.proofs.Turned.{turned_first}
use Rattle.job_queues.proofs.ring.turn_on.Goals as goal

pub returns-then-first-number : goal.returns-then-first-number
returns-then-first-number c =
    let e = turned_first c.args.number c.args.ring.now.items c.in-Some.first (sym c.pop_front.ensures.value ∙ c.in-Some.is) (ne_eqb c.in-Some.first.number c.args.number c.if-first-number.true) in
    grind (arith, common_steps, e)
