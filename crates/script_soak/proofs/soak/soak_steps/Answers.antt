use Rattle.std.proofs.Common.{length, ap, arith}
use Rattle.script_soak.proofs.Growth.{rounds_count, rounds_more, state_after_round, round_drawn}
use Rattle.script_soak.proofs.soak.soak_steps.Goals as goal

pub add-requires : goal.add-requires
add-requires c = omega (arith, c.loop-round.invariant.steps, rounds_count c.args.config.now c.args.seed c.loop-round.round, ap length c.loop-round.invariant.steps)

pub loop-round-preserved : goal.loop-round-preserved
loop-round-preserved c =
    let drawn = round_drawn c.args.config.now c.args.seed c.loop-round.round c.loop-round.draws.state c.loop-round.invariant.state in
    let more = rounds_more c.args.config.now c.args.seed c.loop-round.round in
    let state = state_after_round c.args.seed c.loop-round.round in
    record { steps = cc (c.in_ok-kind.ensures, c.in_ok-add.ensures.ok); state = cc }

pub add-requires-then-count-gt0 : goal.add-requires-then-count-gt0
add-requires-then-count-gt0 c = omega (arith, rounds_count c.args.config.now c.args.seed c.loop-round.round, ap length c.loop-round.invariant.steps)
