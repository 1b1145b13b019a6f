use Rattle.std.proofs.Common.{arith}
use Rattle.block_states.proofs.Started.{kept_count}
use Rattle.block_states.proofs.states.BlockStates.make.Goals as goal

pub invariant_of-result : goal.invariant_of-result
invariant_of-result c = rw (c.in_ok-make.ensures) (omega (
  arith,
  kept_count c.args.config.now,
  c.in_ok-vec.field-0.ok.0,
  c.in_ok-vec.ensures.len,
  c.from-ids.ensures,
  c.blocks-2.ensures.count,
))
