use Rattle.nvm_callers.proofs.DealtSides.{next_free, next_places, none_back, one_back}
use Rattle.nvm_callers.proofs.gathering.gather_one.Goals as goal

pub loop-block-init : goal.loop-block-init
loop-block-init g c = (none_back c.args.own c.args.sides.now, λ ps own sides. (own, sides))

pub go_over-requires-clause-free : goal.go_over-requires-clause-free
go_over-requires-clause-free g c = next_free c.loop-block.block c.args.own c.args.sides.now c.loop-block.own c.loop-block.sides c.loop-block.invariant.0 c.requires.free

pub go_over-requires-clause-places : goal.go_over-requires-clause-places
go_over-requires-clause-places g c = next_places c.loop-block.block c.args.own c.args.sides.now c.loop-block.own c.loop-block.sides c.loop-block.invariant.0 c.requires.places

pub loop-block-preserved : goal.loop-block-preserved
loop-block-preserved g c = (
  one_back c.loop-block.block c.args.own c.args.sides.now c.loop-block.own c.loop-block.sides c.loop-block.invariant.0 c.go_over.new.from c.go_over.new.to c.go_over.ensures.over,
  λ ps own sides. let are = c.loop-block.invariant.1 ps own sides in c.go_over.ensures.own ps are.0 are.1,
)
