use Rattle.std.proofs.Common.{◌<◌, ◌+◌, arith, take, refl, below_more}
use Rattle.block_machine.specs.Blocks.{instance_at}
use Rattle.block_machine.specs.StartUp.{listed_mark}
use Rattle.block_machine.specs.Steps.{after}
use Rattle.block_machine.specs.History.{MayStandIn}
use Rattle.rows_histories.specs.Instances.{EachIndexOf}
use Rattle.rows_histories.proofs.Numbers.{is_none, is_within}
use Rattle.rows_histories.proofs.start_up.each_may_stand.Goals as goal

pub loop-place-init : goal.loop-place-init
loop-place-init c = λ cap legal id less index one. absurd (is_none c.args.config.now (record { block = id; index = index }) less one)

pub loop-place-preserved : goal.loop-place-preserved
loop-place-preserved c = λ cap legal. below_more
    (λ id. EachIndexOf c.args.config.now id (λ i. MayStandIn (instance_at (after c.args.config.now (take c.args.count c.args.history.now.entries)) i) (listed_mark c.args.marks.now i)))
    (c.loop-place.place + 1) (c.loop-place.invariant cap legal) ((c.block_may_stand.ensures cap legal).0 c.if-not-block_may_stand.false)

pub returns : goal.returns
returns c = λ cap legal. (
  λ yes id index one.
      let low = is_within c.args.config.now (record { block = id; index = index }) one in
      let within : id < c.loop-place.place + 1 = omega (arith, low, c.loop-place-test.false, c.blocks-place-end.ensures.count) in
      c.loop-place.invariant cap legal id within index one,
  λ each. refl,
)
