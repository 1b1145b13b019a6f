use Rattle.std.proofs.Common.{◌<◌, length, arith, subst, sym}
use Rattle.std.specs.List.{All}
use Rattle.ram_blocks.specs.Plain.{IsWhole}
use Rattle.ram_blocks.proofs.Made.{plain_made, all_whole}
use Rattle.ram_blocks.proofs.plain_sync.PlainSync.make.Goals as goal

pub loop-i-preserved : goal.loop-i-preserved
loop-i-preserved c =
    let below : c.loop-i.i < length c.args.config.now.blocks = omega (arith, c.blocks-i-end.ensures.count, c.loop-i-test.true) in
    plain_made c.args.config.now c.loop-i.i _ _ _ _ below c.loop-i.invariant c.block.ensures.value c.in_ok-plain_of-2.ensures c.in_ok-push-2.ensures.items

pub invariant_of-result : goal.invariant_of-result
invariant_of-result c = subst (All IsWhole) (sym c.loop-i.invariant) (all_whole _)
