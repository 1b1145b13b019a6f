use Rattle.std.proofs.Common.{◌<◌, length, arith}
use Rattle.ram_blocks.proofs.Made.{ram_made}
use Rattle.ram_blocks.proofs.kept.RamBlocks.make.Goals as goal

pub loop-i-preserved : goal.loop-i-preserved
loop-i-preserved c =
    let below : c.loop-i.i < length c.args.config.now.blocks = omega (arith, c.blocks-i-end.ensures.count, c.loop-i-test.true) in
    ram_made c.args.config.now c.loop-i.i _ _ _ _ below c.loop-i.invariant c.block.ensures.value c.in_ok-ram_of-2.ensures c.in_ok-push-2.ensures.items
