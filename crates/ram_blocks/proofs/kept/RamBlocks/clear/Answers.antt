use Rattle.ram_blocks.proofs.Cleared.{clear_more, clear_all}
use Rattle.ram_blocks.proofs.kept.RamBlocks.clear.Goals as goal

pub loop-i-preserved : goal.loop-i-preserved
loop-i-preserved c = clear_more _ _ _ _ _ _ c.loop-i.invariant.0 c.loop-i.invariant.1 c.loop-i.invariant.2 c.loop-i-test.true c.index_mut.ensures.value c.clear.ensures

pub returns : goal.returns
returns c = clear_all _ _ _ _ c.loop-i.invariant.1 c.loop-i.invariant.2 c.loop-i-test.false
