use Rattle.std.proofs.Common.{◌≡◌, take}
use Rattle.block_config.proofs.config.Config.copied.Given as goal

-- the blocks so far were copied
abbrev pub invariant-loop-block : goal.invariant-loop-block
invariant-loop-block l = l.blocks.items ≡ take l.block-index l.block-items
