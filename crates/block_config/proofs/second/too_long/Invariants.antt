use Rattle.std.proofs.Common.{◌≡◌, ◌+◌, drop}
use Rattle.block_config.specs.Second.{too_long}
use Rattle.block_config.proofs.second.too_long.Given as goal

-- the blocks so far are short enough
abbrev pub invariant-loop-block : goal.invariant-loop-block
invariant-loop-block l =
    (l.id ≡ l.block-index + 1) × (too_long l.sector l.id (drop l.block-index l.blocks) ≡ too_long l.sector 1 l.blocks)
