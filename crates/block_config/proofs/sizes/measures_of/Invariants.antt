use Rattle.std.proofs.Common.{◌≡◌, ◌≤◌, ◌*◌, take}
use Rattle.block_config.specs.Sizes.{measures_of}
use Rattle.block_config.proofs.sizes.measures_of.Given as goal

-- the measures of the blocks so far
abbrev pub invariant-loop-block : goal.invariant-loop-block
invariant-loop-block l =
    (l.sum ≡ measures_of l.page (take l.block-index l.blocks)) × (l.sum.instances ≤ 64 * l.block-index) × (l.sum.all ≤ 16576 * l.block-index) × (l.sum.second ≤ 64 * l.block-index)
