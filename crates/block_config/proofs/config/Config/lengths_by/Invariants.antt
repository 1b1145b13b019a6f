use Rattle.std.proofs.Common.{◌≡◌, ◌<◌, ◌+◌, ◌*◌, take}
use Rattle.nv_base.specs.Lengths.{last_or}
use Rattle.block_config.specs.Lengths.{lengths_by}
use Rattle.block_config.proofs.config.Config.lengths_by.Given as goal

-- the blocks so far were added, and the next block's numbers are above theirs
abbrev pub invariant-loop-block : goal.invariant-loop-block
invariant-loop-block l =
    (l.lengths ≡ lengths_by l.device 1 (take l.block-index l.block-items)) × (l.id ≡ l.block-index) × (last_or 0 l.lengths < (l.id + 1) * 64)
