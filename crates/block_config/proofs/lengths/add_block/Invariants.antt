use Rattle.std.proofs.Common.{◌≡◌, ◌<◌, ◌+◌, ◌*◌, ◌++◌, map}
use Rattle.std.specs.List.{range_with_len}
use Rattle.nv_base.specs.Lengths.{last_or}
use Rattle.block_config.specs.Lengths.{length_at}
use Rattle.block_config.proofs.lengths.add_block.Given as goal

-- the instances so far were added, and the next number is above them
abbrev pub invariant-loop-index : goal.invariant-loop-index
invariant-loop-index l =
    (l.lengths ≡ l.initial.lengths ++ map (length_at l.id l.block.length) (range_with_len 0 l.index)) × (last_or 0 l.lengths < l.id * 64 + l.index)
