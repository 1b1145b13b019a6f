use Rattle.std.proofs.Common.{◌≡◌, take}
use Rattle.block_config.proofs.items.items_of.Given as goal

-- the values so far were looked up
abbrev pub invariant-loop-value : goal.invariant-loop-value
invariant-loop-value l = l.items.items ≡ take l.value-index l.values
