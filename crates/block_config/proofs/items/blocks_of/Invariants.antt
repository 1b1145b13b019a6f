use Rattle.std.proofs.Common.{◌≡◌, ◌∷◌, map, take}
use Rattle.serde_json.specs.View.{view}
use Rattle.block_config.specs.Block.{manager_block}
use Rattle.block_config.specs.Item.{block_of}
use Rattle.block_config.proofs.items.blocks_of.Given as goal

-- the items so far were described
abbrev pub invariant-loop-item : goal.invariant-loop-item
invariant-loop-item l =
    l.blocks.items ≡ manager_block l.id ∷ map block_of (map view (take l.item-index l.items))
