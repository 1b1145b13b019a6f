use Rattle.std.proofs.Common.{◌≡◌, map, take, Some}
use Rattle.serde_json.specs.View.{view}
use Rattle.block_config.specs.Item.{contents_of}
use Rattle.block_config.proofs.description.contents_of.Given as goal

-- the strings so far were read
abbrev pub invariant-loop-item : goal.invariant-loop-item
invariant-loop-item l = l.contents ≡ contents_of (Some (map view (take l.item-index l.items)))
