use Rattle.std.proofs.Common.{◌≡◌, ◌+◌, map, drop}
use Rattle.serde_json.specs.View.{view}
use Rattle.block_config.specs.Reading.{breaker}
use Rattle.block_config.proofs.items.breaker.Given as goal

-- the items so far keep the rule
abbrev pub invariant-loop-item : goal.invariant-loop-item
invariant-loop-item l =
    (l.block ≡ l.item-index + 2) × (breaker l.rule l.block (map view (drop l.item-index l.items)) ≡ breaker l.rule 2 (map view l.items))
