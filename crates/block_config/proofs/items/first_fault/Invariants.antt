use Rattle.std.proofs.Common.{◌≡◌, ◌-◌, map}
use Rattle.std.specs.List.{range_with_len}
use Rattle.serde_json.specs.View.{view}
use Rattle.block_config.specs.Reading.{first_fault, item_rules}
use Rattle.block_config.proofs.items.first_fault.Given as goal

-- the rules so far are kept
abbrev pub invariant-loop-rule : goal.invariant-loop-rule
invariant-loop-rule l =
    first_fault (range_with_len l.rule (23 - l.rule)) (map view l.items) ≡ first_fault item_rules (map view l.items)
