use Rattle.std.proofs.Common.{◌≡◌}
use Rattle.serde_json.specs.View.{members_view}
use Rattle.block_config.specs.Values.{data_or, no_values}
use Rattle.block_config.proofs.values.Values.among.Given as goal

-- what was found, and what is left of the members
abbrev pub invariant-loop-key : goal.invariant-loop-key
invariant-loop-key l =
    data_or l.values (members_view l.key-iterator) ≡ data_or no_values (members_view l.fn.members.entries)
