use Rattle.std.proofs.Common.{◌∙◌}
use Rattle.block_config.specs.Second.{is_shape_key}
use Rattle.block_config.proofs.Views.{list_all-keys_of}
use Rattle.block_config.proofs.second.has_shape_keys.Goals as goal

pub returns-in-Some : goal.returns-in-Some
returns-in-Some c =
    rw (← c.in-Some.ensures) (c.are_shape_keys.ensures ∙ list_all-keys_of is_shape_key c.in-Some.members.now.entries)
