-- The members of a sweep.
use Rattle.std.specs.Prelude.{ℕ, ◌+◌, Bool, false, List, map, filter, drop, if◌then◌else◌, Option, Some, None}
use Rattle.std.specs.List.{enumerate_from}
use Rattle.block_machine.specs.block_config.declared.block.BlockDesc.{BlockDesc}
use Rattle.block_machine.specs.block_config.Config.{Configuration}

-- a block is a member of a WriteAll, or of a ReadAll
abbrev pub is_member : Bool → BlockDesc → Bool
is_member writes d = if writes then d.writeall else d.readall

abbrev pub is_member_at : Bool → Option BlockDesc → Bool
is_member_at writes None = false
is_member_at writes (Some d) = is_member writes d

-- the members behind block 1 and so many blocks more, ascending
abbrev pub ids_from : Configuration → Bool → ℕ → List ℕ
ids_from c writes passed = map (λ x. x.0) (filter (λ x. is_member writes x.1) (enumerate_from (passed + 2) (drop (passed + 1) c.blocks)))
