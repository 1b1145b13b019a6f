-- A history up to an operation of the flash, and the marks that may stand then.
use Rattle.std.specs.Prelude.{ℕ, nat_le, Bool, false, List, [], ◌∷◌, if◌then◌else◌, Option, Some, None}
use Rattle.std.specs.List.{list_any}
use Rattle.std.specs.Option.{option_map_or}
use Rattle.nv_base.specs.Cell.{MayStand}
use Rattle.nv_base.specs.Entry.{ops_of}
use Rattle.block_machine.specs.Words.{Instance, Mark, Entry, Configuration}
use Rattle.block_machine.specs.State.{InstanceState}
use Rattle.block_machine.specs.Blocks.{instance_at}
use Rattle.block_machine.specs.Steps.{after}

-- a driver entry that was made when the device was asked for at most k operations
abbrev pub is_driver_until : ℕ → Entry → Bool
is_driver_until k e = option_map_or (λ ops. nat_le ops k) (ops_of e) false

-- a history up to and with the last of them
abbrev pub up_to : ℕ → List Entry → List Entry
up_to k [] = []
up_to k (e ∷ es) = if list_any (is_driver_until k) (e ∷ es) then e ∷ up_to k es else []

abbrev pub MayStandIn : Option InstanceState → Mark → Type 0
MayStandIn (Some x) mark = MayStand x.cell mark
MayStandIn None mark = ⊥

-- a mark may stand in a configured instance when the flash was asked for k operations: after the history up to then it
-- is settled, or a job took it since
abbrev pub IsAllowedAt : Configuration → List Entry → ℕ → Instance → Mark → Type 0
IsAllowedAt c h k i mark = MayStandIn (instance_at (after c (up_to k h)) i) mark
