-- How a stack whose application stores in memory is seen.
use Rattle.std.specs.Prelude.{List}
use Rattle.uds_gateway.specs.memif.Told.{DeviceTold}
use Rattle.uds_gateway.specs.memif.Clock.{Clock}
use Rattle.uds_gateway.specs.ram_blocks.declared.plain_block.PlainBlock.{PlainBlock}
use Rattle.uds_gateway.specs.nvm_core.Stack.{StackState}
use Rattle.uds_gateway.specs.nvm_moves.Seen.{Seen, seen_as}
use Rattle.script_player.specs.PlainKept.{kept_by}

-- all is kept as far as its device tells it, by what was told before the first start-up
abbrev pub seen_by : {D : Type 0} → (device : D → DeviceTold) → (clock : D → Clock) → StackState D (List PlainBlock) → Seen
seen_by device clock s = seen_as device clock (kept_by device clock s) s
