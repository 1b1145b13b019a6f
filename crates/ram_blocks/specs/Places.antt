-- The place of a block in memory.
use Rattle.ram_blocks.specs.declared.plain_block.PlainBlock.{PlainBlock}
use Rattle.ram_blocks.specs.declared.plain_place.Placed.{Placed}
use Rattle.ram_blocks.specs.declared.plain_place.Placed.TheVariants.{Synchronized, Other}
use Rattle.ram_blocks.specs.Plain.{no_plain}

-- the block there: one without bytes where it isn't synchronized
abbrev pub block_in : Placed → PlainBlock
block_in (Synchronized b) = b.value
block_in (Other to_refuse) = record no_plain { to_refuse = to_refuse }
