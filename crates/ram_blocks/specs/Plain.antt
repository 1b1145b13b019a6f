-- Synchronized blocks in memory.
use Rattle.std.specs.Prelude.{◌≡◌, ◌<◌, ℕ, ◌+◌, ◌-◌, ◌==◌, min, List, [], ◌∷◌, map, length, replicate, unwrap_or, if◌then◌else◌, Option, Some, None}
use Rattle.block_machine.specs.nv_base.Count.{Rose, next_count, last_count}
use Rattle.block_machine.specs.block_config.declared.block.BlockDesc.{BlockDesc}
use Rattle.block_machine.specs.block_config.Config.{Configuration}
use Rattle.block_machine.specs.Blocks.{is_synchronized}
use Rattle.ram_blocks.specs.declared.sync_calls.Copied.{Copied}
use Rattle.ram_blocks.specs.declared.sync_calls.Copied.TheVariants.{Got, Refused}
use Rattle.ram_blocks.specs.declared.plain_block.PlainBlock.{PlainBlock}
use Rattle.ram_blocks.specs.Told.{Told}
use Rattle.ram_blocks.specs.Copies.{next_number}

-- ONE BLOCK

-- before the first store, with this content
abbrev pub fresh_block : List ℕ → PlainBlock
fresh_block content = record { content = content; number = 0; last = replicate (length content) 0; handed = 0; refusals = 0; to_refuse = 0 }

-- one that isn't synchronized
abbrev pub no_plain : PlainBlock
no_plain = fresh_block []

-- a copy was refused
abbrev pub refused : PlainBlock → PlainBlock
refused b = record b { to_refuse = b.to_refuse - 1; refusals = next_count b.refusals }

-- the next copies are to be refused, so many more
abbrev pub refusing : ℕ → PlainBlock → PlainBlock
refusing count b = record b { to_refuse = min (b.to_refuse + count) last_count }

-- the application stored a content
abbrev pub stored : List ℕ → PlainBlock → PlainBlock
stored content b = record b { content = content; number = next_number b.number }

-- a content was handed to it
abbrev pub handed_over : List ℕ → PlainBlock → PlainBlock
handed_over content b = record b { last = content; handed = next_number b.handed }

-- a copy out: it is refused exactly while copies are to be
abbrev pub IsCopiedOut : Copied → List ℕ → PlainBlock → PlainBlock → Type 0
IsCopiedOut (Got n) content old new = (old.to_refuse ≡ 0) × (n ≡ old.number) × (content ≡ old.content) × (new ≡ old)
IsCopiedOut Refused content old new = (0 < old.to_refuse) × Rose old.refusals new.refusals × (new ≡ refused old)

abbrev pub IsCopiedIn : Copied → List ℕ → PlainBlock → PlainBlock → Type 0
IsCopiedIn (Got n) content old new = (old.to_refuse ≡ 0) × (n ≡ next_number old.handed) × (new ≡ handed_over content old)
IsCopiedIn Refused content old new = (0 < old.to_refuse) × Rose old.refusals new.refusals × (new ≡ refused old)

abbrev pub IsWhole : PlainBlock → Type 0
IsWhole b = length b.last ≡ length b.content

-- THE BLOCKS OF A CONFIGURATION

-- what is told of a block: nothing where it has no bytes
abbrev pub told_of : PlainBlock → Told
told_of b = if length b.content == 0 then None else Some (record { bytes = length b.content; refusals = b.refusals; to_refuse = Some b.to_refuse; handed = b.handed; last = b.last })

-- its newest store
abbrev pub store_of : PlainBlock → ℕ × List ℕ
store_of b = (b.number, b.content)

-- before the first store the application holds the defaults, or zeros
abbrev pub plain_of : BlockDesc → PlainBlock
plain_of d = if is_synchronized d.ram then fresh_block (unwrap_or d.defaults (replicate d.length 0)) else no_plain

abbrev pub plain_by : Option BlockDesc → PlainBlock
plain_by None = no_plain
plain_by (Some d) = plain_of d

-- by id, from 0 on
abbrev pub plain_blocks_of : Configuration → List PlainBlock
plain_blocks_of c = no_plain ∷ map plain_of c.blocks
