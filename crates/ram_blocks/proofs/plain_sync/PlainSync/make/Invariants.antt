use Rattle.std.proofs.Common.{◌≡◌, ◌∷◌, map, take}
use Rattle.ram_blocks.specs.Plain.{plain_of, no_plain}
use Rattle.ram_blocks.proofs.plain_sync.PlainSync.make.Given as goal

abbrev pub invariant-loop-i : goal.invariant-loop-i
invariant-loop-i l = l.blocks.items ≡ no_plain ∷ map plain_of (take l.i l.config.blocks)
