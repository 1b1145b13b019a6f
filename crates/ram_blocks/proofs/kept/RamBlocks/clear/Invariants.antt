use Rattle.std.proofs.Common.{◌≡◌, ◌++◌, length, map, take, drop}
use Rattle.ram_blocks.specs.Kept.{zeros}
use Rattle.ram_blocks.proofs.kept.RamBlocks.clear.Given as goal

abbrev pub invariant-loop-i : goal.invariant-loop-i
invariant-loop-i l = (length l.self-inside.blocks.items ≡ l.i-end) × (l.i-end ≡ length l.fn.self) × (l.self-inside.blocks.items ≡ map (λ r. zeros (length r.content)) (take l.i l.fn.self) ++ drop l.i l.fn.self)
