use Rattle.std.proofs.Common.{◌≡◌, ◌∷◌, map, take}
use Rattle.std.specs.List.{enumerate_from}
use Rattle.ram_blocks.specs.Kept.{ram_of, no_ram}
use Rattle.ram_blocks.proofs.kept.RamBlocks.make.Given as goal

abbrev pub invariant-loop-i : goal.invariant-loop-i
invariant-loop-i l = l.blocks.items ≡ no_ram ∷ map (λ x. ram_of x.0 x.1) (enumerate_from 1 (take l.i l.config.blocks))
