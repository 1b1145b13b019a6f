use Rattle.std.proofs.Common.{◌≤◌, ℕ}
use Rattle.block_machine.specs.Blocks.{desc_of}
use Rattle.nv_desk.proofs.longest.longest_content.Given as goal

abbrev pub invariant-loop-i : goal.invariant-loop-i
invariant-loop-i l = (id : ℕ) → id ≤ l.i → (desc_of l.config id).length ≤ l.longest
