use Rattle.std.proofs.Common.{◌≤◌, ℕ}
use Rattle.block_machine.specs.Blocks.{desc_of}
use Rattle.nv_desk_copies.specs.Front.{staged_length}
use Rattle.nv_desk_copies.proofs.staged.longest_staged.Given as goal

abbrev pub invariant-loop-i : goal.invariant-loop-i
invariant-loop-i l = (id : ℕ) → id ≤ l.i → staged_length (desc_of l.config id) ≤ l.longest
