use Rattle.std.proofs.Common.{◌≡◌, take, None}
use Rattle.std.specs.Prelude.{find}
use Rattle.block_machine.specs.Blocks.{same_instance}
use Rattle.rows_histories.proofs.found.find_mark.Given as goal

abbrev pub invariant-loop-i : goal.invariant-loop-i
invariant-loop-i l = find (λ x. same_instance l.instance x.0) (take l.i l.marks) ≡ None
