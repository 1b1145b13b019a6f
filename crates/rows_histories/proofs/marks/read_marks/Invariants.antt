use Rattle.std.proofs.Common.{◌≤◌}
use Rattle.block_machine.specs.nv_base.Marks.{next_or}
use Rattle.rows_histories.proofs.marks.read_marks.Given as goal

-- the marks so far stand below the least number
abbrev pub invariant-loop : goal.invariant-loop
invariant-loop l = next_or 0 l.marks ≤ l.least
