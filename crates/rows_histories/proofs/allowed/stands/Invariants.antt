use Rattle.std.proofs.Common.{ℕ, take}
use Rattle.block_machine.specs.Steps.{after}
use Rattle.block_machine.specs.Legal.{IsLegal}
use Rattle.rows_histories.specs.Seen.{IsSeen}
use Rattle.rows_histories.proofs.allowed.stands.Given as goal

abbrev pub invariant-loop-i : goal.invariant-loop-i
invariant-loop-i l =
    (cap : ℕ) → IsLegal l.config cap (take l.count l.history.entries) → IsSeen l.instance l.mark l.seen (after l.config (take l.i (take l.count l.history.entries)))
