use Rattle.std.proofs.Common.{◌<◌, ℕ, take}
use Rattle.block_machine.specs.Blocks.{instance_at}
use Rattle.block_machine.specs.StartUp.{listed_mark}
use Rattle.block_machine.specs.Steps.{after}
use Rattle.block_machine.specs.Legal.{IsLegal}
use Rattle.block_machine.specs.History.{MayStandIn}
use Rattle.rows_histories.proofs.start_up.block_may_stand.Given as goal

abbrev pub invariant-loop-index : goal.invariant-loop-index
invariant-loop-index l = (cap : ℕ) → IsLegal l.config cap (take l.count l.history.entries) → (index : ℕ) → index < l.index
    → MayStandIn (instance_at (after l.config (take l.count l.history.entries)) (record { block = l.id; index = index })) (listed_mark l.marks (record { block = l.id; index = index }))
