use Rattle.std.proofs.Common.{◌<◌, ◌+◌, ℕ, take}
use Rattle.block_machine.specs.Blocks.{instance_at}
use Rattle.block_machine.specs.StartUp.{listed_mark}
use Rattle.block_machine.specs.Steps.{after}
use Rattle.block_machine.specs.Legal.{IsLegal}
use Rattle.block_machine.specs.History.{MayStandIn}
use Rattle.rows_histories.specs.Instances.{EachIndexOf}
use Rattle.rows_histories.proofs.start_up.each_may_stand.Given as goal

abbrev pub invariant-loop-place : goal.invariant-loop-place
invariant-loop-place l = (cap : ℕ) → IsLegal l.config cap (take l.count l.history.entries) → (id : ℕ) → id < l.place + 1
    → EachIndexOf l.config id (λ i. MayStandIn (instance_at (after l.config (take l.count l.history.entries)) i) (listed_mark l.marks i))
