-- How many operations a run makes.
use Rattle.std.specs.Prelude.{◌≤◌, ◌+◌, ℕ, length, min}
use Rattle.block_machine.specs.nv_base.Count.{last_count}
use Rattle.block_machine.specs.State.{State, Job}
use Rattle.promise_device.specs.FlashRun.{TellsBytes, StartsSound}
use Rattle.promise_run.specs.Promise.{making_of}
use Rattle.promise_run.specs.Run.{Run, Course}
use Rattle.promise_blocks.specs.Work.{operations_at_most}
use Rattle.promise_run.specs.Operations.{costs_of, has_free, left_behind}
use Rattle.promise_run.specs.Turns.{KeepsTurns, state_begun}

-- Over a flash that tells its bytes, from a sound image on, the operations of a run are at most what its tries and its faults add, where
-- a try of which the bytes had the pages free adds no switch of banks; and a switch, where a fault was counted by the first start-up.
abbrev pub RunsMakeFew : Type 0
RunsMakeFew =
    (most : State → Job → ℕ) (r : Run) (course : Course) (keeps : KeepsTurns most r course) → TellsBytes r.flash → StartsSound (making_of r.configuration) r.flash
    → min (length r.flash.operations) last_count ≤ keeps.first.ops + left_behind (costs_of r.configuration) keeps.first
    + operations_at_most (costs_of r.configuration) (has_free (making_of r.configuration) r.flash) r.configuration keeps.first (state_begun r) keeps.moves keeps.work.efforts
