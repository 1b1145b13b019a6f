use Rattle.std.proofs.Common.{◌<◌, ◌≤◌, ℕ, inl, inr, arith}
use Rattle.block_machine.specs.nv_base.Count.{WereCounted}
use Rattle.memif.specs.Told.{First, Second}
use Rattle.promise_blocks.proofs.cases.start_ups_that_are_not_told.Goals as goal

none : (n : ℕ) → WereCounted n 0 0 → n ≤ 0
none n (inl few) = omega (arith, few)
none n (inr full) = absurd (omega (arith, full))

pub returns-clause-without_a_fault : goal.returns-clause-without_a_fault
returns-clause-without_a_fault c told =
    absurd (let first = none (told.failed First) (told.counted First) in let second = none (told.failed Second) (told.counted Second) in let all = told.all in omega (arith, first, second, all))

pub returns-clause-without_a_start_up : goal.returns-clause-without_a_start_up
returns-clause-without_a_start_up c told = absurd (let all = told.all in omega (arith, all))
