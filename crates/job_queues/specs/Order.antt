-- The order of waiting jobs: the machine's, over what a queue knows of a job.
use Rattle.std.specs.Prelude.{List, fold, if◌then◌else◌, Option, Some, None}
use Rattle.block_machine.specs.Order.{Rank, goes_before}
use Rattle.job_queues.specs.declared.waiting.Waiting.{Waiting}

abbrev pub rank_of : Waiting → Rank
rank_of w = record { immediate = w.immediate; priority = w.priority; number = w.number }

-- of two jobs the one that goes first
abbrev pub first_of_two : Option Waiting → Waiting → Option Waiting
first_of_two None w = Some w
first_of_two (Some best) w = if goes_before (rank_of w) (rank_of best) then Some w else Some best

-- the one that goes before all others
abbrev pub first_of : List Waiting → Option Waiting
first_of ws = fold first_of_two None ws
