use Rattle.std.proofs.Common.{◌≡◌, take, fold}
use Rattle.job_queues.specs.Order.{first_of_two}
use Rattle.job_queues.proofs.ring.first_among.Given as goal

-- the jobs so far were looked at
abbrev pub invariant-loop-job : goal.invariant-loop-job
invariant-loop-job l = l.first ≡ fold first_of_two l.initial.first (take l.job-index l.jobs)
