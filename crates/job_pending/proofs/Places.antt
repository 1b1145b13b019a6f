-- How many jobs wait at most.
use Rattle.std.proofs.Common.{◌≤◌, List, length, Option}
use Rattle.block_machine.specs.Words.{Configuration}
use Rattle.block_machine.specs.State.{Job}
use Rattle.job_pending.specs.Pending.{Pending, Agree}
use Rattle.job_pending.proofs.Fitting.{few_jobs}

-- no more than there are places, since no two are on one block
pub few_waiting : (c : Configuration) (p : Pending) (waiting : List Job) (held : Option Job) → Agree c p waiting held → length waiting ≤ p.slots.places
few_waiting c p waiting held agree = few_jobs p.slots.places waiting agree.apart agree.below
