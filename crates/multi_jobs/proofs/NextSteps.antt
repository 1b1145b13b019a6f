-- The members of a sweep that begins, and its next step.
use Rattle.std.proofs.Common.{rules}
use Rattle.block_machine.specs.Words.{WriteAllJob}
use Rattle.multi_jobs.specs.Laws.{BeginsWithAll, StepIsNext}

pub begins_with_all : BeginsWithAll
begins_with_all c WriteAllJob = search rules
begins_with_all c job = search rules

pub step_is_next : StepIsNext
step_is_next = search rules
