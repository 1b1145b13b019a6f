use Rattle.std.proofs.Common.{refl}
use Rattle.fee_image.proofs.Soundness.{sound_images_compute}
use Rattle.promise_run.proofs.LostWrite as law
use Rattle.promise_run.proofs.WrongMarks.{lost_count_breaks, lost_write_breaks}
use Rattle.promise_run.proofs.cases.a_lost_write_breaks_it.Goals as goal

pub returns-clause-breaks : goal.returns-clause-breaks
returns-clause-breaks c = lost_write_breaks sound_images_compute

pub returns-clause-counts : goal.returns-clause-counts
returns-clause-counts c = lost_count_breaks sound_images_compute

pub returns-clause-order : goal.returns-clause-order
returns-clause-order c = law.keeps_order

pub returns-clause-found : goal.returns-clause-found
returns-clause-found c = law.start_ups_find

pub returns-clause-early : goal.returns-clause-early
returns-clause-early c = law.begins_well

pub returns-clause-at_exit : goal.returns-clause-at_exit
returns-clause-at_exit c = λ started few. law.exit_keeps sound_images_compute

pub returns-clause-block_machine : goal.returns-clause-block_machine
returns-clause-block_machine c = law.is_legal

pub returns-clause-faults : goal.returns-clause-faults
returns-clause-faults c = law.is_paid

pub returns-clause-refusals : goal.returns-clause-refusals
returns-clause-refusals c = law.no_refusals

pub returns-clause-operations : goal.returns-clause-operations
returns-clause-operations c = law.are_operations

pub returns-clause-counted : goal.returns-clause-counted
returns-clause-counted c = law.tells_few

pub returns-clause-wear : goal.returns-clause-wear
returns-clause-wear c = λ told starts. refl
