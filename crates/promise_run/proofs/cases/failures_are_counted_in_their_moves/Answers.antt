use Rattle.fee_image.proofs.Soundness.{sound_images_compute}
use Rattle.promise_run.proofs.Failing.{counts_own, not_late, mended_kept, not_posted_on_credit, not_on_credit, not_untold}
use Rattle.promise_run.proofs.cases.failures_are_counted_in_their_moves.Goals as goal

pub returns-clause-own : goal.returns-clause-own
returns-clause-own c = counts_own

pub returns-clause-told_late : goal.returns-clause-told_late
returns-clause-told_late c = not_late

pub returns-clause-starts_on_credit : goal.returns-clause-starts_on_credit
returns-clause-starts_on_credit c = not_on_credit

pub returns-clause-untold : goal.returns-clause-untold
returns-clause-untold c = not_untold

pub returns-clause-mended : goal.returns-clause-mended
returns-clause-mended c = mended_kept

pub returns-clause-posts_on_credit : goal.returns-clause-posts_on_credit
returns-clause-posts_on_credit c = not_posted_on_credit sound_images_compute
