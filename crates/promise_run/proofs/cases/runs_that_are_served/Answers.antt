use Rattle.fee_image.proofs.Soundness.{sound_images_compute}
use Rattle.promise_run.proofs.WrongCalls.{posted_well, not_drained_by_order, not_failed}
use Rattle.promise_run.proofs.cases.runs_that_are_served.Goals as goal

pub returns-clause-not_drained : goal.returns-clause-not_drained
returns-clause-not_drained c = (λ p. p.order, not_drained_by_order)

pub returns-clause-served : goal.returns-clause-served
returns-clause-served c = posted_well

pub returns-clause-not_failed : goal.returns-clause-not_failed
returns-clause-not_failed c = not_failed sound_images_compute
