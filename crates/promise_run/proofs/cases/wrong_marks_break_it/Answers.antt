use Rattle.fee_image.proofs.Soundness.{blank_is_sound, blank_has_erased}
use Rattle.promise_run.proofs.WrongMarks.{made_up_early, made_up_mark_breaks, other_dataset_breaks}
use Rattle.promise_run.proofs.cases.wrong_marks_break_it.Goals as goal

pub returns-clause-made_up_mark : goal.returns-clause-made_up_mark
returns-clause-made_up_mark c = made_up_mark_breaks blank_is_sound blank_has_erased

pub returns-clause-made_up_early : goal.returns-clause-made_up_early
returns-clause-made_up_early c = made_up_early blank_has_erased

pub returns-clause-other_dataset : goal.returns-clause-other_dataset
returns-clause-other_dataset c = other_dataset_breaks blank_is_sound
