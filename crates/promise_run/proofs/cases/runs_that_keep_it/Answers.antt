use Rattle.fee_image.proofs.Banks.{no_active_computes}
use Rattle.fee_image.proofs.Soundness.{torn_erases_make_no_bank, torn_erases_keep_sound, torn_erases_set_bits, blank_is_sound, blank_has_erased}
use Rattle.promise_run.proofs.KeptRuns.{write_keeps}
use Rattle.promise_run.proofs.cases.runs_that_keep_it.Goals as goal

pub returns-clause-kept_write : goal.returns-clause-kept_write
returns-clause-kept_write c = write_keeps no_active_computes torn_erases_make_no_bank torn_erases_keep_sound torn_erases_set_bits blank_is_sound blank_has_erased
