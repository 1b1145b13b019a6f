use Rattle.promise_run.proofs.WrongCauses.{no_off_without_a_cut, not_15, just_16, not_too_soon, not_twice, no_worn_but_roomy, no_worn_but_kept, no_worn_long_ago, full_is_worn, kept_is_worn}
use Rattle.promise_run.proofs.cases.wrong_causes_break_it.Goals as goal

pub returns-clause-off_without_a_cut : goal.returns-clause-off_without_a_cut
returns-clause-off_without_a_cut c = (λ p. p.off, no_off_without_a_cut)

pub returns-clause-let_15_done : goal.returns-clause-let_15_done
returns-clause-let_15_done c = (λ p. p.off, not_15)

pub returns-clause-let_16_done : goal.returns-clause-let_16_done
returns-clause-let_16_done c = just_16

pub returns-clause-cut_too_soon : goal.returns-clause-cut_too_soon
returns-clause-cut_too_soon c = (λ p. p.off, not_too_soon)

pub returns-clause-cut_twice : goal.returns-clause-cut_twice
returns-clause-cut_twice c = (λ p. p.off, not_twice)

pub returns-clause-worn_but_roomy : goal.returns-clause-worn_but_roomy
returns-clause-worn_but_roomy c = (λ p. p.faults, no_worn_but_roomy)

pub returns-clause-worn_long_ago : goal.returns-clause-worn_long_ago
returns-clause-worn_long_ago c = (λ p. p.faults, no_worn_long_ago)

pub returns-clause-worn_and_full : goal.returns-clause-worn_and_full
returns-clause-worn_and_full c = full_is_worn

pub returns-clause-immediate_but_kept : goal.returns-clause-immediate_but_kept
returns-clause-immediate_but_kept c = (λ p. p.faults, no_worn_but_kept)

pub returns-clause-standard_but_kept : goal.returns-clause-standard_but_kept
returns-clause-standard_but_kept c = kept_is_worn
