use Rattle.fee_image.proofs.Soundness.{blank_is_sound, blank_has_erased}
use Rattle.promise_run.proofs.TwoFlashes.{both_keep, not_changed, cut_of_second, not_of_first, not_later, not_of_other_bytes}
use Rattle.promise_run.proofs.cases.runs_over_two_flashes.Goals as goal

pub returns-clause-keeps : goal.returns-clause-keeps
returns-clause-keeps c = both_keep blank_is_sound blank_has_erased

pub returns-clause-changes : goal.returns-clause-changes
returns-clause-changes c = (λ p. (p.own.came, p.other.came, p.operations tt), λ is. not_changed is.0 is.1 is.2)

pub returns-clause-second_is_cut : goal.returns-clause-second_is_cut
returns-clause-second_is_cut c = cut_of_second

pub returns-clause-cut_of_first : goal.returns-clause-cut_of_first
returns-clause-cut_of_first c = (λ p. (p.own, p.other, p.off), not_of_first)

pub returns-clause-cut_later : goal.returns-clause-cut_later
returns-clause-cut_later c = (λ p. (p.own, p.other, p.off), not_later)

pub returns-clause-cut_of_other_bytes : goal.returns-clause-cut_of_other_bytes
returns-clause-cut_of_other_bytes c = (λ p. (p.own, p.other, p.off), not_of_other_bytes)
