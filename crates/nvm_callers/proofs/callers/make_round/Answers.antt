use Rattle.nvm_callers.proofs.callers.make_round.Goals as goal

pub returns-then-not-is_empty-clause-on : goal.returns-then-not-is_empty-clause-on
returns-then-not-is_empty-clause-on g c = λ place d low. (c.run_shared.ensures.each place d low).1
