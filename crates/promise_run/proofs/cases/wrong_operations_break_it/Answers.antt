use Rattle.promise_run.proofs.WrongOperations.{not_with_room, not_beside_last, not_untold, when_full, not_over_a_record}
use Rattle.promise_run.proofs.cases.wrong_operations_break_it.Goals as goal

pub returns-clause-with_room : goal.returns-clause-with_room
returns-clause-with_room c = (λ p. p.wear, not_with_room)

pub returns-clause-beside_last : goal.returns-clause-beside_last
returns-clause-beside_last c = (λ p. p.wear, not_beside_last)

pub returns-clause-when_full : goal.returns-clause-when_full
returns-clause-when_full c = when_full

pub returns-clause-over_a_record : goal.returns-clause-over_a_record
returns-clause-over_a_record c = (λ p. p.wear, not_over_a_record)

pub returns-clause-without_its_off : goal.returns-clause-without_its_off
returns-clause-without_its_off c = (λ p. p.power, not_untold)
