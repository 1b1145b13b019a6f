use Rattle.promise_run.proofs.WrongCalls.{no_last_line}
use Rattle.promise_run.proofs.cases.runs_of_calls.Goals as goal

pub returns-clause-no_last_line : goal.returns-clause-no_last_line
returns-clause-no_last_line c = no_last_line

pub returns-clause-two_flashes : goal.returns-clause-two_flashes
returns-clause-two_flashes c = λ is. let none = is.beside in cc none
