use Rattle.std.proofs.Common.{[], refl, arith}
use Rattle.promise_run.specs.Cases.{blank}
use Rattle.promise_run.proofs.cases.a_list_that_ends_early_breaks_it.Goals as goal

pub returns : goal.returns
returns c = (λ p. p.operations tt, λ are. let t = are.told (record { bytes = record { first = []; entry = refl; last = blank; exit = refl }; room = (refl, omega arith) }) in absurd (let none = t.told in cc none))
