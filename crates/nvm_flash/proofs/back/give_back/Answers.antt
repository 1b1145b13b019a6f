use Rattle.promise_run.specs.Promise.{making_of}
use Rattle.nvm_flash.proofs.back.give_back.Goals as goal

pub returns : goal.returns
returns g c = λ x inner cuts origin. c.give_bank_back.ensures (making_of x) inner cuts origin.made_for origin.over
