use Rattle.nvm_top.proofs.stack.OneFlashFlashes.back.Goals as goal

pub returns : goal.returns
returns g c = λ x entry cuts origin. c.give_back.ensures x entry.flash cuts origin
