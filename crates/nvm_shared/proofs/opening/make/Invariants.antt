use Rattle.nvm_shared.proofs.opening.make.Given as goal

abbrev pub ghost-share : goal.ghost-share
ghost-share g a = g.tells
