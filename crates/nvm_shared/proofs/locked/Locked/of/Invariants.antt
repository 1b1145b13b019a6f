use Rattle.nvm_shared.proofs.locked.Locked.of.Given as goal

abbrev pub ghost-picked : goal.ghost-picked
ghost-picked g a = g.tells
