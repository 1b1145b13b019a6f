use Rattle.nvm_shared.proofs.opening.share.Given as goal

abbrev pub ghost-of : goal.ghost-of
ghost-of g a = g.tells
