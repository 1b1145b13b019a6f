use Rattle.nvm_shared.specs.Known.{view_of}
use Rattle.nvm_shared.proofs.known.Known.compare.Given as goal

-- what the copy knows
abbrev pub ghost-compare : goal.ghost-compare
ghost-compare g a = view_of a.known.now.views
