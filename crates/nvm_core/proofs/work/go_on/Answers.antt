use Rattle.nvm_core.proofs.work.go_on.Goals as goal

pub returns-clause-keeps : goal.returns-clause-keeps
returns-clause-keeps g c = rw c.in-Some.is c.go_on_with.ensures.keeps

pub returns-clause-lowers : goal.returns-clause-lowers
returns-clause-lowers g c = rw c.in-Some.is c.go_on_with.ensures.lowers

pub returns-clause-left : goal.returns-clause-left
returns-clause-left g c = rw c.in-Some.is c.go_on_with.ensures.left
