use Rattle.std.proofs.Common.{ap, subst}
use Rattle.nvm_laws.specs.block_config.Config.{Configuration}
use Rattle.nvm_laws.specs.nv_desk_copies.Front.{StagesAll, AreSynchronized}
use Rattle.nvm_core.proofs.stack.Stack.into_parts.Goals as goal

pub returns-clause-staging : goal.returns-clause-staging
returns-clause-staging g c = subst (λ (x : Configuration). StagesAll x c.self.inside.front.staging) (ap (λ s. s.desk.config) c.self.view_is) c.self.invariant.stages

pub returns-clause-synchronized : goal.returns-clause-synchronized
returns-clause-synchronized g c = subst (λ s. AreSynchronized s.desk.config (g.C.SyncCalls.told s.copies)) c.self.view_is c.self.invariant.synchronized
