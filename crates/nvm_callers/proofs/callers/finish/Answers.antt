use Rattle.nvm_callers.proofs.Common.{sym, subst, List, knows, Entry, HasDriven}
use Rattle.nvm_callers.proofs.Following.{drives_follow}
use Rattle.nvm_callers.proofs.Passing.{have_run_on}
use Rattle.nvm_callers.proofs.callers.finish.Goals as goal

pub returns-clause-driven : goal.returns-clause-driven
returns-clause-driven g c =
    let t = c.args.shared.now.terms in
    let joined = subst (λ (l : List Entry). HasDriven g.D.MemDevice.told g.D.MemDevice.clock g.C.SyncCalls.told g.C.SyncCalls.is_store g.C.SyncCalls.looked g.C.SyncCalls.over g.C.NotedCopies.stands t (knows c.args.pass).seen l c.args.driver c.args.driver) (sym c.join_all-ending.ensures.seen) c.see.ensures.steers.driven in
    drives_follow g.D.MemDevice.told g.D.MemDevice.clock g.C.SyncCalls.told g.C.SyncCalls.is_store g.C.SyncCalls.looked g.C.SyncCalls.over g.C.NotedCopies.stands t
    _ _ _ _ _ _ joined c.come_to_rest.ensures.steers.driven

pub returns-clause-ran : goal.returns-clause-ran
returns-clause-ran g c =
    have_run_on g.S.Stores.bytes g.S.Stores.made g.S.Stores.mirrors c.args.shared.now.terms c.args.programs.now c.args.firsts.now.value.items c.join_all-ending.result.1.items c.join_all-ending.result.0 (knows c.join_all-ending.new.pass) (knows c.come_to_rest.new.pass)
    c.come_to_rest.ensures.steers.shares c.join_all-ending.ensures.ran
