use Rattle.nvm_callers.proofs.Common.{knows}
use Rattle.nvm_callers.proofs.Driving.{count_steers, steered_more}
use Rattle.nvm_callers.proofs.steering.see.Goals as goal

pub returns-then-entries-count_with-clause-steers : goal.returns-then-entries-count_with-clause-steers
returns-then-entries-count_with-clause-steers g c =
    steered_more g.D.MemDevice.told g.D.MemDevice.clock g.C.SyncCalls.told g.C.SyncCalls.is_store g.C.SyncCalls.looked g.C.SyncCalls.over g.C.NotedCopies.stands c.args.shared.now.terms
    (knows c.args.pass.now) (knows c.loop.pass) (knows c.count_with.new.pass) c.args.driver.now c.args.driver.now c.args.driver.now c.loop.invariant.1
    (count_steers g.D.MemDevice.told g.D.MemDevice.clock g.C.SyncCalls.told g.C.SyncCalls.is_store g.C.SyncCalls.looked g.C.SyncCalls.over g.C.NotedCopies.stands c.args.shared.now.terms
    (knows c.loop.pass) (knows c.count_with.new.pass) c.args.driver.now c.count_with.ensures.more c.count_with.ensures.learns c.loop.invariant.0.drives c.count_with.ensures.sees c.count_with.ensures.keeps)

pub loop-preserved : goal.loop-preserved
loop-preserved g c = (
  c.count_with.ensures.driver,
  steered_more g.D.MemDevice.told g.D.MemDevice.clock g.C.SyncCalls.told g.C.SyncCalls.is_store g.C.SyncCalls.looked g.C.SyncCalls.over g.C.NotedCopies.stands c.args.shared.now.terms
      (knows c.args.pass.now) (knows c.loop.pass) (knows c.count_with.new.pass) c.args.driver.now c.args.driver.now c.args.driver.now c.loop.invariant.1
      (count_steers g.D.MemDevice.told g.D.MemDevice.clock g.C.SyncCalls.told g.C.SyncCalls.is_store g.C.SyncCalls.looked g.C.SyncCalls.over g.C.NotedCopies.stands c.args.shared.now.terms
      (knows c.loop.pass) (knows c.count_with.new.pass) c.args.driver.now c.count_with.ensures.more c.count_with.ensures.learns c.loop.invariant.0.drives c.count_with.ensures.sees c.count_with.ensures.keeps),
)
