use Rattle.nvm_callers.proofs.Common.{◌∙◌, knows}
use Rattle.nvm_callers.proofs.Driving.{steered_more}
use Rattle.nvm_callers.proofs.steering.come_to_rest.Goals as goal

pub returns-then-ends_turns-clause-steers : goal.returns-then-ends_turns-clause-steers
returns-then-ends_turns-clause-steers g c =
    steered_more g.D.MemDevice.told g.D.MemDevice.clock g.C.SyncCalls.told g.C.SyncCalls.is_store g.C.SyncCalls.looked g.C.SyncCalls.over g.C.NotedCopies.stands c.args.shared.now.terms
    (knows c.args.pass.now) (knows c.loop.pass) (knows c.ends_turns.new.pass) c.args.driver.now c.loop.driver c.ends_turns.new.driver c.loop.invariant.1 c.ends_turns.ensures.steers

pub loop-preserved : goal.loop-preserved
loop-preserved g c = (
  c.ends_turns.ensures.driver,
  steered_more g.D.MemDevice.told g.D.MemDevice.clock g.C.SyncCalls.told g.C.SyncCalls.is_store g.C.SyncCalls.looked g.C.SyncCalls.over g.C.NotedCopies.stands c.args.shared.now.terms
      (knows c.args.pass.now) (knows c.loop.pass) (knows c.ends_turns.new.pass) c.args.driver.now c.loop.driver c.ends_turns.new.driver c.loop.invariant.1 c.ends_turns.ensures.steers,
)

pub returns-then-ends_turns-clause-ends : goal.returns-then-ends_turns-clause-ends
returns-then-ends_turns-clause-ends g c = λ alone. c.ends_turns.ensures.ends c.if-ends_turns.true (c.loop.invariant.1.parts ∙ alone)
