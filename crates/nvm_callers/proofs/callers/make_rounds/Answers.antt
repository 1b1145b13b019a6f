use Rattle.nvm_callers.proofs.Common.{◌∙◌, refl, knows, GoesOn}
use Rattle.nvm_callers.proofs.Driving.{none_steered, steered_more}
use Rattle.nvm_callers.proofs.Rounds.{changed_more, none_changed}
use Rattle.nvm_callers.proofs.callers.make_rounds.Goals as goal

pub loop-init : goal.loop-init
loop-init g c = (
  c.requires.driver,
  none_steered g.D.MemDevice.told g.D.MemDevice.clock g.C.SyncCalls.told g.C.SyncCalls.is_store g.C.SyncCalls.looked g.C.SyncCalls.over g.C.NotedCopies.stands c.args.shared.now.terms (knows c.args.steering.now.pass) c.args.steering.now.driver,
  refl,
  c.requires.each,
  none_changed (GoesOn g.S.Stores.bytes g.S.Stores.made g.S.Stores.mirrors c.args.shared.now c.args.job.now.programs.now) c.args.workers.now (λ place w p first at begun. begun),
)

pub returns-then-have_ended-clause-steers : goal.returns-then-have_ended-clause-steers
returns-then-have_ended-clause-steers g c =
    steered_more g.D.MemDevice.told g.D.MemDevice.clock g.C.SyncCalls.told g.C.SyncCalls.is_store g.C.SyncCalls.looked g.C.SyncCalls.over g.C.NotedCopies.stands c.args.shared.now.terms
    (knows c.args.steering.now.pass) (knows c.loop.steering.pass) (knows c.make_round.new.steering.pass) c.args.steering.now.driver c.loop.steering.driver c.make_round.new.steering.driver c.loop.invariant.1 c.make_round.ensures.steers

pub returns-then-have_ended-clause-on : goal.returns-then-have_ended-clause-on
returns-then-have_ended-clause-on g c =
    changed_more (GoesOn g.S.Stores.bytes g.S.Stores.made g.S.Stores.mirrors c.args.shared.now c.args.job.now.programs.now) c.args.workers.now c.loop.workers c.make_round.new.workers
    (λ place x y z one two p first at begun. two p first at (one p first at begun)) c.loop.invariant.2 c.loop.invariant.4 c.make_round.ensures.on

pub loop-preserved : goal.loop-preserved
loop-preserved g c = (
  c.come_to_rest.ensures.driver,
  steered_more g.D.MemDevice.told g.D.MemDevice.clock g.C.SyncCalls.told g.C.SyncCalls.is_store g.C.SyncCalls.looked g.C.SyncCalls.over g.C.NotedCopies.stands c.args.shared.now.terms
      (knows c.args.steering.now.pass) (knows c.make_round.new.steering.pass) (knows c.come_to_rest.new.pass) c.args.steering.now.driver c.make_round.new.steering.driver c.come_to_rest.new.driver
      (steered_more g.D.MemDevice.told g.D.MemDevice.clock g.C.SyncCalls.told g.C.SyncCalls.is_store g.C.SyncCalls.looked g.C.SyncCalls.over g.C.NotedCopies.stands c.args.shared.now.terms
      (knows c.args.steering.now.pass) (knows c.loop.steering.pass) (knows c.make_round.new.steering.pass) c.args.steering.now.driver c.loop.steering.driver c.make_round.new.steering.driver c.loop.invariant.1 c.make_round.ensures.steers)
      c.come_to_rest.ensures.steers,
  c.make_round.ensures.count ∙ c.loop.invariant.2,
  c.make_round.ensures.each,
  changed_more (GoesOn g.S.Stores.bytes g.S.Stores.made g.S.Stores.mirrors c.args.shared.now c.args.job.now.programs.now) c.args.workers.now c.loop.workers c.make_round.new.workers
      (λ place x y z one two p first at begun. two p first at (one p first at begun)) c.loop.invariant.2 c.loop.invariant.4 c.make_round.ensures.on,
)
