use Rattle.nvm_callers.proofs.Common.{◌+◌, ◌∙◌, refl, knows, GoesOn}
use Rattle.nvm_callers.proofs.Driving.{none_steered, steered_more}
use Rattle.nvm_callers.proofs.Rounds.{changed_more, none_changed}
use Rattle.nvm_callers.proofs.steering.steer.Goals as goal

pub loop-init : goal.loop-init
loop-init g c = (
  c.requires.driver,
  none_steered g.D.MemDevice.told g.D.MemDevice.clock g.C.SyncCalls.told g.C.SyncCalls.is_store g.C.SyncCalls.looked g.C.SyncCalls.over g.C.NotedCopies.stands c.args.shared.now.terms (knows c.args.pass.now) c.args.driver.now,
  refl,
  c.requires.ready,
  none_changed (λ k. GoesOn g.S.Stores.bytes g.S.Stores.made g.S.Stores.mirrors c.args.shared.now c.args.job.now.programs.now (c.args.start + k)) c.args.workers.now (λ place w p first at begun. begun),
)

pub returns-then-left-eq0-clause-on : goal.returns-then-left-eq0-clause-on
returns-then-left-eq0-clause-on g c =
    changed_more (λ k. GoesOn g.S.Stores.bytes g.S.Stores.made g.S.Stores.mirrors c.args.shared.now c.args.job.now.programs.now (c.args.start + k)) c.args.workers.now c.loop.workers c.go_over_where.new.workers
    (λ place x y z one two p first at begun. two p first at (one p first at begun)) c.loop.invariant.2 c.loop.invariant.4 c.go_over_where.ensures.on

pub loop-preserved : goal.loop-preserved
loop-preserved g c = (
  c.make_turn-idle.ensures.driver,
  steered_more g.D.MemDevice.told g.D.MemDevice.clock g.C.SyncCalls.told g.C.SyncCalls.is_store g.C.SyncCalls.looked g.C.SyncCalls.over g.C.NotedCopies.stands c.args.shared.now.terms
      (knows c.args.pass.now) (knows c.loop.pass) (knows c.make_turn-idle.new.pass) c.args.driver.now c.loop.driver c.make_turn-idle.new.driver c.loop.invariant.1 c.make_turn-idle.ensures.steers,
  c.go_over_where.ensures.count ∙ c.loop.invariant.2,
  c.go_over_where.ensures.ready,
  changed_more (λ k. GoesOn g.S.Stores.bytes g.S.Stores.made g.S.Stores.mirrors c.args.shared.now c.args.job.now.programs.now (c.args.start + k)) c.args.workers.now c.loop.workers c.go_over_where.new.workers
      (λ place x y z one two p first at begun. two p first at (one p first at begun)) c.loop.invariant.2 c.loop.invariant.4 c.go_over_where.ensures.on,
)
