use Rattle.nvm_callers.proofs.Common.{◌+◌, ◌∙◌, refl, GoesOn}
use Rattle.nvm_callers.proofs.Rounds.{changed_more, none_changed}
use Rattle.nvm_callers.proofs.programs.go_on.Goals as goal

pub loop-init : goal.loop-init
loop-init g c = (
  refl,
  c.requires.ready,
  none_changed (λ k. GoesOn g.S.Stores.bytes g.S.Stores.made g.S.Stores.mirrors c.args.shared.now c.args.job.now.programs.now (c.args.start + k)) c.args.workers.now (λ place w p first at begun. begun),
)

pub returns-then-have_ended-clause-on : goal.returns-then-have_ended-clause-on
returns-then-have_ended-clause-on g c =
    changed_more (λ k. GoesOn g.S.Stores.bytes g.S.Stores.made g.S.Stores.mirrors c.args.shared.now c.args.job.now.programs.now (c.args.start + k)) c.args.workers.now c.loop.workers c.go_over_where.new.workers
    (λ place x y z one two p first at begun. two p first at (one p first at begun)) c.loop.invariant.0 c.loop.invariant.2 c.go_over_where.ensures.on

pub returns-then-gives_up-clause-on : goal.returns-then-gives_up-clause-on
returns-then-gives_up-clause-on g c =
    changed_more (λ k. GoesOn g.S.Stores.bytes g.S.Stores.made g.S.Stores.mirrors c.args.shared.now c.args.job.now.programs.now (c.args.start + k)) c.args.workers.now c.loop.workers c.go_over_where.new.workers
    (λ place x y z one two p first at begun. two p first at (one p first at begun)) c.loop.invariant.0 c.loop.invariant.2 c.go_over_where.ensures.on

pub loop-preserved : goal.loop-preserved
loop-preserved g c = (
  c.go_over_where.ensures.count ∙ c.loop.invariant.0,
  λ place d low. (c.go_over_where.ensures.ready place d low).0,
  changed_more (λ k. GoesOn g.S.Stores.bytes g.S.Stores.made g.S.Stores.mirrors c.args.shared.now c.args.job.now.programs.now (c.args.start + k)) c.args.workers.now c.loop.workers c.go_over_where.new.workers
      (λ place x y z one two p first at begun. two p first at (one p first at begun)) c.loop.invariant.0 c.loop.invariant.2 c.go_over_where.ensures.on,
)

pub go_over_where-requires-clause-ready : goal.go_over_where-requires-clause-ready
go_over_where-requires-clause-ready g c = λ place d low. (c.loop.invariant.1 place d low, c.requires.lock, c.requires.may)

pub returns-then-have_ended-clause-ready : goal.returns-then-have_ended-clause-ready
returns-then-have_ended-clause-ready g c = λ place d low. (c.go_over_where.ensures.ready place d low).0

pub returns-then-gives_up-clause-ready : goal.returns-then-gives_up-clause-ready
returns-then-gives_up-clause-ready g c = λ place d low. (c.go_over_where.ensures.ready place d low).0
