use Rattle.std.proofs.Common.{◌∙◌}
use Rattle.nvm_figures.proofs.Programs.{first_stays}
use Rattle.nvm_figures.proofs.FinishedJobs.{begins, calm_before, goes_on, placed_still, in_time}
use Rattle.nvm_figures.proofs.finish.finish_job.Goals as goal

pub loop-step-init : goal.loop-step-init
loop-step-init g c =
    let same = c.next-step.ensures.after ∙ first_stays (g.P.JobSteps.shown c.args.program.now) in
    record {
      step = c.next-step.ensures.step;
      placed = rw same c.requires.placed;
      way = rw same (begins _ _ _ _ c.requires.idle c.requires.begun);
    }

pub loop-step-preserved : goal.loop-step-preserved
loop-step-preserved g c =
    let turned = rw c.in-Some.is at c.in_ok-next.ensures.turned in
    record {
      step = turned.0;
      placed = placed_still _ _ turned.1.same c.loop-step.invariant.placed;
      way = goes_on _ _ _ _ c.loop-step.turns _ _ _ _ _ c.loop-step.invariant.way turned.1 c.saturating_add-turns.ensures;
    }

pub returns-in-Ended-clause-in_time : goal.returns-in-Ended-clause-in_time
returns-in-Ended-clause-in_time g c = λ calm.
    in_time _ _ _ _ _ _ _ c.loop-step.invariant.way _ c.status-status.ensures.order c.requires.idle c.requires.begun calm

pub returns-in-None-clause-in_time : goal.returns-in-None-clause-in_time
returns-in-None-clause-in_time g c = λ calm.
    let off = rw c.in-None.is at c.in_ok-next.ensures.turned in
    in_time _ _ _ _ _ _ _ c.loop-step.invariant.way _ c.status-status.ensures.order c.requires.idle c.requires.begun (calm_before _ _ _ off.2 calm)
