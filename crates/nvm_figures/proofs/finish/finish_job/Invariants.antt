use Rattle.std.proofs.Common.{◌≡◌, Some}
use Rattle.job_programs.specs.Program.{step_of}
use Rattle.nvm_figures.specs.Drain.{hand_work}
use Rattle.nvm_figures.specs.Finish.{IsPlaced}
use Rattle.nvm_figures.proofs.FinishedJobs.{IsOnWay}
use Rattle.nvm_figures.proofs.finish.finish_job.Given as goal

abbrev pub invariant-loop-step : goal.invariant-loop-step
invariant-loop-step g l = record {
  step : l.step ≡ step_of (g.P.JobSteps.shown l.program);
  placed : IsPlaced (g.P.JobSteps.shown l.program);
  way : IsOnWay l.job.content.now l.job.urgent (g.P.JobSteps.shown l.fn.program) (g.D.MemDevice.told l.fn.device) l.turns (g.P.JobSteps.shown l.program) (g.D.MemDevice.told l.device);
}

abbrev pub decreases-loop-step : goal.decreases-loop-step
decreases-loop-step g l = hand_work (Some (g.P.JobSteps.shown l.program)) (g.D.MemDevice.told l.device)
