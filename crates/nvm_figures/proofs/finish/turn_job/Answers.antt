use Rattle.nvm_figures.proofs.JobTurns.{step_is, placed_at, begins_ready, turns_job}
use Rattle.nvm_figures.proofs.finish.turn_job.Goals as goal

pub begin_next-requires-clause-index : goal.begin_next-requires-clause-index
begin_next-requires-clause-index g c = placed_at _ _ _ (step_is _ _ _ c.requires.step) c.requires.placed

pub returns-clause-turned : goal.returns-clause-turned
returns-clause-turned g c =
    let ready = begins_ready _ _ _ _ _ _ _ _ _ (step_is _ _ _ c.requires.step) c.requires.tries c.requires.works c.in_ok-begin_next.ensures in
    turns_job _ _ _ _ _ _ _ _ _ c.requires.tries ready c.go_on.ensures
