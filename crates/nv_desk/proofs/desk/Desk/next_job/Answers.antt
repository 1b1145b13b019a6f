use Rattle.block_machine.specs.Steps.{after}
use Rattle.nv_desk.proofs.Picks.{next_pending}
use Rattle.nv_desk.proofs.desk.Desk.next_job.Goals as goal

pub returns-clause-pending : goal.returns-clause-pending
returns-clause-pending c =
    let d = c.self.inside in
    rw (← c.self.view_is) (next_pending d.config (after d.config d.history.entries) c.self.invariant.sound)
