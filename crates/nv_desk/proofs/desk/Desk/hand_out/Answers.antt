use Rattle.nv_desk.proofs.HandingOut.{starts_fit}
use Rattle.nv_desk.proofs.desk.Desk.hand_out.Goals as goal

pub returns-clause-fits : goal.returns-clause-fits
returns-clause-fits c =
    let d = c.self.inside in
    rw (← c.self.view_is) (starts_fit d.config d.history.cap d.history.entries (rw (← c.self.view_is) at c.requires.started) c.self.invariant.fits)
