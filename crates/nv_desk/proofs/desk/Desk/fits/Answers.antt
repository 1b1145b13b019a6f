use Rattle.std.proofs.Common.{◌∙◌}
use Rattle.block_machine.specs.Steps.{after}
use Rattle.nv_desk.proofs.Asks.{fits_is}
use Rattle.nv_desk.proofs.desk.Desk.fits.Goals as goal

pub returns : goal.returns
returns c =
    let d = c.self.inside in
    let value = c.reserved.ensures.value d.config (after d.config d.history.entries) c.self.invariant.agrees in
    rw (← c.self.view_is) (fits_is d.config d.history.cap d.history.entries c.args.more _ _ _ (c.from.ensures ∙ c.len.ensures.count) value
    (c.from-2.ensures ∙ c.cap.ensures))
