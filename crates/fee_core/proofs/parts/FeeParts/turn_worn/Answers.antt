use Rattle.fee_core.proofs.Begun.{worn_turned}
use Rattle.fee_core.proofs.Standing.{stands}
use Rattle.fee_core.proofs.parts.FeeParts.turn_worn.Goals as goal

pub returns : goal.returns
returns g c =
    let at = stands c.self.view_is c.requires.up c.active-active.ensures.state c.active-active.ensures.log in
    worn_turned at c.requires.waits c.requires.shut c.requires.full c.requires.worn c.unwrap_or.result c.unwrap_or.ensures
