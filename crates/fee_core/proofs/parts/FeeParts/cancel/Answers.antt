use Rattle.std.specs.Prelude.{not}
use Rattle.std.proofs.Common.{◌∙◌, ap}
use Rattle.fee_core.proofs.Canceling.{ends}
use Rattle.fee_core.proofs.parts.FeeParts.cancel.Goals as goal

pub returns-clause-sound : goal.returns-clause-sound
returns-clause-sound g c = (ends c.self.view_is c.requires.sound c.requires.urgent c.active-active.ensures.state c.active-active.ensures.log (c.is_none.ensures ∙ ap not c.if-is_none.false) c.give_up.ensures).0

pub returns-clause-cancels : goal.returns-clause-cancels
returns-clause-cancels g c = (ends c.self.view_is c.requires.sound c.requires.urgent c.active-active.ensures.state c.active-active.ensures.log (c.is_none.ensures ∙ ap not c.if-is_none.false) c.give_up.ensures).1
