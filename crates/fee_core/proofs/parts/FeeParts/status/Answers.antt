use Rattle.fee_core.proofs.RoomTold.{enough_shown, free_shown}
use Rattle.fee_core.proofs.parts.FeeParts.status.Goals as goal

pub returns-then-is_some-clause-ready : goal.returns-then-is_some-clause-ready
returns-then-is_some-clause-ready g c = free_shown c.self.view_is c.requires c.active-active.ensures.state c.active-active.ensures.log

pub returns-then-ne-clause-ready : goal.returns-then-ne-clause-ready
returns-then-ne-clause-ready g c = free_shown c.self.view_is c.requires c.active-active.ensures.state c.active-active.ensures.log

pub returns-else-ne-clause-ready : goal.returns-else-ne-clause-ready
returns-else-ne-clause-ready g c = free_shown c.self.view_is c.requires c.active-active.ensures.state c.active-active.ensures.log

pub returns-then-is_some-clause-room : goal.returns-then-is_some-clause-room
returns-then-is_some-clause-room g c = enough_shown c.self.view_is c.requires c.active-active.ensures.state c.active-active.ensures.log

pub returns-then-ne-clause-room : goal.returns-then-ne-clause-room
returns-then-ne-clause-room g c = enough_shown c.self.view_is c.requires c.active-active.ensures.state c.active-active.ensures.log

pub returns-else-ne-clause-room : goal.returns-else-ne-clause-room
returns-else-ne-clause-room g c = enough_shown c.self.view_is c.requires c.active-active.ensures.state c.active-active.ensures.log
