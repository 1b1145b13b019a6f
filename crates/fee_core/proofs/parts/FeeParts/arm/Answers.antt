use Rattle.fee_core.proofs.Planning.{plans}
use Rattle.fee_core.proofs.parts.FeeParts.arm.Goals as goal

pub returns-then-which-eq0-clause-sound : goal.returns-then-which-eq0-clause-sound
returns-then-which-eq0-clause-sound g c = (plans c.self.view_is c.requires c.args.nth c.args.keep c.arm.ensures).0

pub returns-then-which-eq0-clause-arms : goal.returns-then-which-eq0-clause-arms
returns-then-which-eq0-clause-arms g c = rw c.if-which-eq0.true (plans c.self.view_is c.requires c.args.nth c.args.keep c.arm.ensures).1
