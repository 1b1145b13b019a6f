use Rattle.std.proofs.Common.{ap, subst}
use Rattle.nvm_laws.specs.memif.Told.{Part, PartTold}
use Rattle.nvm_laws.specs.nvm_device_laws.Turn.{TellsSlots}
use Rattle.nvm_laws.specs.Keeps.{StackKeeps}
use Rattle.nvm_core.specs.Stack.{StackState}
use Rattle.nvm_core.specs.Renewal.{MarksStay}
use Rattle.nvm_core.proofs.Renewing.{marks_stay}
use Rattle.nvm_core.proofs.stack.Stack.renew.Goals as goal

pub returns-in-Ready-clause-keeps : goal.returns-in-Ready-clause-keeps
returns-in-Ready-clause-keeps g c =
    let inside = c.self.inside in
    let told = g.D.MemDevice.told in
    let clock = g.D.MemDevice.clock in
    let new = c.start_in.new.self in
    let starts = c.in-Ready.ensures.starts in
    subst (λ (s : StackState g.row.D.Denot g.row.C.Denot). (before : Part → PartTold) → TellsSlots (told new.device)
    → StackKeeps before s.desk s.hand (told s.device) (clock s.device) → MarksStay s.desk new.desk) c.self.view_is
    (marks_stay inside.front.desk c.hand_out.new.self new.desk inside.driver.hand (told inside.driver.device) (told new.device) (clock inside.driver.device) starts.marks _
    c.in-Ok-hand_out.ensures.ok (ap (λ s. s.desk.entries) starts.only) starts.finds)
