use Rattle.std.proofs.Common.{sym, subst}
use Rattle.nvm_laws.specs.nv_desk.Desk.{DeskState}
use Rattle.nvm_laws.specs.nvm_device_laws.Turn.{Keeps}
use Rattle.nvm_core.proofs.found_start.start_up.Goals as goal

pub returns-in-Ok-clause-keeps : goal.returns-in-Ok-clause-keeps
returns-in-Ok-clause-keeps g c =
    let d = c.args.desk.now in
    let new = g.D.MemDevice.told c.find.new.device in
    let clock = (g.D.MemDevice.clock c.find.new.device) in
    let added = rw c.ops.ensures at c.start_up.ensures.entry in
    λ before told first keeps.
    subst (λ (x : DeskState). Keeps x.config x.cap x.entries before new clock) (sym added)
    (c.in-Ok.ensures.keeps d.config d.cap d.entries before told first c.requires.fits keeps).1

pub returns-in-Err-clause-keeps : goal.returns-in-Err-clause-keeps
returns-in-Err-clause-keeps g c = λ before keeps. c.in-Err.ensures.keeps c.args.desk.now.config c.args.desk.now.cap c.args.desk.now.entries before keeps
