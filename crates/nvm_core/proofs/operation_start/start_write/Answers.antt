use Rattle.std.proofs.Common.{◌∙◌}
use Rattle.nvm_laws.proofs.Starting.{starts_keep}
use Rattle.nvm_laws.specs.nvm_device_laws.Turn.{write_wish}
use Rattle.nvm_core.proofs.Starting.{written_is}
use Rattle.nvm_core.proofs.operation_start.start_write.Goals as goal

pub returns-in-Some-content-clause-keeps : goal.returns-in-Some-content-clause-keeps
returns-in-Some-content-clause-keeps g c h op i names x at is has job =
    let desk = c.args.desk.now in
    starts_keep (g.D.MemDevice.told c.args.device.now) (g.D.MemDevice.clock c.args.device.now) (g.D.MemDevice.told c.start_write.new.self) (g.D.MemDevice.clock c.start_write.new.self) (write_wish c.args.number.0 c.in-Some-content.content.now c.is_urgent-urgent.result) c.start_write.result c.start_write.ensures desk h op i names at is
    (written_is desk c.args.number.0 c.is_urgent-urgent.result c.in-Some-content.content.now c.in-Some.job.now names.job x c.is_urgent-urgent.ensures
    names.hand c.in-Some.ensures c.in-Some-content.ensures has ∙ job)
