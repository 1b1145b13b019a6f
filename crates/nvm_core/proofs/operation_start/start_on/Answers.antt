use Rattle.std.proofs.Common.{refl}
use Rattle.nvm_laws.specs.nv_base.declared.mark.Mark.TheVariants as mark
use Rattle.nvm_laws.specs.nv_desk.Desk.{state_of}
use Rattle.nvm_laws.specs.nvm_device_laws.Turn.{mark_wish, read_wish}
use Rattle.nvm_laws.proofs.Starting.{reads_keep, starts_keep}
use Rattle.nvm_core.proofs.Starting.{read_job, erase_job, invalidate_job, write_job}
use Rattle.nvm_core.proofs.WorkingBefore.{working_of}
use Rattle.nvm_core.proofs.operation_start.start_on.Goals as goal

pub returns-in-Read-clause-keeps : goal.returns-in-Read-clause-keeps
returns-in-Read-clause-keeps g c h names at is =
    let desk = c.args.desk.now in
    reads_keep (g.D.MemDevice.told c.args.device.now) (g.D.MemDevice.clock c.args.device.now) (g.D.MemDevice.told c.start_read.new.self) (g.D.MemDevice.clock c.start_read.new.self) (read_wish c.number_of-number.result.0 _) c.start_read.result refl c.start_read.ensures desk h c.args.op c.args.instance names at is
    (read_job desk h c.args.op c.args.instance names c.number_of-number.result.0 c.number_of-number.ensures.value c.in-Read.is 0)

pub returns-in-Erase-clause-keeps : goal.returns-in-Erase-clause-keeps
returns-in-Erase-clause-keeps g c h names at is =
    let desk = c.args.desk.now in
    starts_keep (g.D.MemDevice.told c.args.device.now) (g.D.MemDevice.clock c.args.device.now) (g.D.MemDevice.told c.start_erase.new.self) (g.D.MemDevice.clock c.start_erase.new.self) (mark_wish c.number_of-number.result.0 mark.Erased) c.start_erase.result c.start_erase.ensures desk h c.args.op c.args.instance names at is
    (erase_job desk h c.args.op c.args.instance names c.number_of-number.result.0 c.number_of-number.ensures.value c.in-Erase.is)

pub returns-in-Invalidate-clause-keeps : goal.returns-in-Invalidate-clause-keeps
returns-in-Invalidate-clause-keeps g c h names at is =
    let desk = c.args.desk.now in
    starts_keep (g.D.MemDevice.told c.args.device.now) (g.D.MemDevice.clock c.args.device.now) (g.D.MemDevice.told c.start_invalidate.new.self) (g.D.MemDevice.clock c.start_invalidate.new.self) (mark_wish c.number_of-number.result.0 mark.Invalid) c.start_invalidate.result c.start_invalidate.ensures desk h c.args.op c.args.instance names at is
    (invalidate_job desk h c.args.op c.args.instance names c.number_of-number.result.0 c.number_of-number.ensures.value c.in-Invalidate.is)

pub returns-in-Write-clause-keeps : goal.returns-in-Write-clause-keeps
returns-in-Write-clause-keeps g c h names at is =
    let desk = c.args.desk.now in
    let (x, has, job) = write_job desk h c.args.op c.args.instance names c.number_of-number.result.0 c.number_of-number.ensures.value c.in-Write.is
    (working_of desk.config (state_of desk) h (g.D.MemDevice.told c.args.device.now) names.job is names.hand) in
    c.start_write.ensures.keeps h c.args.op c.args.instance names x at is has job
