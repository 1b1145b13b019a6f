use Rattle.memif.specs.Marks.{Keeps}
use Rattle.memif.proofs.Turning.{told_before}
use Rattle.nvm_device_laws.proofs.DeviceCalls.{start_up_keeps}
use Rattle.nvm_device_laws.proofs.DownCalls.{start_up_down}
use Rattle.nvm_found.proofs.Promise.{any_ok, ups_more}
use Rattle.nvm_found.proofs.found.find_all.Goals as goal

pub returns-clause-keeps : goal.returns-clause-keeps
returns-clause-keeps g c = any_ok c.read_all.result
    (ups_more (g.D.MemDevice.told c.args.device.now) (g.D.MemDevice.clock c.args.device.now) (g.D.MemDevice.told c.start.new.self)
    (g.D.MemDevice.clock c.start.new.self) (g.D.MemDevice.told c.read_all.new.device) (g.D.MemDevice.clock c.read_all.new.device)
    (start_up_keeps _ _ _ _ _ c.in_ok-start.ensures) c.read_all.ensures.reads)

pub returns-clause-down : goal.returns-clause-down
returns-clause-down g c = λ x cap h before keeps told. c.read_all.ensures.reads.down x cap h before
    (start_up_down _ _ _ _ _ c.in_ok-start.ensures x cap h before keeps
    (told_before (λ n s t. Keeps s t) (g.D.MemDevice.told c.start.new.self) (g.D.MemDevice.told c.read_all.new.device) c.read_all.ensures.reads.marks told)) told

pub returns-in_err-start-clause-down : goal.returns-in_err-start-clause-down
returns-in_err-start-clause-down g c = start_up_down _ _ _ _ _ c.start.ensures
