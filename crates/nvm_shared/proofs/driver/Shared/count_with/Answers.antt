use Rattle.std.proofs.Common.{◌∙◌}
use Rattle.turn_gate.specs.Pass.{knows}
use Rattle.nvm_shared.proofs.Counting.{drives_on, kept_on, sees_requests}
use Rattle.nvm_shared.proofs.driver.Shared.count_with.Goals as goal

pub returns-clause-keeps : goal.returns-clause-keeps
returns-clause-keeps g c =
    let is = c.count.ensures in
    kept_on g.D.MemDevice.told g.D.MemDevice.clock g.C.SyncCalls.told c.args.self.now.terms (knows c.args.pass.now) (knows c.count.new.pass) c.args.driver.now is.learns c.requires.driver.mark is.written c.requires.driver.drives

pub returns-clause-sees : goal.returns-clause-sees
returns-clause-sees g c =
    let is = c.count.ensures in
    sees_requests g.D.MemDevice.told g.D.MemDevice.clock g.C.SyncCalls.told c.args.self.now.terms (knows c.args.pass.now) (knows c.count.new.pass) c.args.driver.now is.learns c.requires.driver.mark is.written c.requires.driver.drives
    (record { order = c.status-status.ensures.order; frees = c.status-status.ensures.ready; room = c.status-status.ensures.room })

pub returns-clause-driver : goal.returns-clause-driver
returns-clause-driver g c =
    let is = c.count.ensures in
    record {
      own = is.own;
      mark = is.learns.mark ∙ c.requires.driver.mark;
      drives = drives_on g.D.MemDevice.told g.D.MemDevice.clock g.C.SyncCalls.told c.args.self.now.terms (knows c.args.pass.now) (knows c.count.new.pass) c.args.driver.now is.learns c.requires.driver.mark is.written c.requires.driver.drives is.next;
    }
