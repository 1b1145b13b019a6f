use Rattle.turn_gate.specs.Pass.{knows}
use Rattle.nvm_shared.specs.Locked.{desk_with}
use Rattle.driver_moves.proofs.Driving.{driver_moved}
use Rattle.driver_moves.proofs.make_turn.Goals as goal

pub returns : goal.returns
returns g c =
    let is = c.turn-turned.ensures in
    let drives = c.requires.driver.drives in
    record {
      moved = driver_moved g.D.MemDevice.told g.D.MemDevice.clock g.C.SyncCalls.told g.C.SyncCalls.is_store g.C.SyncCalls.looked c.turn-turned.result (desk_with c.args.shared.now.terms (knows c.args.pass.now).seen)
          (desk_with c.args.shared.now.terms (knows c.turn-turned.new.pass).seen) c.args.driver.now c.turn-turned.new.driver drives.next drives.pending drives.tied is.driver.drives.tied is.left is.turns;
    }
