use Rattle.nvm_callers.proofs.Common.{knows}
use Rattle.nvm_callers.proofs.Driving.{turn_steers}
use Rattle.nvm_callers.proofs.steering.make_turn.Goals as goal

pub returns-clause-steers : goal.returns-clause-steers
returns-clause-steers g c =
    let is = c.turn-turned.ensures in
    turn_steers g.D.MemDevice.told g.D.MemDevice.clock g.C.SyncCalls.told g.C.SyncCalls.is_store g.C.SyncCalls.looked g.C.SyncCalls.over g.C.NotedCopies.stands c.args.shared.now.terms
    (knows c.args.pass.now) (knows c.turn-turned.new.pass) c.args.driver.now c.turn-turned.new.driver (record {
      answer = c.turn-turned.result;
      drives = c.requires.driver.drives;
      turns = is.turns;
      keeps = is.keeps;
      tied = is.driver.drives.tied;
      left = is.left;
      counted = is.counted;
      lasts = is.lasts;
      stores_stay = is.stores_stay;
      stays_over = is.stays_over;
      shown = is.shown;
    }) is.learns is.parts
