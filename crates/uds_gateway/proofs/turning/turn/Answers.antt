use Rattle.std.proofs.Common.{◌≡◌, true, ◌∙◌, subst}
use Rattle.nvm_moves.specs.memif.Calls.{InOrder}
use Rattle.nvm_moves.proofs.StackMoves.{turned_ready}
use Rattle.uds_gateway.proofs.turning.turn.Goals as goal

pub returns : goal.returns
returns g c =
    let told = g.D.MemDevice.told in
    let clock = g.D.MemDevice.clock in
    let new = c.turn-turned.new.self in
    let is = c.turn-turned.ensures in
    let up : new.ready ≡ true = turned_ready told clock _ _ _ c.turn-turned.result c.args.stack.now new is.turns ∙ c.requires.ready in
    record {
      ready = c.requires.ready;
      turns = is.turns;
      keeps = is.keeps;
      counted = is.counted;
      lowers = is.lowers;
      left = is.left;
      lasts = is.lasts;
      pays = is.pays;
      due = is.due;
      seals = is.seals;
      kept = is.kept;
      tied = c.device-device.ensures.tied c.requires.ready;
      power = c.device-device.ensures.power c.requires.ready;
      synchronized = c.device-device.ensures.synchronized;
      order = subst (λ (x : g.row.D.Denot). InOrder (told x) (clock x)) c.device-device.ensures.device c.status-before.ensures.order;
      tied_behind = c.device-behind.ensures.tied up;
      power_behind = c.device-behind.ensures.power up;
      order_behind = subst (λ (x : g.row.D.Denot). InOrder (told x) (clock x)) c.device-behind.ensures.device c.status-status.ensures.order;
    }
