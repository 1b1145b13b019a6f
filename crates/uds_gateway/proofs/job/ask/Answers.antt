use Rattle.std.proofs.Common.{subst}
use Rattle.nvm_moves.specs.memif.Calls.{FreesReady, InOrder}
use Rattle.uds_gateway.proofs.job.ask.Goals as goal

pub returns : goal.returns
returns g c =
    let told = g.D.MemDevice.told in
    let clock = g.D.MemDevice.clock in
    let is = c.ask.ensures in
    record {
      ready = c.requires.ready;
      replies = is.reply;
      adds = is.ok;
      same = is.err;
      no_room = is.no_room;
      keeps = is.keeps;
      accepted = is.accepted;
      due = is.due;
      tied = c.device-device.ensures.tied c.requires.ready;
      order = subst (λ (x : g.row.D.Denot). InOrder (told x) (clock x)) c.device-device.ensures.device c.status-status.ensures.order;
      frees = subst (λ (x : g.row.D.Denot). FreesReady (told x) (clock x)) c.device-device.ensures.device c.status-status.ensures.ready;
    }
