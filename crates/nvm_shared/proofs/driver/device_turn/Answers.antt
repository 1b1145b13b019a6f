use Rattle.std.proofs.Common.{refl}
use Rattle.nvm_core.proofs.LawTurning.{device_turns_keep}
use Rattle.nvm_core.proofs.Cutting.{cuts_keep}
use Rattle.nvm_shared.proofs.Standing.{asks_stand_behind}
use Rattle.nvm_shared.proofs.driver.device_turn.Goals as goal

pub returns : goal.returns
returns g c = record {
  turns = record {
    turns = c.turn.ensures;
    keeps = device_turns_keep _ _ _ _ c.turn.result c.turn.ensures;
    cuts = cuts_keep c.turn.result _ _ _ _ c.turn.ensures;
    stand = asks_stand_behind _ _;
    ready = record { order = c.status-status.ensures.order; frees = c.status-status.ensures.ready; room = c.status-status.ensures.room };
    only = refl;
  };
}
