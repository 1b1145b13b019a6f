use Rattle.std.proofs.Common.{◌∙◌, refl}
use Rattle.nvm_laws.specs.memif.Told.{ops_of}
use Rattle.nvm_laws.specs.block_config.Rules.{IsLegalConfig}
use Rattle.nvm_laws.specs.block_machine.Words.{Pick}
use Rattle.nvm_laws.specs.nv_desk.Desk.{state_of}
use Rattle.nvm_laws.proofs.Picking.{picks_keep}
use Rattle.nvm_laws.proofs.Working.{entries_lower_work, hands_are_small}
use Rattle.nvm_core.proofs.TyingBefore.{drives, picks_next, picked_tied}
use Rattle.nvm_core.proofs.LoweringBefore.{within, within_most}
use Rattle.nvm_core.proofs.Posting.{notes_no_entry}
use Rattle.nvm_core.proofs.pick.pick.Goals as goal

pub pick-requires-clause-may : goal.pick-requires-clause-may
pick-requires-clause-may g c =
    let may = c.requires.may in
    record { driving = drives (state_of c.args.front.now.desk) c.ops.result may.started may.on (rw c.ops.ensures may.later); picks = may.picks; free = may.free }

pub returns : goal.returns
returns g c =
    let told = g.D.MemDevice.told c.args.device.now in
    let clock = g.D.MemDevice.clock c.args.device.now in
    let may = c.requires.may in
    let desk = c.args.front.now.desk in
    let new = c.pick.new.self.desk in
    let hand = c.hand_of.ensures in
    let picked = picks_next _ c.ops.result (ops_of told) desk new _ _ c.ops.ensures c.pick.ensures.picks in
    let (block, is) = picked in
    let tied = picked_tied desk new told c.hand_of.result _ may picked hand in
    let legal : IsLegalConfig new.config = rw c.config.ensures at c.blocks-blocks.ensures.legal in
    record {
      picks = picked;
      tied = tied;
      unread = c.pick.ensures.unread ∙ notes_no_entry desk new (Pick block is.kind is.taken (ops_of told)) c.args.front.now.unread is.adds refl;
      room = c.pick.ensures.room;
      synchronized = c.pick.ensures.synchronized;
      stays = c.pick.ensures.stays;
      keeps = λ held. rw hand (picks_keep told clock desk new held block is.kind is.taken is.adds is.allowed);
      lowers = λ held old. entries_lower_work told clock old desk new (Pick block is.kind is.taken (ops_of told)) held c.hand_of.result c.status-status.ensures.order is.adds
          (within new _ _ refl refl c.len-count.ensures.within)
          (hands_are_small new.config (state_of new) c.hand_of.result told legal tied.paired);
      left = rw hand (within_most told clock c.status-status.ensures.order may.closed new.config (state_of new) (state_of new).hand);
      hand = hand;
    }
