use Rattle.std.proofs.Common.{◌∙◌, Some, None, ap, refl}
use Rattle.nvm_laws.specs.block_machine.Words.{Post}
use Rattle.nvm_laws.specs.block_machine.Blocks.{desc_of, job_block}
use Rattle.nvm_laws.specs.nv_desk.Desk.{state_of}
use Rattle.nvm_laws.proofs.Powering.{jobs_keep_power, posts_leave_none, finished_are_closed}
use Rattle.nvm_laws.proofs.Posting.{posts_keep}
use Rattle.nvm_laws.proofs.Working.{entries_lower_work}
use Rattle.nvm_core.proofs.TyingBefore.{drives, held_in, tied_behind}
use Rattle.nvm_core.proofs.LoweringBefore.{within, post_left}
use Rattle.nvm_core.proofs.Posting.{whole_given, hand_posted, hand_posts, note_posted}
use Rattle.nvm_core.proofs.post.post.Goals as goal

pub post-requires-clause-may : goal.post-requires-clause-may
post-requires-clause-may g c =
    let told = g.D.MemDevice.told c.args.device.now in
    let desk = c.args.front.now.desk in
    let held = c.requires.finished in
    let is = held_in _ desk c.args.hand.now told c.requires.tied held in
    record {
      job = is.job;
      is = is.hand;
      whole = whole_given (desc_of desk.config (job_block is.job)).length held.held.step told.stand _ _ _ (c.end_of-answer.ensures held.held held.is held.end) is.given c.take_data.ensures;
    }

pub returns : goal.returns
returns g c =
    let told = g.D.MemDevice.told c.args.device.now in
    let clock = g.D.MemDevice.clock c.args.device.now in
    let desk = c.args.front.now.desk in
    let new = c.post.new.self.desk in
    let tied = c.requires.tied in
    let held = c.requires.finished in
    let is = held_in _ desk c.args.hand.now told tied held in
    let driving = drives (state_of desk) c.ops.result tied.started held.on (rw c.ops.ensures tied.later) in
    let end = c.end_of-answer.ensures held.held held.is held.end in
    let posted = c.post.ensures.posted is.job is.hand in
    let e = Post (job_block is.job) posted.result posted.given posted.refused c.ops.result in
    record {
      posts = hand_posts desk new held.held told c.ops.result _ _ _ _ _ c.ops.ensures is driving end c.take_data.ensures posted c.args.hand.now held.is;
      tied = tied_behind desk new e told posted.adds None (jobs_keep_power desk.config (state_of desk) e refl) (ap Some c.ops.ensures) tied.up tied.numbers tied.started held.on
          (posts_leave_none desk.config (state_of desk) e tt, finished_are_closed desk.config (state_of desk) held.held told is held.end);
      unread = c.post.ensures.unread is.job is.hand ∙ note_posted _ is.job _ c.ops.result desk new _ _ c.args.front.now.unread is.hand posted;
      room = c.post.ensures.room;
      synchronized = c.post.ensures.synchronized;
      stays = c.post.ensures.stays;
      keeps = rw held.is (posts_keep told clock desk new held.held is.job _ _ _ _ is.hand is end
          (hand_posted desk new held.held told c.ops.result _ _ _ _ _ c.ops.ensures is driving end c.take_data.ensures posted));
      lowers = entries_lower_work told clock told desk new e c.args.hand.now None c.status-status.ensures.order posted.adds
          (within new _ _ refl refl c.len-count.ensures.within) tt;
      left = rw held.is (post_left held.held.program told);
      hand = refl;
    }
