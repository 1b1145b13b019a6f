use Rattle.std.proofs.Common.{◌∙◌, Some, None, ap, refl, arith}
use Rattle.nvm_laws.specs.block_machine.Words.{Post}
use Rattle.nvm_laws.specs.block_machine.Next.{next_of}
use Rattle.nvm_laws.specs.nv_desk.Desk.{state_of}
use Rattle.nvm_laws.specs.memif.Told.{ops_of}
use Rattle.nvm_laws.proofs.Powering.{jobs_keep_power, posts_leave_none}
use Rattle.nvm_laws.proofs.Posting.{skipped_keep}
use Rattle.nvm_laws.proofs.Working.{entries_lower_work}
use Rattle.nvm_core.proofs.TyingBefore.{drives, none_in, tied_behind}
use Rattle.nvm_core.proofs.LoweringBefore.{within}
use Rattle.nvm_core.proofs.Posting.{skip_posts, skip_timed, skips, notes_skip}
use Rattle.nvm_core.proofs.post.skip.Goals as goal

pub post_skipped-requires-clause-may : goal.post_skipped-requires-clause-may
post_skipped-requires-clause-may g c =
    let tied = c.requires.tied in
    let none = c.requires.none in
    record { driving = drives (state_of c.args.front.now.desk) c.ops.result tied.started none.on (rw c.ops.ensures tied.later); next = none.next.0 }

pub post_skipped-requires-clause-next : goal.post_skipped-requires-clause-next
post_skipped-requires-clause-next g c = c.requires.none.next.1

pub returns : goal.returns
returns g c =
    let told = g.D.MemDevice.told c.args.device.now in
    let clock = g.D.MemDevice.clock c.args.device.now in
    let desk = c.args.front.now.desk in
    let new = c.post_skipped.new.self.desk in
    let posted = c.post_skipped.ensures.posted in
    let tied = c.requires.tied in
    let hand = c.requires.none.is in
    let none = none_in _ desk c.args.hand.now told tied c.requires.none in
    let is = skips (next_of desk.config (state_of desk)) c.ops.result desk new _ _ posted in
    let e = Post is.block is.result is.given is.refused c.ops.result in
    record {
      posts = skip_posts _ c.ops.result _ desk new _ _ c.ops.ensures none.0 posted;
      tied = rw hand (tied_behind desk new e told is.adds None (jobs_keep_power desk.config (state_of desk) e refl) (ap Some c.ops.ensures) tied.up tied.numbers tied.started c.requires.none.on
          (posts_leave_none desk.config (state_of desk) e tt, none.1));
      unread = c.post_skipped.ensures.unread ∙ notes_skip desk new c.args.front.now.unread none.0;
      room = c.post_skipped.ensures.room;
      synchronized = c.post_skipped.ensures.synchronized;
      stays = c.post_skipped.ensures.stays;
      keeps = rw hand (skipped_keep told clock desk new _ _ none.0
          (skip_timed (next_of desk.config (state_of desk)) c.ops.result (ops_of told) desk new _ _ c.ops.ensures posted));
      lowers = rw hand (entries_lower_work told clock told desk new e None None c.status-status.ensures.order is.adds
          (within new _ _ refl refl c.len-count.ensures.within) tt);
      left = rw hand (omega arith);
    }
