use Rattle.block_machine.specs.Blocks.{job_block}
use Rattle.block_machine.specs.Next.{next_of}
use Rattle.nv_desk.specs.Desk.{state_of}
use Rattle.std.proofs.Common.{refl, inl}
use Rattle.nv_desk_copies.proofs.Taking.{waits, job_picked, member_picked, sweep_picked, not_posted, not_ended, not_nothing}
use Rattle.nv_desk_copies.proofs.pick.pick.Goals as goal

pub returns-in-PickJob-clause-picks : goal.returns-in-PickJob-clause-picks
returns-in-PickJob-clause-picks g c =
    let d = c.args.desk.now in
    let (j, is) = rw c.in-PickJob.is at c.requires.next in
    let next = waits d.config (state_of d) j is in
    record {
      block = job_block j;
      is = job_picked (λ b n x. g.C.SyncCalls.is_store c.pick_job.new.copies b n x × g.C.SyncCalls.looked c.args.copies.now c.pick_job.new.copies b n) _ _ d.config (next_of d.config (state_of d)) j (job_block j) c.args.ops d c.pick_job.new.desk is refl
          (c.pick_job.ensures.picked j next);
      counts = c.pick_job.ensures.counts j next;
    }

pub returns-in-PickMember-clause-picks : goal.returns-in-PickMember-clause-picks
returns-in-PickMember-clause-picks g c =
    let d = c.args.desk.now in
    let (sw, is) = rw c.in-PickMember.is at c.requires.next in
    record {
      block = c.in-PickMember.block;
      is = member_picked (λ b n x. g.C.SyncCalls.is_store c.pick_member.new.copies b n x × g.C.SyncCalls.looked c.args.copies.now c.pick_member.new.copies b n) _ _ d.config (next_of d.config (state_of d)) sw c.in-PickMember.block c.args.ops d c.pick_member.new.desk is
          (c.pick_member.ensures.picked sw is);
      counts = c.pick_member.ensures.counts;
    }

pub returns-in-BeginSweep-clause-picks : goal.returns-in-BeginSweep-clause-picks
returns-in-BeginSweep-clause-picks g c =
    let d = c.args.desk.now in
    let (sw, is) = rw c.in-BeginSweep.is at c.requires.next in
    record {
      block = 0;
      is = sweep_picked (λ b n x. g.C.SyncCalls.is_store c.args.copies.now b n x × g.C.SyncCalls.looked c.args.copies.now c.args.copies.now b n) _ sw c.args.ops d c.pick_sweep.new.self c.requires.may.driving is (c.pick_sweep.ensures sw is);
      counts = inl refl;
    }

pub returns-in-PostMember-clause-picks : goal.returns-in-PostMember-clause-picks
returns-in-PostMember-clause-picks g c =
    let d = c.args.desk.now in
    let (sw, is) = rw c.in-PostMember.is at c.requires.next in
    absurd (not_posted (next_of d.config (state_of d)) sw c.in-PostMember.block is c.requires.may.picks)

pub returns-in-EndSweep-clause-picks : goal.returns-in-EndSweep-clause-picks
returns-in-EndSweep-clause-picks g c =
    let d = c.args.desk.now in
    let (sw, is, answer) = rw c.in-EndSweep.is at c.requires.next in
    absurd (not_ended (next_of d.config (state_of d)) sw is c.requires.may.picks)

pub returns-in-Nothing-clause-picks : goal.returns-in-Nothing-clause-picks
returns-in-Nothing-clause-picks g c =
    let d = c.args.desk.now in
    absurd (not_nothing (next_of d.config (state_of d)) (rw c.in-Nothing.is at c.requires.next) c.requires.may.picks)
