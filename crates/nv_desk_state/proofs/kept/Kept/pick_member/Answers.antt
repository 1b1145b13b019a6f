use Rattle.std.proofs.Common.{◌≡◌, [], Some, subst}
use Rattle.block_machine.specs.State.{Job}
use Rattle.block_machine.specs.Steps.{picked_job}
use Rattle.job_pending.specs.Pending.{Agree}
use Rattle.job_pending.specs.Take.{Took, taken_with}
use Rattle.block_machine.specs.Sweeps.{member_job}
use Rattle.nv_desk_state.proofs.Members.{sweep_at_member, member_picked}
use Rattle.nv_desk_state.proofs.kept.Kept.pick_member.Goals as goal

pub returns-in_default : goal.returns-in_default
returns-in_default c s sw h x =
    let t = c.take_next.ensures.taken sw x.rest (sweep_at_member c.args.config.now c.args.self.now.sweep s sw c.args.block x h.sweep) x.goes_on x.left in
    absurd (c.in_default.not-Some _ t.is)

pub returns : goal.returns
returns c s sw h x =
    let t = c.take_next.ensures.taken sw x.rest (sweep_at_member c.args.config.now c.args.self.now.sweep s sw c.args.block x h.sweep) x.goes_on x.left in
    let is : c.in-Some.job ≡ member_job c.args.config.now sw c.args.block = cc (c.in-Some.is, t.is) in
    let a = c.pick_member.ensures.agrees c.args.config.now (rw (x.waiting, x.hand) at h.jobs) in
    let took : Took = (c.args.take, c.args.copy) in
    let b = subst (λ (j : Job). Agree c.args.config.now c.pick_member.new.self [] (Some (picked_job (taken_with j.content took) 0 j))) is a in
    member_picked c.args.config.now c.args.self.now s sw c.args.block _ c.take_next.new.sweep c.pick_member.new.self c.set_status.new.self c.take_next.result h x t c.set_status.ensures b c.pick_member.ensures.places
