use Rattle.std.proofs.Common.{arith}
use Rattle.nv_desk_state.specs.Pending.{IsSweep}
use Rattle.nv_desk_state.proofs.Members.{member_known, sweep_goes_on}
use Rattle.nv_desk_state.proofs.kept.Kept.next_step.Goals as goal

pub returns-clause-next : goal.returns-clause-next
returns-clause-next c s sw h some on =
    let is : IsSweep c.args.config.now c.in-Some.sweep sw = rw (c.in-Some.is, some) at h.sweep in
    rw (c.step.ensures, c.peek-member.ensures.next) (sweep_goes_on c.args.config.now s c.in-Some.sweep sw c.member_facts-facts.result is on
    (rw c.peek-member.ensures.next at (c.member_facts-facts.ensures s h)))

pub returns-clause-known : goal.returns-clause-known
returns-clause-known c s sw id h x = member_known c.args.config.now c.args.self.now s sw id
    (omega (arith, c.blocks-blocks.ensures.legal.blocks_low)) h x
