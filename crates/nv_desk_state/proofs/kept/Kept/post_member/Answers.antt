use Rattle.std.proofs.Common.{◌≡◌, Some, ◌∙◌, ap, drop, option_copied}
use Rattle.block_machine.specs.Blocks.{kind_of}
use Rattle.block_machine.specs.Sweeps.{member_job, member_kind}
use Rattle.nv_desk_state.proofs.Members.{sweep_at_member, member_block, kind_is, member_posted}
use Rattle.nv_desk_state.proofs.kept.Kept.post_member.Goals as goal

pub returns-in_default : goal.returns-in_default
returns-in_default c s sw h x =
    let t = c.take_next.ensures.taken sw x.rest (sweep_at_member c.args.config.now c.args.self.now.sweep s sw c.args.block x h.sweep) x.goes_on x.left in
    absurd (c.in_default.not-Some _ t.is)

pub returns : goal.returns
returns c s sw h x =
    let t = c.take_next.ensures.taken sw x.rest (sweep_at_member c.args.config.now c.args.self.now.sweep s sw c.args.block x h.sweep) x.goes_on x.left in
    let is : c.in-Some.job ≡ member_job c.args.config.now sw c.args.block = cc (c.in-Some.is, t.is) in
    let kind : c.kind.result ≡ member_kind sw.writes = c.kind.ensures ∙ ap kind_of is ∙ kind_is sw.writes c.args.block in
    let n = c.note.ensures c.args.config.now (member_job c.args.config.now sw c.args.block)
    (Some (record sw { left = drop 1 sw.left })) t.sweep (t.noted (member_job c.args.config.now sw c.args.block)
    (member_block sw.writes c.args.block)) in
    member_posted c.args.config.now c.args.self.now s sw c.args.block c.args.answer
    (option_copied c.args.given) c.note.new.sweep c.end.new.self h x (rw (member_block sw.writes c.args.block) at n)
    (rw kind at c.end.ensures)
