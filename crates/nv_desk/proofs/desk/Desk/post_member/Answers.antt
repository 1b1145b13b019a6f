use Rattle.std.proofs.Common.{refl, option_copied}
use Rattle.block_machine.specs.Words.{Post}
use Rattle.block_machine.specs.Steps.{after}
use Rattle.nv_desk.proofs.Drivers.{has_room, can_post, allowed_kept}
use Rattle.nv_desk.proofs.Entries.{stay_ready}
use Rattle.nv_desk.proofs.MemberEntries.{at_posted, member_given, posted_jobs, posted_sound, posted_step}
use Rattle.nv_desk.proofs.desk.Desk.post_member.Goals as goal

pub post_member-requires : goal.post_member-requires
post_member-requires c =
    let d = c.self.inside in
    let may = rw (← c.self.view_is) at c.requires in
    member_given d.config d.kept.blocks.rooms c.args.block (option_copied c.args.given) c.self.invariant.agrees.rooms may.whole

pub add_post-requires : goal.add_post-requires
add_post-requires c =
    let d = c.self.inside in
    let may = rw (← c.self.view_is) at c.requires in
    let given = option_copied c.args.given in
    can_post d _ c.args.block given c.self.invariant (has_room d (Post c.args.block c.args.answer given c.args.refused c.args.ops) c.self.invariant may.allowed refl) may.whole

pub invariant_of-self : goal.invariant_of-self
invariant_of-self c =
    let d = c.self.inside in
    let s = after d.config d.history.entries in
    let may = rw (← c.self.view_is) at c.requires in
    let given = option_copied c.args.given in
    let x = at_posted d.config s may.sweep c.args.block may.is in
    allowed_kept d _ _ d.places (Post c.args.block c.args.answer given c.args.refused c.args.ops) c.self.invariant may.allowed refl
    (posted_sound d.config s may.sweep c.args.block c.args.answer given c.args.refused c.args.ops c.self.invariant.sound x may.is)
    c.add_post.ensures
    (posted_step d.config c.post_member.new.self s may.sweep c.args.block c.args.answer given c.args.refused c.args.ops x.hand may.is
    (c.post_member.ensures s may.sweep c.self.invariant.agrees x))
    (stay_ready d _ c.self.invariant
    (posted_jobs d.config s may.sweep c.args.block c.args.answer given c.args.refused c.args.ops x.hand may.is))

pub returns : goal.returns
returns c = rw (← c.self.view_is) (λ sw next. rw c.add_post.ensures refl)
