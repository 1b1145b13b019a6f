use Rattle.std.proofs.Common.{◌≡◌, ◌∙◌, ℕ, List, [], ◌∷◌, ◌++◌, ap, subst, sym, arith, refl, None, option_copied}
use Rattle.block_machine.specs.Words.{Pick, Taken}
use Rattle.block_machine.specs.State.{Sweep}
use Rattle.block_machine.specs.Sweeps.{member_kind}
use Rattle.block_machine.specs.Next.{next_of, PickMember}
use Rattle.block_machine.specs.Steps.{after}
use Rattle.job_pending.specs.Take.{taken_with}
use Rattle.nv_desk.specs.Desk.{DeskState, shown, state_of}
use Rattle.nv_desk.specs.Members.{MayPickMember}
use Rattle.nv_desk.specs.Picks.{lent_or, ram_at, took_of}
use Rattle.nv_desk.specs.Rooms.{with_entry}
use Rattle.nv_desk_state.proofs.Members.{member_known}
use Rattle.nv_desk.proofs.AllBlocks.{kept_sweep}
use Rattle.nv_desk.proofs.Drivers.{allowed_kept}
use Rattle.nv_desk.proofs.MemberEntries.{at_picked, member_fits, member_pick, member_places, member_sound, member_step}
use Rattle.nv_desk.proofs.Picks.{lent_at}
use Rattle.nv_desk.proofs.desk.Desk.pick_member.Goals as goal

pub copy_of-copy-requires : goal.copy_of-copy-requires
copy_of-copy-requires c =
    let d = c.self.inside in
    let lent = lent_or (ram_at (shown d) c.args.block) (option_copied c.args.lent) in
    let may = subst (λ (x : DeskState). MayPickMember x c.args.block (took_of c.args.take (lent_or (ram_at x c.args.block) (option_copied c.args.lent))) c.args.ops) (sym c.self.view_is) c.requires in
    let p = member_pick d c.args.block _ c.args.ops c.self.invariant c.queue_sizes-sizes.ensures.legal c.fills_its_rooms.ensures may in
    let is_lent : c.lent_or-lent.result.now ≡ lent = c.lent_or-lent.ensures
    ∙ lent_at d c.args.block c.ram.result.now (option_copied c.args.lent) c.self.invariant c.ram.ensures.value in
    rw is_lent (member_fits d c.args.block c.args.take lent p.place p.whole)

pub pick_member-requires : goal.pick_member-requires
pick_member-requires c =
    let d = c.self.inside in
    let s = after d.config d.history.entries in
    let may = subst (λ (x : DeskState). MayPickMember x c.args.block (took_of c.args.take (lent_or (ram_at x c.args.block) (option_copied c.args.lent))) c.args.ops) (sym c.self.view_is) c.requires in
    member_known d.config d.kept s may.sweep c.args.block (omega (arith, c.queue_sizes-sizes.ensures.legal.blocks_low)) c.self.invariant.agrees
    (at_picked d.config s may.sweep c.args.block may.is)

pub add_pick-requires : goal.add_pick-requires
add_pick-requires c =
    let d = c.self.inside in
    let lent = lent_or (ram_at (shown d) c.args.block) (option_copied c.args.lent) in
    let may = subst (λ (x : DeskState). MayPickMember x c.args.block (took_of c.args.take (lent_or (ram_at x c.args.block) (option_copied c.args.lent))) c.args.ops) (sym c.self.view_is) c.requires in
    let p = member_pick d c.args.block _ c.args.ops c.self.invariant c.queue_sizes-sizes.ensures.legal c.fills_its_rooms.ensures may in
    let is_lent : c.lent_or-lent.result.now ≡ lent = c.lent_or-lent.ensures
    ∙ lent_at d c.args.block c.ram.result.now (option_copied c.args.lent) c.self.invariant c.ram.ensures.value in
    record { place = p.room.place; fits = c.taken_of_lent-taken.ensures.fits d.history.longest (rw is_lent p.takes) }

pub invariant_of-self : goal.invariant_of-self
invariant_of-self c =
    let d = c.self.inside in
    let lent = lent_or (ram_at (shown d) c.args.block) (option_copied c.args.lent) in
    let may = subst (λ (x : DeskState). MayPickMember x c.args.block (took_of c.args.take (lent_or (ram_at x c.args.block) (option_copied c.args.lent))) c.args.ops) (sym c.self.view_is) c.requires in
    let s = after d.config d.history.entries in
    let is_lent : c.lent_or-lent.result.now ≡ lent = c.lent_or-lent.ensures
    ∙ lent_at d c.args.block c.ram.result.now (option_copied c.args.lent) c.self.invariant c.ram.ensures.value in
    let p = member_pick d c.args.block _ c.args.ops c.self.invariant c.queue_sizes-sizes.ensures.legal c.fills_its_rooms.ensures may in
    let known = member_known d.config d.kept s may.sweep c.args.block (omega (arith, c.queue_sizes-sizes.ensures.legal.blocks_low)) c.self.invariant.agrees p.member in
    let kind = c.member_kind-job.ensures d.config may.sweep (kept_sweep d.config d.kept.sweep s may.sweep p.member.sweep c.self.invariant.agrees.sweep) in
    let took = took_of c.args.take lent in
    allowed_kept d _ _ _ (Pick c.args.block (member_kind may.sweep.writes) (taken_with None took) c.args.ops) c.self.invariant may.allowed refl
    (member_sound d.config s may.sweep c.args.block (member_kind may.sweep.writes) took c.args.ops c.self.invariant.sound p.member may.is
    (omega (arith, known, c.self.invariant.agrees.places)) may.allowed.0.started p.ram p.whole)
    (rw kind at (c.add_pick.ensures ∙ ap (λ (t : Taken). with_entry d.history (Pick c.args.block c.member_kind-job.result t c.args.ops))
    (c.taken_of_lent-taken.ensures.taken ∙ ap (λ (l : List ℕ). taken_with None (took_of c.args.take l)) is_lent)))
    (member_step d.config c.pick_member.new.self s may.sweep c.args.block (member_kind may.sweep.writes) took c.args.ops may.is
    (rw (c.copy_of-copy.ensures.copy, is_lent) at (c.pick_member.ensures s may.sweep c.self.invariant.agrees p.member)))
    (member_places d c.copy_of-copy.new.places (member_kind may.sweep.writes) c.args.take lent c.args.ops may.sweep c.args.block c.self.invariant p.member may.is
    (rw is_lent at c.copy_of-copy.ensures.places))

pub returns : goal.returns
returns c =
    let new : DeskState = record { config = c.self.inside.config; cap = c.add_pick.new.history.cap; entries = c.add_pick.new.history.entries; prepared = c.self.inside.prepared } in
    subst (λ (y : DeskState). (sw : Sweep) → next_of y.config (state_of y) ≡ PickMember sw c.args.block
    → new ≡ record y { entries = y.entries ++ Pick c.args.block (member_kind sw.writes) (taken_with None (took_of c.args.take (lent_or (ram_at y c.args.block) (option_copied c.args.lent)))) c.args.ops ∷ [] }) c.self.view_is (λ sw next.
    let d = c.self.inside in
    let lent = lent_or (ram_at (shown d) c.args.block) (option_copied c.args.lent) in
    let s = after d.config d.history.entries in
    let x = at_picked d.config s sw c.args.block next in
    let kind = c.member_kind-job.ensures d.config sw (kept_sweep d.config d.kept.sweep s sw x.sweep c.self.invariant.agrees.sweep) in
    let is_lent : c.lent_or-lent.result.now ≡ lent = c.lent_or-lent.ensures
    ∙ lent_at d c.args.block c.ram.result.now (option_copied c.args.lent) c.self.invariant c.ram.ensures.value in
    rw (c.add_pick.ensures, kind, c.taken_of_lent-taken.ensures.taken, is_lent) refl)
