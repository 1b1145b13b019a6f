use Rattle.std.proofs.Common.{refl}
use Rattle.block_machine.specs.Steps.{after}
use Rattle.nv_desk.proofs.AllBlocks.{begins, begun_kept, kept_sweep, room_to_begin}
use Rattle.nv_desk.proofs.desk.Desk.pick_sweep.Goals as goal

pub add_pick-requires : goal.add_pick-requires
add_pick-requires c =
    record { place = (room_to_begin c.self.inside c.args.ops c.self.invariant (rw (← c.self.view_is) at c.requires)).place; fits = tt }

pub invariant_of-self : goal.invariant_of-self
invariant_of-self c =
    let may = rw (← c.self.view_is) at c.requires in
    begun_kept c.self.inside _ _ c.sweep_kind-job.result c.args.ops c.self.invariant may
    (λ at. c.sweep_kind-job.ensures _ may.sweep at) c.add_pick.ensures
    (λ b. c.pick_sweep.ensures _ _ may.sweep c.self.invariant.agrees b.waiting b.hand b.sweep b.before)

pub returns : goal.returns
returns c = rw (← c.self.view_is) (λ sw next.
    let d = c.self.inside in
    let s = after d.config d.history.entries in
    let b = begins d.config s sw next in
    rw (c.add_pick.ensures, c.sweep_kind-job.ensures d.config sw (kept_sweep d.config d.kept.sweep s sw b.sweep c.self.invariant.agrees.sweep)) refl)
