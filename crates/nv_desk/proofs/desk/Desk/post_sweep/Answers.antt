use Rattle.std.proofs.Common.{◌≡◌, ◌∙◌, refl, ap}
use Rattle.block_machine.specs.Sweeps.{sweep_result}
use Rattle.nv_desk.proofs.AllBlocks.{ended_kept, room_to_finish, same_sweep}
use Rattle.nv_desk.proofs.desk.Desk.post_sweep.Goals as goal

pub add-requires : goal.add-requires
add-requires c = (room_to_finish c.self.inside c.args.answer c.args.ops c.self.invariant (rw (← c.self.view_is) at c.requires)).place

pub invariant_of-self : goal.invariant_of-self
invariant_of-self c =
    let may = rw (← c.self.view_is) at c.requires in
    ended_kept c.self.inside _ _ c.args.answer c.args.ops c.self.invariant may (rw may.result_is at c.add.ensures)
    (λ x. rw may.result_is at (c.end_sweep.ensures c.self.inside.config _ may.sweep c.self.invariant.agrees x.hand))

pub returns : goal.returns
returns c = rw (← c.self.view_is) (λ sw next.
    let may = rw (← c.self.view_is) at c.requires in
    let answer : c.args.answer ≡ sweep_result sw = may.result_is ∙ ap sweep_result (same_sweep may.sweep sw _ may.is next) in
    rw (c.add.ensures, answer) refl)
