use Rattle.std.proofs.Common.{◌≡◌, ◌∙◌, ap, refl, option_copied, Option}
use Rattle.std.specs.Option.{option_map_or}
use Rattle.block_machine.specs.Words.{Post}
use Rattle.block_machine.specs.State.{Job}
use Rattle.block_machine.specs.Blocks.{job_block}
use Rattle.block_machine.specs.Steps.{after}
use Rattle.nv_desk.specs.Driver.{block_now}
use Rattle.nv_desk.proofs.Drivers.{room_to_end, can_post, driver_kept, end_fits, holds, others_of, held_apart, post_places, post_step}
use Rattle.nv_desk.proofs.SoundDriver.{sound_post}
use Rattle.nv_desk.proofs.desk.Desk.post.Goals as goal

pub end-content-requires : goal.end-content-requires
end-content-requires c = end_fits c.self.inside (option_copied c.args.given) c.self.invariant (rw (← c.self.view_is) at c.requires)

pub add_post-requires : goal.add_post-requires
add_post-requires c =
    let may = rw (← c.self.view_is) at c.requires in
    can_post c.self.inside _ _ (option_copied c.args.given) c.self.invariant
    (room_to_end c.self.inside c.args.answer (option_copied c.args.given) c.args.refused c.args.ops c.self.invariant may) may.whole

pub invariant_of-self : goal.invariant_of-self
invariant_of-self c =
    let d = c.self.inside in
    let s = after d.config d.history.entries in
    let may = rw (← c.self.view_is) at c.requires in
    let h = holds s may.hand in
    let given = option_copied c.args.given in
    let block : c.block_in_hand-block.result ≡ block_now s = c.block_in_hand-block.ensures
    ∙ ap (λ (o : Option Job). option_map_or job_block o 0) c.self.invariant.agrees.jobs.hand in
    driver_kept d _ _ _ (Post (block_now s) c.args.answer given c.args.refused c.args.ops) c.self.invariant
    (room_to_end d c.args.answer given c.args.refused c.args.ops c.self.invariant may)
    (sound_post d.config s (block_now s) c.args.refused c.args.ops c.args.answer given h.job h.is c.self.invariant.sound
    (others_of h.job s.waiting (held_apart d.config d.kept.jobs s.waiting s.hand h.job c.self.invariant.agrees.jobs h.is)))
    (rw block at c.add_post.ensures)
    (post_step d.config c.end-content.new.self s (block_now s) c.args.answer given c.args.refused c.args.ops h.job h.is
    (c.end-content.ensures.posted s h.job c.self.invariant.agrees h.is))
    (post_places d _ (block_now s) c.args.answer given c.args.refused c.args.ops c.block_in_hand-block.result c.end-content.result h.job c.self.invariant h.is block
    c.end-content.ensures.content c.put.ensures)

pub returns : goal.returns
returns c =
    let block : c.block_in_hand-block.result ≡ block_now (after c.self.inside.config c.self.inside.history.entries) = c.block_in_hand-block.ensures
    ∙ ap (λ (o : Option Job). option_map_or job_block o 0) c.self.invariant.agrees.jobs.hand in
    rw (← c.self.view_is, c.add_post.ensures, block) refl
