use Rattle.block_machine.specs.Blocks.{desc_of}
use Rattle.block_machine.specs.Results.{own_of, unpicked_result}
use Rattle.std.proofs.Common.{◌≡◌, ◌∙◌, [], ap}
use Rattle.nv_desk.specs.Desk.{state_of}
use Rattle.nv_desk.specs.Picks.{lent_or}
use Rattle.nv_desk_copies.specs.Posts.{answer_in}
use Rattle.nv_desk_copies.proofs.Taking.{posts_of}
use Rattle.nv_desk_copies.proofs.Posting.{as_ended, member_posts, member_posted}
use Rattle.nv_desk_copies.proofs.skipped.post_member.Goals as goal

pub post_member-requires : goal.post_member-requires
post_member-requires g c =
    let d = c.args.desk.now in
    let sw = c.requires.may.sweep in
    let lent = c.lent_or-bytes.result.now in
    let is_lent : lent ≡ lent_or [] c.unpicked-end.new.staging.bytes = c.lent_or-bytes.ensures ∙ ap (lent_or []) c.bytes.ensures in
    let ended : answer_in c.unpicked-end.result.answer c.unpicked-end.result.gives lent ≡ unpicked_result (own_of d.config (state_of d) c.args.block) sw.writes = rw is_lent (c.unpicked-end.ensures.answer sw (posts_of d.config (state_of d) sw c.args.block c.requires.may.is).1) in
    let over = as_ended (desc_of d.config c.args.block) _ _ _ _ _ _ _ ended (rw c.config.ensures at c.hand_over-refused.ensures.over) in
    rw c.given_if.ensures (record {
      sweep = sw;
      is = c.requires.may.is;
      allowed = member_posts d.config d.cap (state_of d) sw c.args.block
          (answer_in c.hand_over-refused.result.0.answer c.hand_over-refused.result.0.gives lent) c.hand_over-refused.result.1 c.args.ops _ _
          c.requires.may.driving c.requires.may.is over;
      whole = rw c.config.ensures at c.hand_over-refused.ensures.whole;
    })

pub returns-clause-posted : goal.returns-clause-posted
returns-clause-posted g c sw is =
    let d = c.args.desk.now in
    let lent = c.lent_or-bytes.result.now in
    let is_lent : lent ≡ lent_or [] c.unpicked-end.new.staging.bytes = c.lent_or-bytes.ensures ∙ ap (lent_or []) c.bytes.ensures in
    let ended : answer_in c.unpicked-end.result.answer c.unpicked-end.result.gives lent ≡ unpicked_result (own_of d.config (state_of d) c.args.block) sw.writes = rw is_lent (c.unpicked-end.ensures.answer sw (posts_of d.config (state_of d) sw c.args.block is).1) in
    let over = as_ended (desc_of d.config c.args.block) _ _ _ _ _ _ _ ended (rw c.config.ensures at c.hand_over-refused.ensures.over) in
    member_posted d c.post_member.new.self sw c.args.block c.args.ops _ _
    (answer_in c.hand_over-refused.result.0.answer c.hand_over-refused.result.0.gives lent) c.hand_over-refused.result.1
    c.requires.may.driving is over c.hand_over-refused.ensures.others (rw c.given_if.ensures at (c.post_member.ensures sw is))
