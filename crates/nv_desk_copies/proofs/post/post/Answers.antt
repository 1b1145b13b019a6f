use Rattle.std.proofs.Common.{◌≡◌, ◌∙◌, ap}
use Rattle.block_machine.specs.State.{Job}
use Rattle.block_machine.specs.Blocks.{job_block, names_ram}
use Rattle.nv_desk.specs.Desk.{state_of}
use Rattle.nv_desk.specs.Picks.{lent_or}
use Rattle.nv_desk_copies.specs.Posts.{answer_in, answer_of}
use Rattle.nv_desk_copies.proofs.Posting.{posted, same_job}
use Rattle.nv_desk_copies.proofs.post.post.Goals as goal

pub returns-clause-posted : goal.returns-clause-posted
returns-clause-posted g c j hand =
    let d = c.args.desk.now in
    let same : c.in-Some.job.now ≡ j = same_job c.in-Some.job.now j (c.in-Some.ensures ∙ hand) in
    let lent = c.lent_or-bytes.result.now in
    let is_lent : lent ≡ lent_or c.args.content.now c.ended-end.new.staging.bytes = c.lent_or-bytes.ensures ∙ ap (lent_or c.args.content.now) c.bytes.ensures in
    let names = rw c.request.ensures at c.names_ram-ram.ensures in
    posted d c.post.new.self j c.args.answer c.args.source c.args.content.now c.args.ops _ _
    c.block-block.result c.names_ram-ram.result
    (answer_in c.ended-end.result.answer c.ended-end.result.gives lent)
    (answer_in c.hand_over-refused.result.0.answer c.hand_over-refused.result.0.gives lent) c.hand_over-refused.result.1
    hand (c.block-block.ensures ∙ ap job_block same) (names ∙ ap (λ (x : Job). names_ram x.request) same)
    (rw is_lent c.ended-end.ensures.answer ∙ ap (λ (x : Job). answer_of d.config (state_of d) x c.args.answer c.args.source c.args.content.now) same)
    (rw c.config.ensures at c.hand_over-refused.ensures.over) c.hand_over-refused.ensures.others (rw c.given_if.ensures at c.post.ensures)
