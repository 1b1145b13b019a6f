use Rattle.std.proofs.Common.{◌≡◌, ◌∙◌, Bool, true, false, None, refl, sym}
use Rattle.block_machine.specs.Results.{took_none}
use Rattle.nv_desk.specs.job_pending.Take.{result_without}
use Rattle.nv_desk.specs.Desk.{state_of}
use Rattle.nv_desk.specs.Picks.{lent_or}
use Rattle.nv_desk_copies.specs.Front.{given_if}
use Rattle.nv_desk_copies.specs.Posts.{answer_in}
use Rattle.nv_desk_copies.proofs.Posting.{checked_answer}
use Rattle.nv_desk_copies.proofs.post.ended.Goals as goal

got_one : (t : Bool) → None ≡ result_without t → t ≡ false
got_one true is = cc
got_one false is = refl

pub returns-then-checks_id-clause-answer : goal.returns-then-checks_id-clause-answer
returns-then-checks_id-clause-answer c =
    let d = c.args.desk.now in
    let j = c.args.job.now in
    checked_answer d.config (state_of d) j c.args.answer c.args.source c.args.content.now
    (given_if c.stage_given-gives.result (lent_or c.args.content.now c.stage_given-gives.new.staging.bytes))
    (answer_in c.checked.result.answer c.checked.result.gives (lent_or c.args.content.now c.checked.new.staging.bytes))
    (got_one (took_none j.taken) (sym c.in_default.is ∙ c.result_without_content.ensures)) (rw c.if-checks_id.true at (sym c.checks_id.ensures))
    (rw (c.config.ensures, c.index.ensures, c.block-block.ensures) at c.stage_given-gives.ensures.given)
    (rw c.config-then-checks_id.ensures at c.checked.ensures.answer)
