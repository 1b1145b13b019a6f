use Rattle.std.proofs.Common.{ℕ, ap, ◌∙◌, subst}
use Rattle.fls_model.specs.Op.{Op}
use Rattle.ea_image.specs.Slots.{place_of_page}
use Rattle.ea_slots.specs.Calls.{IsListed}
use Rattle.ea_slots.proofs.Places.{head_op}
use Rattle.ea_slots.proofs.steps.make_step.Goals as goal

pub returns-in-Head : goal.returns-in-Head
returns-in-Head g c =
    let at = c.place_of_page.ensures.value ∙ ap (λ (k : ℕ). place_of_page c.args.geometry k 0) c.head_sector-sector.ensures in
    let op = head_op c.args.geometry c.args.at.0 c.args.at.1 c.args.head c.args.content.now c.args.step _ _ _ c.in-Head.is at c.fill_page.ensures.page in
    subst (λ (o : Op). IsListed o c.args.fls.now c.args.operations.now.items c.program-in-Head.result c.program-in-Head.new.fls c.program-in-Head.new.operations.items) op c.program-in-Head.ensures
