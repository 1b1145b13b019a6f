use Rattle.std.proofs.Common.{sym, ◌∙◌}
use Rattle.std.proofs.lemmas.Bool.{false≢true}
use Rattle.std.proofs.lemmas.Bool.Decides.{Decides-eqb}
use Rattle.std.proofs.lemmas.Slice.Eq.{slice_eq-Decides}
use Rattle.ea_image.proofs.Standing.{front_is, front_take, front_back}
use Rattle.ea_image.proofs.slot_head.begins_with.Goals as goal

pub returns-then-eq : goal.returns-then-eq
returns-then-eq c =
    let same = (slice_eq-Decides Decides-eqb _ _ _ c.eq.ensures).0 c.if-eq.true in
    (λ t. front_is 16 c.args.page.now c.args.bytes.now c.requires.page same (c.all_are.ensures.list.0 t), λ is. c.all_are.ensures.list.1 (front_back 16 c.args.page.now c.args.bytes.now c.requires.page c.requires.bytes is))

pub returns-else-eq : goal.returns-else-eq
returns-else-eq c =
    let test = slice_eq-Decides Decides-eqb _ _ _ c.eq.ensures in
    (λ t. absurd (false≢true (sym c.if-eq.false ∙ t)), λ is. test.1 (front_take 16 c.args.page.now c.args.bytes.now c.requires.bytes is))
