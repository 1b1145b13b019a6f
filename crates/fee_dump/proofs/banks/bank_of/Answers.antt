use Rattle.std.proofs.Common.{arith, rules}
use Rattle.std.proofs.lemmas.Option.{IfSome_then}
use Rattle.fee_image.specs.Image.{layout_of}
use Rattle.fee_dump.proofs.Slices.{head_found, shows}
use Rattle.nv_base.proofs.Shapes.{banks_fill}
use Rattle.fee_dump.proofs.banks.bank_of.Goals as goal

pub returns-clause-head : goal.returns-clause-head
returns-clause-head c =
    head_found (λ v. v.head) c.of.result (layout_of c.args.geometry c.args.banks) c.args.image.now c.args.bank _ (search rules) (omega (arith, (banks_fill _ _ c.requires.legal c.requires.banks).1)) c.of.ensures.stands

pub returns-clause-shows : goal.returns-clause-shows
returns-clause-shows c =
    IfSome_then c.of.result c.of.ensures.view (λ v e. shows (layout_of c.args.geometry c.args.banks) c.args.image.now c.args.bank _ (search rules) _ (search rules) v e)
