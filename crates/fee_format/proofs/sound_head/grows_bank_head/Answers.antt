use Rattle.std.proofs.Common.{◌∙◌, arith}
use Rattle.fee_format.proofs.SoundHeads.{grows_if_may}
use Rattle.fee_format.proofs.sound_head.grows_bank_head.Goals as goal

pub returns-then-page-ge12 : goal.returns-then-page-ge12
returns-then-page-ge12 c = c.may_grow.ensures ∙ grows_if_may c.args.page.now (omega (arith, c.if-page-ge12.true)) (λ i. omega (arith, c.type_inv.page i))
