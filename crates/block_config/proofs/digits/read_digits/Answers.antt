use Rattle.std.proofs.Common.{ℕ, max, refl, ap, arith, ◌∙◌}
use Rattle.std.proofs.lemmas.List.{length-set}
use Rattle.block_config.proofs.DigitPairs.{none_read, one_read, all_read}
use Rattle.block_config.proofs.digits.read_digits.Goals as goal

pub loop-i-init : goal.loop-i-init
loop-i-init c = (refl, none_read _ _)

pub loop-i-preserved : goal.loop-i-preserved
loop-i-preserved c = (length-set c.loop-i.bytes c.loop-i.i _ ∙ c.loop-i.invariant.0, one_read c.args.digits.now c.loop-i.bytes c.loop-i.greatest _ c.loop-i.i _ _ (c.greater-greatest.ensures ∙ ap (λ (n : ℕ). max n c.value-low.result) c.greater.ensures) (omega arith) (omega arith) c.value-high.ensures c.value-low.ensures c.loop-i.invariant.1)

pub returns : goal.returns
returns c = all_read c.args.digits.now c.loop-i.bytes c.loop-i.greatest c.loop-i.i (omega arith) (omega arith) c.loop-i.invariant.1
