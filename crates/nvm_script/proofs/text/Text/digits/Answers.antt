use Rattle.std.proofs.Common.{◌≡◌, ◌+◌, ◌-◌, arith}
use Rattle.std.proofs.lemmas.List.{take_rest}
use Rattle.nvm_script.proofs.TextLaws.{adds_no_digits, adds_more, adds_rest}
use Rattle.nvm_script.proofs.text.Text.digits.Goals as goal

pub loop-at-init : goal.loop-at-init
loop-at-init c = (omega arith, adds_no_digits)

pub loop-at-preserved : goal.loop-at-preserved
loop-at-preserved c =
    let count : (c.loop-at.at + 64) - c.loop-at.at ≡ 64 = omega arith in
    (omega (arith, c.loop-at-test.true, c.loop-at.invariant.0), adds_more c.args.bytes.now c.loop-at.at 64 c.loop-at.invariant.1 (rw count at c.piece.ensures))

pub returns : goal.returns
returns c = adds_rest c.args.bytes.now c.loop-at.at c.loop-at.invariant.1 (rw take_rest at c.pairs.ensures)
