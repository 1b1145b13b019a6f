use Rattle.std.proofs.Common.{arith}
use Rattle.nv_desk.proofs.Lengths.{longest_begins, longest_goes_on, longest_ends}
use Rattle.nv_desk.proofs.longest.longest_content.Goals as goal

pub loop-i-init : goal.loop-i-init
loop-i-init c = longest_begins c.args.config.now

pub loop-i-preserved : goal.loop-i-preserved
loop-i-preserved c = longest_goes_on c.args.config.now c.loop-i.i _ _ _ c.loop-i.invariant c.length.ensures c.greater-longest.ensures.one c.greater-longest.ensures.other

pub returns : goal.returns
returns c = rw c.from.ensures (longest_ends c.args.config.now c.loop-i.i _
    (omega (arith, c.loop-i-test.false, c.blocks-i-end.ensures.count)) c.loop-i.invariant)
