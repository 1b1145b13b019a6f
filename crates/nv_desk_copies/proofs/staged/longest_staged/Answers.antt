use Rattle.std.proofs.Common.{arith}
use Rattle.nv_desk_copies.proofs.StagedLengths.{staged_begins, staged_goes_on, staged_ends}
use Rattle.nv_desk_copies.proofs.staged.longest_staged.Goals as goal

pub loop-i-init : goal.loop-i-init
loop-i-init c = staged_begins c.args.config.now

pub loop-i-preserved : goal.loop-i-preserved
loop-i-preserved c = staged_goes_on c.args.config.now c.loop-i.i _ _ _ c.loop-i.invariant c.staged_length.ensures c.greater-longest.ensures.one c.greater-longest.ensures.other

pub returns : goal.returns
returns c = rw c.from.ensures (staged_ends c.args.config.now c.loop-i.i _
    (omega (arith, c.loop-i-test.false, c.blocks-i-end.ensures.count)) c.loop-i.invariant)
