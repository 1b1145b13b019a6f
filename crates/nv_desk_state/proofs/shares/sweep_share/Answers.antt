use Rattle.std.proofs.Common.{arith}
use Rattle.nv_desk_state.proofs.SweepEntries.{share_begins, share_goes_on, share_ends}
use Rattle.nv_desk_state.proofs.shares.sweep_share.Goals as goal

pub loop-i-init : goal.loop-i-init
loop-i-init c = (share_begins c.args.config.now c.args.writes _ c.member_entries-share.ensures.value, omega (arith, c.member_entries-share.ensures.few))

pub loop-i-preserved : goal.loop-i-preserved
loop-i-preserved c = (
  share_goes_on c.args.config.now c.args.writes c.loop-i.i _ _ _
      (omega (arith, c.loop-i-test.true, c.blocks-i-end.ensures.count)) c.loop-i.invariant.0 c.entries_on-share.ensures.value,
  omega (arith, c.loop-i.invariant.1, c.entries_on-share.ensures.few),
)

pub returns : goal.returns
returns c = share_ends c.args.config.now c.args.writes c.loop-i.i _ _ (omega (arith, c.loop-i-test.false, c.blocks-i-end.ensures.count)) c.loop-i.invariant.0
