use Rattle.script_player.proofs.Common.{arith}
use Rattle.script_player.proofs.PlannedCuts.{one_more, few_in}
use Rattle.script_player.proofs.cuts.cuts_of.Goals.{in-Some, in_default}
use Rattle.script_player.proofs.cuts.cuts_of.Goals as goal

pub loop-i-preserved : goal.loop-i-preserved
loop-i-preserved c = elim c.match-get.branch [
  | in-Some w ↦
      let more = one_more c.args.steps.now c.loop-i.i w.in-Some.step.now w.in-Some.ensures in
      let few = few_in w.in-Some.step.now.kind in
      let is = w.cuts-is in
      let one = w.cuts_in-cuts.ensures in
      let sum = c.loop-i.invariant.sum in
      let most = c.loop-i.invariant.few in
      record { sum = omega (arith, more, is, one, sum); few = omega (arith, few, is, one, most) }
  | in_default w ↦ absurd (let out = w.in_default.ensures in let within = c.loop-i-test.true in let end = c.len-i-end.ensures in omega (arith, out, within, end))
]
