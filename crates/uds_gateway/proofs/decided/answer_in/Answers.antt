use Rattle.std.proofs.Common.{◌-◌, drop, take, refl, sym, ◌∙◌, arith}
use Rattle.uds_gateway.specs.Answers.{answer_in}
use Rattle.uds_gateway.proofs.Deciding.{at_end, decided, undecided, past_decided}
use Rattle.uds_gateway.proofs.decided.answer_in.Goals as goal
use Rattle.uds_gateway.proofs.decided.answer_in.Goals.{in-Some+in_ok-answer+else-is_some+in-Some-1, in-Some+in_ok-answer+else-is_some+in-None-1, in_default}

pub loop-i-init : goal.loop-i-init
loop-i-init c = refl

pub returns-then-is_some : goal.returns-then-is_some
returns-then-is_some c =
    decided c.args.request.now c.args.history.now.entries c.loop-i.i c.args.to c.in-Some.entry.now c.in_ok-answer.answer (answer_in c.args.request.now (take (c.args.to - c.args.from) (drop c.args.from c.args.history.now.entries))) c.loop-i-test.true c.in-Some.ensures c.in_ok-answer.ensures (sym c.is_some.ensures ∙ c.if-is_some.true) c.loop-i.invariant

pub loop-i-preserved : goal.loop-i-preserved
loop-i-preserved c = elim c.match-entry.branch [
  | in-Some+in_ok-answer+else-is_some+in-Some-1 w ↦
      undecided c.args.request.now c.args.history.now.entries c.loop-i.i c.args.to w.in-Some.entry.now w.in_ok-answer.answer (answer_in c.args.request.now (take (c.args.to - c.args.from) (drop c.args.from c.args.history.now.entries))) c.loop-i-test.true w.in-Some.ensures w.in_ok-answer.ensures (sym w.is_some.ensures ∙ w.if-is_some.false) c.loop-i.invariant
  | in-Some+in_ok-answer+else-is_some+in-None-1 w ↦
      undecided c.args.request.now c.args.history.now.entries c.loop-i.i c.args.to w.in-Some.entry.now w.in_ok-answer.answer (answer_in c.args.request.now (take (c.args.to - c.args.from) (drop c.args.from c.args.history.now.entries))) c.loop-i-test.true w.in-Some.ensures w.in_ok-answer.ensures (sym w.is_some.ensures ∙ w.if-is_some.false) c.loop-i.invariant
  | in_default w ↦ past_decided c.args.request.now c.args.history.now.entries c.loop-i.i c.args.to (answer_in c.args.request.now (take (c.args.to - c.args.from) (drop c.args.from c.args.history.now.entries))) w.in_default.ensures c.loop-i.invariant
]

pub returns : goal.returns
returns c = sym (at_end c.args.request.now c.args.history.now.entries c.loop-i.i c.args.to (let past = c.loop-i-test.false in omega (arith, past))) ∙ c.loop-i.invariant
