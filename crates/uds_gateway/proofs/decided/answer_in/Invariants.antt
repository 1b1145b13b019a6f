use Rattle.std.proofs.Common.{◌≡◌, ◌-◌, drop, take}
use Rattle.uds_gateway.specs.Answers.{answer_in}
use Rattle.uds_gateway.proofs.decided.answer_in.Given as goal

-- none before i decides
abbrev pub invariant-loop-i : goal.invariant-loop-i
invariant-loop-i l = answer_in l.request (take (l.fn.to - l.i) (drop l.i l.history.entries)) ≡ answer_in l.request (take (l.fn.to - l.fn.from) (drop l.fn.from l.history.entries))
