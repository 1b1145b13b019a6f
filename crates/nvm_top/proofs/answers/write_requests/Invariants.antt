use Rattle.std.specs.Prelude.{sum_by}
use Rattle.std.proofs.Common.{◌≡◌, ◌≤◌, ◌+◌, drop, length}
use Rattle.nvm_top.specs.Uds.{lines_by, lines_of_history}
use Rattle.nvm_top.proofs.AnswerLines.{PutsSoFar}
use Rattle.nvm_top.proofs.answers.write_requests.Given as goal

-- no fault came so far, and the lines of the requests before i were put
abbrev pub invariant-loop-i : goal.invariant-loop-i
invariant-loop-i g l = record {
  same : g.K.Sink.faults l.output ≡ g.K.Sink.faults l.fn.output;
  within : l.from + sum_by (λ n. n) (drop l.i l.counts) ≤ length l.history.entries;
  put : PutsSoFar (g.K.Sink.written l.fn.output) (g.K.Sink.written l.output) (lines_of_history l.config l.requests l.counts l.history.entries) (lines_by l.config (drop l.i l.requests) (drop l.i l.counts) (drop l.from l.history.entries));
}
