use Rattle.std.proofs.Common.{◌≡◌, ◌≤◌, ◌-◌, length}
use Rattle.nvm_lines.proofs.Printing.{PutsUpTo}
use Rattle.nvm_lines.proofs.output.put_lines.Given as goal

-- no fault came so far, and the lines before this place were put
abbrev pub invariant-loop-at : goal.invariant-loop-at
invariant-loop-at g l = record {
  place : l.at ≤ length l.text;
  faults : g.K.Sink.faults l.output ≡ g.K.Sink.faults l.initial.output;
  lines : PutsUpTo (g.K.Sink.written l.initial.output) (g.K.Sink.written l.output) l.text l.at;
}

abbrev pub decreases-loop-at : goal.decreases-loop-at
decreases-loop-at g l = length l.text - l.at
