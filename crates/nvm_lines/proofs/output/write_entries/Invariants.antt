use Rattle.std.proofs.Common.{◌≡◌, ◌≤◌, ◌-◌, drop, take}
use Rattle.nv_streams.specs.Sink.{Puts}
use Rattle.nvm_script.specs.Printed.{history_lines}
use Rattle.nvm_lines.proofs.output.write_entries.Given as goal

-- no fault came so far, and the lines of the entries before i were put
abbrev pub invariant-loop-i : goal.invariant-loop-i
invariant-loop-i g l =
    (g.K.Sink.faults l.output ≡ g.K.Sink.faults l.initial.output)
    × ((l.fn.from ≤ l.i) × Puts (g.K.Sink.written l.initial.output) (g.K.Sink.written l.output) (history_lines (take (l.i - l.fn.from) (take (l.fn.to - l.fn.from) (drop l.fn.from l.history.entries)))))
