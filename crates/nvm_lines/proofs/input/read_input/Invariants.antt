use Rattle.std.proofs.Common.{◌≡◌, ◌-◌, vec_len}
use Rattle.std.specs.Io.KnownBytes.{Consumes}
use Rattle.nvm_lines.proofs.input.read_input.Given as goal

-- all that was taken so far is what the input has lost, and no fault came
abbrev pub invariant-loop-buffer : goal.invariant-loop-buffer
invariant-loop-buffer g l =
    Consumes (g.S.Source.left l.initial.input) (g.S.Source.left l.input) l.all.items × (g.S.Source.faults l.input ≡ g.S.Source.faults l.initial.input)

abbrev pub decreases-loop-buffer : goal.decreases-loop-buffer
decreases-loop-buffer g l = 16777217 - vec_len l.all
