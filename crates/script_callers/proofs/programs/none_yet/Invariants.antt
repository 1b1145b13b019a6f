use Rattle.std.proofs.Common.{◌≡◌, [], map}
use Rattle.std.specs.List.{range_with_len}
use Rattle.block_machine.specs.Words.{Configuration}
use Rattle.script_callers.specs.Programs.{program_by}
use Rattle.script_callers.proofs.programs.none_yet.Given as goal

abbrev pub invariant-loop-caller : goal.invariant-loop-caller
invariant-loop-caller l = (c : Configuration) → l.programs.items ≡ map (program_by c []) (range_with_len 0 l.caller)
