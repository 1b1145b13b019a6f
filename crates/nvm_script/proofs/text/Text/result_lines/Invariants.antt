use Rattle.std.proofs.Common.{get_or}
use Rattle.std.specs.List.{flat_map, range_with_len}
use Rattle.nvm_script.specs.Text.{Adds}
use Rattle.nvm_script.specs.Summary.{result_line}
use Rattle.nvm_script.proofs.text.Text.result_lines.Given as goal

abbrev pub invariant-loop-code : goal.invariant-loop-code
invariant-loop-code l = Adds (flat_map (λ code. result_line code (get_or l.results code 0)) (range_with_len 0 l.code)) l.initial.self l.self
