use Rattle.std.proofs.Common.{ℕ, ◌+◌, ◌<◌, ◌≤◌, List, [], length, IfSome, option_copied}
use Rattle.std.specs.Option.{option_map, unwrap_or}
use Rattle.nvm_script.specs.declared.step.Step.{Step}
use Rattle.nvm_script.specs.Script.{IsScript, IsFirstWrong, later_lines}
use Rattle.nvm_script.specs.ScriptReading.{Owns}
use Rattle.nvm_script.proofs.ScriptLaws.{lines_left}
use Rattle.nvm_script.proofs.script.read_script.Given as goal

abbrev pub invariant-loop-rest : goal.invariant-loop-rest
invariant-loop-rest l = record {
  owners : Owns l.config l.owners l.steps;
  count : length l.steps < l.number;
  within : IfSome (option_copied l.rest) (λ text. l.number + length text ≤ length l.input);
  script : (steps : List Step) → IsScript l.config l.mode (l.number + 1) l.steps (lines_left (option_copied l.rest)) steps → IsScript l.config l.mode 2 [] (later_lines l.input) steps;
  wrong : (k : ℕ) → IsFirstWrong l.config l.mode (l.number + 1) l.steps (lines_left (option_copied l.rest)) k → IsFirstWrong l.config l.mode 2 [] (later_lines l.input) k;
}

abbrev pub decreases-loop-rest : goal.decreases-loop-rest
decreases-loop-rest l = unwrap_or (option_map (λ text. length text + 1) (option_copied l.rest)) 0
