use Rattle.std.proofs.Common.{◌≡◌, ◌+◌, ◌<◌, ◌≤◌, ◌++◌, length, IfSome, option_copied}
use Rattle.std.specs.Option.{option_map, unwrap_or}
use Rattle.nvm_script.specs.Script.{later_lines}
use Rattle.nvm_script.proofs.ScriptLaws.{lines_left}
use Rattle.uds_script.specs.Requests.{requests_in, first_wrong}
use Rattle.uds_script.proofs.requests.read_requests.Given as goal

abbrev pub invariant-loop-rest : goal.invariant-loop-rest
invariant-loop-rest l = record {
  count : length l.requests < l.number;
  within : IfSome (option_copied l.rest) (λ text. l.number + length text ≤ length l.input);
  requests : requests_in (later_lines l.input) ≡ l.requests ++ requests_in (lines_left (option_copied l.rest));
  right : first_wrong 2 (later_lines l.input) ≡ first_wrong (l.number + 1) (lines_left (option_copied l.rest));
}

abbrev pub decreases-loop-rest : goal.decreases-loop-rest
decreases-loop-rest l = unwrap_or (option_map (λ text. length text + 1) (option_copied l.rest)) 0
