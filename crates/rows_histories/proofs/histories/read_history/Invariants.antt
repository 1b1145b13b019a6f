use Rattle.std.proofs.Common.{◌≡◌, ◌≤◌, ◌-◌, length, take}
use Rattle.nvm_script.specs.Printed.{history_text}
use Rattle.rows_histories.proofs.histories.read_history.Given as goal

-- the lines of the entries so far are the text's, up to this place
abbrev pub invariant-loop-at : goal.invariant-loop-at
invariant-loop-at l = record {
  place : l.at ≤ length l.text;
  cap : l.history.cap ≡ 4294967295;
  lines : history_text l.history.entries ≡ take l.at l.text;
}

abbrev pub decreases-loop-at : goal.decreases-loop-at
decreases-loop-at l = length l.text - l.at
