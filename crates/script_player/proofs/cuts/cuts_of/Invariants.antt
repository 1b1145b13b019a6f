use Rattle.script_player.proofs.Common.{◌≡◌, ◌≤◌, take, cuts_of}
use Rattle.script_player.proofs.cuts.cuts_of.Given as goal

abbrev pub invariant-loop-i : goal.invariant-loop-i
invariant-loop-i l = record {
  sum : l.cuts ≡ cuts_of (take l.i l.steps);
  few : l.cuts ≤ l.i;
}
