use Rattle.std.proofs.Common.{◌≡◌, ◌++◌, take, drop}
use Rattle.fls_devices.specs.FaultScript.{kept_of, without}
use Rattle.fls_devices.proofs.fault_script.take_listed.Given as goal

abbrev pub invariant-loop-i : goal.invariant-loop-i
invariant-loop-i l = record {
  kept : kept_of (drop l.i l.list.items) l.number ≡ kept_of l.list.items l.number;
  without : take l.i l.list.items ++ without (drop l.i l.list.items) l.number ≡ without l.list.items l.number;
  same : l.list.items ≡ l.initial.list.items;
}
