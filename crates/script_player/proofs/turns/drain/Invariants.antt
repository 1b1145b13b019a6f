use Rattle.script_player.proofs.Common.{◌≡◌, ◌≤◌, ◌+◌, true, List, length, Entry, Part, PartTold, Step, Move, state_of, moment_of, HasTurned, AreMade, AllFindWork, told_by, seen_by, kept_by}
use Rattle.script_player.specs.Kept.{IsKept}
use Rattle.script_player.specs.PlainKept.{starts_found}
use Rattle.script_player.proofs.turns.drain.Given as goal

abbrev pub invariant-loop : goal.invariant-loop
invariant-loop g l = record {
  ready : (told_by g.D.MemDevice.told l.stack).ready ≡ true;
  counted : (told_by g.D.MemDevice.told l.initial.stack).faults ≤ (told_by g.D.MemDevice.told l.stack).faults;
  kept : (before : List Step) → IsKept before (told_by g.D.MemDevice.told l.initial.stack)
      → (es : List Entry) × HasTurned before (told_by g.D.MemDevice.told l.initial.stack) (told_by g.D.MemDevice.told l.stack) es
      × ((ms : List Move) × (length ms + (told_by g.D.MemDevice.told l.stack).work ≤ (told_by g.D.MemDevice.told l.initial.stack).work) × AllFindWork (told_by g.D.MemDevice.told l.initial.stack).configuration (moment_of (told_by g.D.MemDevice.told l.initial.stack)) (state_of (told_by g.D.MemDevice.told l.initial.stack)) ms × AreMade (seen_by g.D.MemDevice.told g.D.MemDevice.clock l.initial.stack) (seen_by g.D.MemDevice.told g.D.MemDevice.clock l.stack) es ms (told_by g.D.MemDevice.told l.initial.stack) (told_by g.D.MemDevice.told l.stack)) × IsKept before (told_by g.D.MemDevice.told l.stack);
  keeps : (before : Part → PartTold) → kept_by g.D.MemDevice.told g.D.MemDevice.clock l.initial.stack before → kept_by g.D.MemDevice.told g.D.MemDevice.clock l.stack before;
  starts : starts_found g.D.MemDevice.told l.initial.stack → starts_found g.D.MemDevice.told l.stack;
}

abbrev pub decreases-loop : goal.decreases-loop
decreases-loop g l = (told_by g.D.MemDevice.told l.stack).work
