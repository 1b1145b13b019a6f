use Rattle.script_player.proofs.Common.{◌≡◌, true, List, Part, PartTold, Step, MakesTurns, told_by, seen_by, kept_by}
use Rattle.script_player.specs.Kept.{IsKept}
use Rattle.script_player.specs.PlainKept.{starts_found}
use Rattle.script_player.proofs.turns.make_turns.Given as goal

abbrev pub invariant-loop-turn : goal.invariant-loop-turn
invariant-loop-turn g l = record {
  ready : (told_by g.D.MemDevice.told l.stack).ready ≡ true;
  turns : (before : List Step) → IsKept before (told_by g.D.MemDevice.told l.initial.stack) → MakesTurns (seen_by g.D.MemDevice.told g.D.MemDevice.clock l.initial.stack) (seen_by g.D.MemDevice.told g.D.MemDevice.clock l.stack) l._turn before (told_by g.D.MemDevice.told l.initial.stack) (told_by g.D.MemDevice.told l.stack) × IsKept before (told_by g.D.MemDevice.told l.stack);
  keeps : (before : Part → PartTold) → kept_by g.D.MemDevice.told g.D.MemDevice.clock l.initial.stack before → kept_by g.D.MemDevice.told g.D.MemDevice.clock l.stack before;
  starts : starts_found g.D.MemDevice.told l.initial.stack → starts_found g.D.MemDevice.told l.stack;
}
