use Rattle.script_player.proofs.Common.{take, Part, PartTold, AreServedSoFar, told_by, seen_by, kept_by}
use Rattle.script_player.specs.PlainKept.{starts_found}
use Rattle.script_player.proofs.requests.serve_requests.Given as goal

-- the requests before i are served
abbrev pub invariant-loop-i : goal.invariant-loop-i
invariant-loop-i g l = record {
  so_far : AreServedSoFar (seen_by g.D.MemDevice.told g.D.MemDevice.clock l.initial.stack) (seen_by g.D.MemDevice.told g.D.MemDevice.clock l.stack) (take l.i l.requests) l.counts.items (told_by g.D.MemDevice.told l.initial.stack) (told_by g.D.MemDevice.told l.stack);
  keeps : (before : Part → PartTold) → kept_by g.D.MemDevice.told g.D.MemDevice.clock l.initial.stack before → kept_by g.D.MemDevice.told g.D.MemDevice.clock l.stack before;
  starts : starts_found g.D.MemDevice.told l.initial.stack → starts_found g.D.MemDevice.told l.stack;
}
