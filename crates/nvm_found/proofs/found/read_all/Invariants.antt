use Rattle.std.proofs.Common.{◌≡◌}
use Rattle.nv_recorder.specs.FoundMarks.{numbers_of}
use Rattle.nvm_found.specs.Places.{IsReady, ReadsOn, FirstHeld}
use Rattle.nvm_found.proofs.found.read_all.Given as goal

abbrev pub invariant-loop-i : goal.invariant-loop-i
invariant-loop-i g l = record {
  numbers : numbers_of l.found ≡ numbers_of l.fn.found;
  room : l.found.room ≡ l.fn.found.room;
  ready : IsReady (g.D.MemDevice.told l.device);
  reads : ReadsOn (g.D.MemDevice.told l.fn.device) (g.D.MemDevice.clock l.fn.device) (g.D.MemDevice.told l.device) (g.D.MemDevice.clock l.device);
  held : FirstHeld (g.D.MemDevice.told l.device) l.i l.found.places;
}
