use Rattle.std.proofs.Common.{ℕ, List, length}
use Rattle.ram_blocks.proofs.Trying.{IsTriedIn}
use Rattle.ram_blocks.proofs.tries.copy_in.Given as goal

abbrev pub invariant-loop-i : goal.invariant-loop-i
invariant-loop-i g l = record {
  tried : IsTriedIn (g.C.SyncCalls.told l.fn.copies) (g.C.SyncCalls.told l.copies) l.block (length l.from) l.i;
  stores : (b n : ℕ) (x : List ℕ) → g.C.SyncCalls.is_store l.fn.copies b n x → g.C.SyncCalls.is_store l.copies b n x;
  over : (first : g.row.C.Denot) → g.C.SyncCalls.over first l.fn.copies → g.C.SyncCalls.over first l.copies;
}
