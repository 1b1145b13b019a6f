use Rattle.std.proofs.Common.{ℕ, List, length}
use Rattle.ram_blocks.proofs.Trying.{IsTriedOut}
use Rattle.ram_blocks.proofs.tries.copy_out.Given as goal

abbrev pub invariant-loop-i : goal.invariant-loop-i
invariant-loop-i g l = record {
  tried : IsTriedOut (g.C.SyncCalls.told l.fn.copies) (g.C.SyncCalls.told l.copies) l.block (length l.into) l.asked l.i l.last
      (λ n x. g.C.SyncCalls.is_store l.copies l.block n x × g.C.SyncCalls.looked l.fn.copies l.copies l.block n);
  stores : (b n : ℕ) (x : List ℕ) → g.C.SyncCalls.is_store l.fn.copies b n x → g.C.SyncCalls.is_store l.copies b n x;
  over : (first : g.row.C.Denot) → g.C.SyncCalls.over first l.fn.copies → g.C.SyncCalls.over first l.copies;
  looks : (until : g.row.C.Denot) (b n : ℕ) → g.C.SyncCalls.looked l.copies until b n → g.C.SyncCalls.looked l.fn.copies until b n;
}
