use Rattle.std.proofs.Common.{◌≡◌, ◌+◌, ℕ, suc, true, if◌then◌else◌}
use Rattle.nvm_moves.specs.block_machine.Words.{Request}
use Rattle.nvm_moves.specs.nv_desk.Desk.{state_of}
use Rattle.nvm_moves.specs.nvm_core.Work.{work_of}
use Rattle.uds_gateway.specs.Jobs.{HasOne}
use Rattle.uds_gateway.specs.StackCalls.{MakesTurns}
use Rattle.uds_gateway.specs.Turning.{Goes, is_on_way}
use Rattle.uds_gateway.proofs.turning.turns_to_post.Given as goal

abbrev pub invariant-loop-turned : goal.invariant-loop-turned
invariant-loop-turned g l = record {
  ready : l.stack.ready ≡ true;
  turns : (n : ℕ) × MakesTurns g.D.MemDevice.told g.D.MemDevice.clock g.C.SyncCalls.told g.C.SyncCalls.is_store g.C.SyncCalls.looked (suc n) l.fn.stack l.stack;
  goes : (asked : Request) → HasOne asked (state_of l.fn.stack.desk) → Goes asked l.turned l.fn.stack.desk l.stack.desk;
}

abbrev pub decreases-loop-turned : goal.decreases-loop-turned
decreases-loop-turned g l = if is_on_way l.turned then work_of g.D.MemDevice.told l.stack + 1 else 0
