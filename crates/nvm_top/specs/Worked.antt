-- A call of `play` over a blank flash in memory.
use Rattle.std.specs.Prelude.{◌≤◌, ℕ, List, [], length, Option}
use Rattle.nvm_lines.specs.nv_streams.Sink.{Written}
use Rattle.nvm_flash.specs.fls_model.Told.{Told}
use Rattle.nvm_flash.specs.fls_model.Memory.{in_memory}
use Rattle.nvm_flash.specs.promise_run.Call.{Call, IsRunOf}
use Rattle.nvm_flash.specs.promise_run.InRoom.{MadeFewTurns, CutsLeave}
use Rattle.nvm_flash.specs.promise_run.Run.{Run}
use Rattle.nvm_lines.specs.declared.status.Status.{Status}
use Rattle.nvm_lines.specs.declared.status.Status.TheVariants as status
use Rattle.nvm_top.specs.Promised.{played_call}

-- one that has room to tell so many operations
abbrev pub memory_call : ℕ → Option (List ℕ) → Status → Told → Written → Written → Call
memory_call operations input x exit written written' = played_call input x (in_memory [] operations).told exit written written'

-- There is a run that is this call's. If it made no more of them, as where its steps don't drain and have no more turns, each
-- image that a power cut before or within one may leave keeps to the history up to then.
abbrev pub HasCuts : ℕ → Call → Type 0
HasCuts operations call =
    (r : Run) × IsRunOf call r × (MadeFewTurns operations r.course → length r.flash.operations ≤ operations) × (length r.flash.operations ≤ operations → CutsLeave r)

-- at the statuses of a call that surely has a run
abbrev pub CutsLeaveAt : Status → ℕ → Call → Type 0
CutsLeaveAt status.Ok operations call = HasCuts operations call
CutsLeaveAt status.FlashFault operations call = HasCuts operations call
CutsLeaveAt status.HistoryFull operations call = HasCuts operations call
CutsLeaveAt x operations call = Unit {0}
