use Rattle.nvm_callers.proofs.Common.{◌<◌, ℕ, slice_index_or, IsSome}
use Rattle.nvm_callers.proofs.callers.have_ended.Given as goal

abbrev pub invariant-loop-worker : goal.invariant-loop-worker
invariant-loop-worker g l = (k : ℕ) (d : _) → k < l.worker-index → IsSome (slice_index_or l.workers k d).ending
