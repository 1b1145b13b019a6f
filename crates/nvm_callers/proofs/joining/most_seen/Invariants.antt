use Rattle.nvm_callers.proofs.Common.{◌<◌, ◌≤◌, ℕ, slice_index_or}
use Rattle.nvm_callers.proofs.joining.most_seen.Given as goal

abbrev pub invariant-loop-place : goal.invariant-loop-place
invariant-loop-place g l = (k : ℕ) (d : _) → k < l.place → (slice_index_or l.workers k d).seen ≤ l.most
