use Rattle.nvm_callers.proofs.Common.{◌≡◌, ◌≤◌, ◌+◌, ◌-◌, ◌^◌, length, drop, slice_index_or, vec_len, vec_capacity, knows, IsUserOf, IsFresh, AllPlaced, with_parts}
use Rattle.nvm_callers.proofs.splitting.split_all.Given as goal

abbrev pub invariant-loop-made : goal.invariant-loop-made
invariant-loop-made g l =
    IsUserOf l.shared l.pass × (knows l.pass ≡ with_parts (knows l.initial.pass) (2 ^ 64 - l._made)) × (vec_len l.workers ≡ l._made) × (vec_len l.stores + l._made ≡ length l.programs)
    × (l.stores.items ≡ drop l._made l.initial.stores.items) × (vec_capacity l.initial.stores ≤ vec_capacity l.stores) × (length l.programs ≤ vec_capacity l.workers)
    × AllPlaced (λ place w. IsFresh l.shared w.pass w.made w.ending × (w.stores ≡ slice_index_or l.initial.stores.items place w.stores)) l.workers.items
