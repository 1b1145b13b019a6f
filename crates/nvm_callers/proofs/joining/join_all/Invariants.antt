use Rattle.nvm_callers.proofs.Common.{◌≡◌, ◌≤◌, ◌+◌, ◌^◌, length, drop, All, slice_index_or, vec_len, vec_capacity, knows, IsDriverOf, AllPlaced, HaveRun, HasWorked}
use Rattle.nvm_callers.proofs.joining.join_all.Given as goal

abbrev pub invariant-loop-joined : goal.invariant-loop-joined
invariant-loop-joined g l =
    IsDriverOf g.D.MemDevice.told g.D.MemDevice.clock g.C.SyncCalls.told l.shared l.pass l.driver × (vec_len l.workers + l._joined ≡ length l.programs)
    × ((knows l.pass).seen ≡ (knows l.initial.pass).seen) × ((knows l.pass).parts + vec_len l.workers ≡ 2 ^ 64)
    × AllPlaced (λ place w. HasWorked g.S.Stores.bytes g.S.Stores.made g.S.Stores.mirrors l.shared l.programs place w.pass w.made w.ending w.seen (slice_index_or l.firsts.value.items place w.stores) w.stores) l.workers.items
    × All (λ w. w.seen ≤ length (knows l.pass).seen) l.workers.items
    × (vec_len l.workers + vec_len l.stores ≤ vec_capacity l.stores)
    × HaveRun g.S.Stores.bytes g.S.Stores.made g.S.Stores.mirrors l.shared.terms (drop (vec_len l.workers) l.programs) (drop (vec_len l.workers) l.firsts.value.items) l.stores.items l.ending (knows l.pass)
