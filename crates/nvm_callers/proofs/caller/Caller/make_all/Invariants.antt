use Rattle.nvm_callers.proofs.Common.{◌≡◌, ◌≤◌, ℕ, List, Option, take, knows, IsUserOf, Stored, Did, KeepsPass}
use Rattle.nvm_callers.proofs.caller.Caller.make_all.Given as goal

abbrev pub invariant-loop-place : goal.invariant-loop-place
invariant-loop-place g l =
    IsUserOf l.shared l.pass × KeepsPass (knows l.initial.pass) (knows l.pass) × ((block : ℕ) → g.S.Stores.bytes l.stores block ≡ g.S.Stores.bytes l.initial.stores block) × (g.S.Stores.mirrors l.stores ≡ g.S.Stores.mirrors l.initial.stores)
    × (l.begin ≤ l.place)
    × ((bytes : ℕ → Option ℕ) (began : ℕ → List Stored) → ((block : ℕ) → g.S.Stores.bytes l.initial.stores block ≡ bytes block) → Did l.shared.terms l.self.number (take l.begin l.deeds) (knows l.initial.pass) bytes began (g.S.Stores.made l.initial.stores)
    → Did l.shared.terms l.self.number (take l.place l.deeds) (knows l.pass) bytes began (g.S.Stores.made l.stores))
