use Rattle.std.proofs.Common.{◌≡◌, ◌<◌, ℕ, length}
use Rattle.nv_desk.specs.Places.{IsReady}
use Rattle.nv_desk.proofs.places.Places.make.Given as goal

abbrev pub invariant-loop-id : goal.invariant-loop-id
invariant-loop-id l = (length l.places.items ≡ l.id) × ((id : ℕ) → id < l.id → IsReady l.config l.places.items id)
