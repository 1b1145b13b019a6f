-- The operations that a device tells, and those that its flash saw.
use Rattle.std.specs.Prelude.{◌+◌}
use Rattle.std.proofs.Common.{inl, inr, ℕ, List, [], ◌∷◌, refl}
use Rattle.fls_model.specs.Told.{Change}
use Rattle.promise_device.specs.FlashRun.{AreSeen}

-- a flash without planned cuts saw its own operations
pub seen_all : (kept : ℕ → Type 0) (k : ℕ) (last : List ℕ) (xs : List Change) → AreSeen kept k last xs [] xs
seen_all kept k last [] = (refl, refl)
seen_all kept k last (x ∷ xs) = inl (xs, refl, seen_all kept (k + 1) last xs)

-- also where more may have been cut
pub seen_more : (kept other : ℕ → Type 0) (k : ℕ) (last : List ℕ) (xs : List Change) (cuts : List ℕ) (seen : List Change) → ((n : ℕ) → kept n → other n)
    → AreSeen kept k last xs cuts seen → AreSeen other k last xs cuts seen
seen_more kept other k last [] cuts seen more are = are
seen_more kept other k last (x ∷ xs) cuts seen more (inl (rest, head, behind)) = inl (rest, head, seen_more kept other (k + 1) last xs cuts rest more behind)
seen_more kept other k last (x ∷ xs) cuts seen more (inr (later, rest, cut, behind)) =
    inr (later, rest, record { off = (more k cut.off.0, cut.off.1); keep = cut.keep; first = cut.first; part = cut.part }, seen_more kept other (k + 1) last xs later rest more behind)
