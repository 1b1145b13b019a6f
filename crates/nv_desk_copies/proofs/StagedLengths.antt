-- How long a content may be that is staged.
use Rattle.std.proofs.Common.{arith, ◌≡◌, ◌≤◌, ◌<◌, ◌⊎◌, ◌||◌, ℕ, ◌+◌, zero, suc, Bool, true, false, List, [], ◌∷◌, length, is_some, slice_get, if◌then◌else◌, refl, Option, Some, None, IfSome, ⊎_elim, inl, inr}
use Rattle.std.proofs.lemmas.Bool.{cases_lt}
use Rattle.std.proofs.lemmas.Option.{slice_get_past}
use Rattle.block_machine.specs.Words.{BlockDesc, Configuration}
use Rattle.block_machine.specs.Blocks.{desc_of, is_synchronized}
use Rattle.nv_desk_copies.specs.Front.{staged_length}

-- THE LONGEST

abbrev pub AllStaged : Configuration → ℕ → ℕ → Type 0
AllStaged c i longest = (id : ℕ) → id ≤ i → staged_length (desc_of c id) ≤ longest

pub staged_begins : (c : Configuration) → AllStaged c 0 0
staged_begins c zero low = omega arith
staged_begins c (suc id) low = absurd (omega (arith, low))

pub staged_goes_on : (c : Configuration) (i longest here next : ℕ) → AllStaged c i longest → here ≡ staged_length (desc_of c (i + 1))
    → longest ≤ next → here ≤ next → AllStaged c (i + 1) next
staged_goes_on c i longest here next so_far is up own id low =
    ⊎_elim (λ (below : id < i + 1). omega (arith, so_far id (omega (arith, below)), up))
    (λ (over : i + 1 ≤ id). let e : i + 1 ≡ id = omega (arith, over, low) in let h : here ≡ staged_length (desc_of c id) = rw e at is in omega (arith, h, own))
    (cases_lt id (i + 1))

past : (c : Configuration) (id : ℕ) → length c.blocks < id → staged_length (desc_of c id) ≡ 0
past c zero over = absurd (omega (arith, over))
past c (suc i) over = rw (slice_get_past c.blocks i (omega (arith, over))) refl

pub staged_ends : (c : Configuration) (i longest : ℕ) → length c.blocks ≤ i → AllStaged c i longest → (id : ℕ) → staged_length (desc_of c id) ≤ longest
staged_ends c i longest all so_far id =
    ⊎_elim (λ (below : id < i + 1). so_far id (omega (arith, below)))
    (λ (over : i + 1 ≤ id). omega (arith, past c id (omega (arith, over, all)))) (cases_lt id (i + 1))
