-- The greatest length, block by block.
use Rattle.std.proofs.Common.{◌≡◌, ◌≤◌, ◌<◌, ℕ, zero, suc, ◌+◌, ◌==◌, ◌||◌, Bool, true, false, List, [], ◌∷◌, length, map, get_or, slice_get, unwrap_or, replicate, if◌then◌else◌, ⊎_elim, arith, refl}
use Rattle.std.specs.List.{enumerate_from}
use Rattle.std.proofs.lemmas.List.{length-replicate}
use Rattle.std.proofs.lemmas.Bool.{cases_lt}
use Rattle.std.proofs.lemmas.Option.{slice_get_past}
use Rattle.block_machine.specs.block_config.Block.{plain_block}
use Rattle.block_machine.specs.Words.{Configuration, BlockDesc}
use Rattle.block_machine.specs.Blocks.{desc_of, is_permanent}
use Rattle.ram_blocks.specs.Kept.{ram_of}
use Rattle.ram_blocks.specs.declared.kept.RamBlock.{RamBlock}
use Rattle.block_states.specs.States.{rooms_of}

abbrev AllUpTo : Configuration → ℕ → ℕ → Type 0
AllUpTo c i longest = (id : ℕ) → id ≤ i → (desc_of c id).length ≤ longest

pub longest_begins : (c : Configuration) → AllUpTo c 0 0
longest_begins c zero low = omega arith
longest_begins c (suc id) low = absurd (omega (arith, low))

pub longest_goes_on : (c : Configuration) (i longest here next : ℕ) → AllUpTo c i longest → here ≡ (desc_of c (i + 1)).length
    → longest ≤ next → here ≤ next → AllUpTo c (i + 1) next
longest_goes_on c i longest here next so_far is up own id low =
    ⊎_elim (λ (below : id < i + 1). omega (arith, so_far id (omega (arith, below))))
    (λ (over : i + 1 ≤ id). let e : i + 1 ≡ id = omega (arith, over, low) in let h : here ≡ (desc_of c id).length = rw e at is in omega (arith, h, own))
    (cases_lt id (i + 1))

past : (c : Configuration) (id : ℕ) → length c.blocks < id → (desc_of c id).length ≡ 0
past c zero over = absurd (omega (arith, over))
past c (suc i) over = rw (slice_get_past c.blocks i (omega (arith, over))) refl

pub longest_ends : (c : Configuration) (i longest : ℕ) → length c.blocks ≤ i → AllUpTo c i longest → (id : ℕ) → (desc_of c id).length ≤ longest
longest_ends c i longest all so_far id =
    ⊎_elim (λ (below : id < i + 1). so_far id (omega (arith, below)))
    (λ (over : i + 1 ≤ id). omega (arith, past c id (omega (arith, over, all)))) (cases_lt id (i + 1))

-- THE ROOM OF RAM

some_of : (n zeros : ℕ) (t : Bool) → length (replicate (if t then n else 0) zeros) ≤ n
some_of n zeros true = omega (arith, length-replicate n zeros)
some_of n zeros false = omega (arith, length-replicate 0 zeros)

room_of : (id : ℕ) (d : BlockDesc) → length (ram_of id d).content ≤ d.length
room_of id d = some_of d.length 0 ((id == 1) || is_permanent d.ram)

room_at : (n : ℕ) (ds : List BlockDesc) (i : ℕ)
    → get_or (map (λ (r : RamBlock). length r.content) (map (λ (x : ℕ × BlockDesc). ram_of x.0 x.1) (enumerate_from n ds))) i 0
    ≤ (unwrap_or (slice_get ds i) (plain_block 0)).length
room_at n [] i = omega arith
room_at n (d ∷ ds) zero = room_of n d
room_at n (d ∷ ds) (suc i) = room_at (n + 1) ds i

-- it is no more than a block has bytes
pub room_within : (c : Configuration) (id : ℕ) → get_or (rooms_of c) id 0 ≤ (desc_of c id).length
room_within c zero = omega arith
room_within c (suc i) = room_at 1 c.blocks i
