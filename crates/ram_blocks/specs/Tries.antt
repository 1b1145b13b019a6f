-- What becomes of a copy that is tried several times.
use Rattle.std.specs.Prelude.{◌≡◌, ◌≢◌, ◌≤◌, ◌<◌, ◌-◌, nat_le, ℕ, Bool, true, false, List, option_map, Option, Some, IfSome}
use Rattle.block_machine.specs.nv_base.Count.{WereCounted}
use Rattle.ram_blocks.specs.Told.{Told, told_at, refusals_of}
use Rattle.ram_blocks.specs.Copies.{changed}
use Rattle.ram_blocks.specs.declared.tries.Tried.{Tried}
use Rattle.ram_blocks.specs.declared.tries.Tried.TheVariants.{Got, Refused, Stale}

-- A content was copied of the store with this number; of a store that is too old there was some content. What `IsStore` says
-- of both is the caller's: that it is a store, and that a look within these tries showed it.
abbrev pub IsOfStore : Tried → (content : List ℕ) → (ℕ → List ℕ → Type 0) → Type 0
IsOfStore (Got n) content IsStore = IsStore n content
IsOfStore Refused content IsStore = Unit {0}
IsOfStore (Stale got) content IsStore = (older : List ℕ) × IsStore got older

-- It is as new as it was asked for; or each try was refused, and the block's count rose by so many; or a store is too old.
abbrev pub IsTried : Tried → (block asked tries : ℕ) → (old new : List Told) → Type 0
IsTried (Got n) block asked tries old new = asked ≤ n
IsTried Refused block asked tries old new = WereCounted tries (refusals_of old block) (refusals_of new block)
IsTried (Stale got) block asked tries old new = got < asked

-- no try of a copy out gave a store
abbrev pub is_refused : Tried → Bool
is_refused Refused = true
is_refused tried = false

-- Where it is told how many of a block's next copies are refused: so many tries of a copy are all refused exactly where as many
-- are to be, and they use up as many.
abbrev pub Spends : (refused : Bool) → (tries : ℕ) → (before after : Option ℕ) → Type 0
Spends refused tries before after = IfSome before (λ n. refused ≡ nat_le tries n) × (after ≡ option_map (λ n. n - tries) before)

-- nothing but the refused copies of one block was counted
abbrev pub OnlyCounts : (block : ℕ) → (old new : List Told) → Type 0
OnlyCounts block old new = (n : ℕ) × (left : Option ℕ) × (new ≡ changed block (λ s. record s { refusals = n; to_refuse = left }) old)

-- nothing is told otherwise of another block
abbrev pub OthersStay : (block : ℕ) → (old new : List Told) → Type 0
OthersStay block old new = (b : ℕ) → b ≢ block → told_at new b ≡ told_at old b

-- no refused copy that was counted is forgotten
abbrev pub OnlyRefuses : (old new : List Told) → Type 0
OnlyRefuses old new = (b : ℕ) → refusals_of old b ≤ refusals_of new b

-- The application took the content, or each try was refused.
abbrev pub IsHanded : Bool → (block tries : ℕ) → (content : List ℕ) → (old new : List Told) → Type 0
IsHanded true block tries content old new = option_map (λ s. s.last) (told_at new block) ≡ Some content
IsHanded false block tries content old new = WereCounted tries (refusals_of old block) (refusals_of new block)
