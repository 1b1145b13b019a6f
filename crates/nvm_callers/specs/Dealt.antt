-- The application's sides of synchronized blocks, dealt to the callers that store into them.
use Rattle.std.specs.Prelude.{◌≡◌, ◌<◌, ◌≤◌, ◌==◌, ◌||◌, ℕ, Bool, false, List, [], ◌∷◌, length, if◌then◌else◌, Option, Some, None, IfSome}
use Rattle.ram_mirrors_sync.specs.Blocks.{SideList, SideValue, side_at}
use Rattle.script_callers.specs.declared.deed.Deed.{Deed}
use Rattle.script_callers.specs.declared.deed.Deed.TheVariants.{Store}
use Rattle.script_callers.specs.declared.program.Program.{Program}

abbrev pub is_store_into : ℕ → Deed → Bool
is_store_into block (Store line id number content) = id == block
is_store_into block d = false

-- these deeds store into the block
abbrev pub store_into : ℕ → List Deed → Bool
store_into block [] = false
store_into block (d ∷ ds) = is_store_into block d || store_into block ds

-- of one block: the side that was in goes over where it is stored into
abbrev pub moved : {N : Type 0} → Bool → Option (SideValue N) → Option (SideValue N)
moved goes side = if goes then side else None

abbrev pub kept : {N : Type 0} → Bool → Option (SideValue N) → Option (SideValue N)
kept goes side = if goes then None else side

-- The sides of the blocks that these deeds store into were dealt, and no others.
pub record IsDealt {N : Type 0} (deeds : List Deed) (first own left : SideList N) : Type 0 where
  pub own_at : (block : ℕ) → side_at own block ≡ moved (store_into block deeds) (side_at first block)
  pub left_at : (block : ℕ) → side_at left block ≡ kept (store_into block deeds) (side_at first block)
  pub places : length left ≡ length first

-- Each program was dealt, in order, from what those before it had left.
abbrev pub AllDealt : {N : Type 0} → List Program → (first : SideList N) → (owns : List (SideList N)) → (left : SideList N) → Type 0
AllDealt [] first [] left = left ≡ first
AllDealt {N} (p ∷ ps) first (o ∷ os) left = (between : SideList N) × IsDealt p.deeds first o between × AllDealt ps between os left
AllDealt ps first os left = ⊥

-- each side that is in has a place in other sides
abbrev pub HasPlaces : {N : Type 0} → SideList N → SideList N → Type 0
HasPlaces from to = (block : ℕ) → IfSome (side_at from block) (λ s. block < length to)

-- and no side there yet
abbrev pub IsFree : {N : Type 0} → SideList N → SideList N → Type 0
IsFree from to = (block : ℕ) → IfSome (side_at from block) (λ _. side_at to block ≡ None)

-- one side goes over, where it is in
pub record GoesOver {N : Type 0} (block : ℕ) (from to from_new to_new : SideList N) : Type 0 where
  pub others : (b : ℕ) → (b == block) ≡ false → (side_at to_new b ≡ side_at to b) × (side_at from_new b ≡ side_at from b)
  pub none : side_at from block ≡ None → (side_at to_new block ≡ side_at to block) × (side_at from_new block ≡ None)
  pub some : (s : SideValue N) → side_at from block ≡ Some s → (side_at to_new block ≡ Some s) × (side_at from_new block ≡ None)
  pub places : length to_new ≡ length to
  pub left_places : length from_new ≡ length from

-- THEY COME BACK
-- no side of the block is in these
abbrev pub NoneIn : {N : Type 0} → ℕ → List (SideList N) → SideList N → Type 0
NoneIn block [] left = side_at left block ≡ None
NoneIn block (o ∷ os) left = (side_at o block ≡ None) × NoneIn block os left

-- no two of these have a side of one block
abbrev pub AreApart : {N : Type 0} → List (SideList N) → SideList N → Type 0
AreApart [] left = Unit {0}
AreApart (o ∷ os) left = ((block : ℕ) → IfSome (side_at o block) (λ _. NoneIn block os left)) × AreApart os left

-- sides of blocks below this one alone
abbrev pub AreBelow : {N : Type 0} → ℕ → SideList N → Type 0
AreBelow places sides = (block : ℕ) → places ≤ block → side_at sides block ≡ None

-- of one block: the one side, else the other
abbrev pub either_side : {N : Type 0} → Option (SideValue N) → Option (SideValue N) → Option (SideValue N)
either_side (Some s) o = Some s
either_side None o = o

-- The sides of a caller stand among the others again.
pub record IsGathered {N : Type 0} (own left all : SideList N) : Type 0 where
  pub at : (block : ℕ) → side_at all block ≡ either_side (side_at own block) (side_at left block)
  pub places : length all ≡ length left

-- so do those of each
abbrev pub AllGathered : {N : Type 0} → (owns : List (SideList N)) → (left all : SideList N) → Type 0
AllGathered [] left all = all ≡ left
AllGathered {N} (o ∷ os) left all = (between : SideList N) × AllGathered os left between × IsGathered o between all
