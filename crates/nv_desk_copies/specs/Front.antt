-- What the front keeps beside the desk.
use Rattle.std.specs.Prelude.{◌≡◌, ◌⊎◌, ◌≤◌, ◌||◌, ℕ, List, Bool, true, is_some, slice_get, if◌then◌else◌, Option, Some, None}
use Rattle.std.specs.Option.{option_and_then}
use Rattle.block_machine.specs.Words.{BlockDesc, Configuration, Entry, Post}
use Rattle.block_machine.specs.Blocks.{desc_of, is_synchronized}
use Rattle.ram_blocks.specs.Told.{Told, IsSynchronized, sizes_of}
use Rattle.ram_blocks.specs.Tries.{OnlyCounts, OnlyRefuses}

-- memory for one content: its bytes at most, and the content that stands there, if one does
pub record StagingState : Type 0 where
  pub room : ℕ
  pub bytes : Option (List ℕ)

-- a content, where it is given
abbrev pub given_if : (gives : Bool) → List ℕ → Option (List ℕ)
given_if gives bytes = if gives then Some bytes else None

-- a content of a block may have to stand there: a copy of synchronized RAM, defaults, or a ROM dataset
abbrev pub is_staged : BlockDesc → Bool
is_staged d = is_synchronized d.ram || (is_some d.defaults || is_some (slice_get d.rom 0))

-- how many bytes of it may
abbrev pub staged_length : BlockDesc → ℕ
staged_length d = if is_staged d then d.length else 0

-- it is enough for each block
abbrev pub StagesAll : Configuration → StagingState → Type 0
StagesAll c s = (id : ℕ) → staged_length (desc_of c id) ≤ s.room

-- the synchronized blocks of a configuration are the application's, with their lengths
abbrev pub AreSynchronized : Configuration → List Told → Type 0
AreSynchronized c told = (id : ℕ) → is_synchronized (desc_of c id).ram ≡ true → IsSynchronized told id (desc_of c id).length

-- nothing is told otherwise, but that copies of this block were refused
abbrev pub OnlyRefusals : (block : ℕ) → (old new : List Told) → Type 0
OnlyRefusals block old new = (new ≡ old) ⊎ OnlyCounts block old new

-- Whatever is copied, these stay: which blocks are synchronized; each refused copy that was counted; the stores that there were;
-- and what the application's side is over.
pub record CopiesStay {C : Type 0} (told : C → List Told) (is_store : C → ℕ → ℕ → List ℕ → Type 0) (over : C → C → Type 0) (old new : C) : Type 0 where
  pub sizes : sizes_of (told new) ≡ sizes_of (told old)
  pub refuses : OnlyRefuses (told old) (told new)
  pub stores_stay : (b n : ℕ) (x : List ℕ) → is_store old b n x → is_store new b n x
  pub stays_over : (first : C) → over first old → over first new

-- READS THAT WERE NOT TAKEN

-- by block, the number of the Post that gave what was read
abbrev pub Numbers : Type 0
Numbers = List (Option ℕ)

-- what the Post with this number gave
abbrev pub given_in : Entry → Option (List ℕ)
given_in (Post block r given refused ops) = given
given_in e = None

abbrev pub given_at : List Entry → ℕ → Option (List ℕ)
given_at entries n = option_and_then given_in (slice_get entries n)
