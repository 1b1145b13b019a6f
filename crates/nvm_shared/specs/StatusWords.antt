-- The status words: a word for each block, by id, and one for the power.
use Rattle.std.specs.Prelude.{◌≡◌, ◌<◌, ℕ, ◌==◌, nat_lt, Bool, true, false, if◌then◌else◌, Option, Some, None}
use Rattle.std.specs.Option.{option_and_then}
use Rattle.nvm_core.specs.nv_base.Result.{code_of}
use Rattle.turn_gate.specs.Entries.{OnlyGives, GivesNone}
use Rattle.nvm_core.specs.block_machine.Words.{Pending, Accepted, Entry, Ask, Pick, Post, Off, Found}
pub use Rattle.script_walks.specs.Callers.{pending_block}

-- behind the words of the ids 0 to 512 comes that of the power: 1 from an Off on
abbrev pub off_word : ℕ
off_word = 513

abbrev pub word_count : ℕ
word_count = 514

-- an id beyond those of blocks has no word
abbrev pub told_at : (status block : ℕ) → Option (ℕ × ℕ)
told_at status block = if nat_lt block off_word then Some (block, status) else None

-- The word that an entry changes, with its status, if it changes one: an accepted job, and the Pick of a member, make a block
-- PENDING, and a Post ends that. The Pick of another job tells again what its acceptance told.
abbrev pub told_by : Entry → Option (ℕ × ℕ)
told_by (Ask caller r Accepted) = option_and_then (told_at (code_of Pending)) (pending_block r)
told_by (Pick block kind t ops) = told_at (code_of Pending) block
told_by (Post block r given refused ops) = told_at (code_of r) block
told_by (Off ops) = Some (off_word, 1)
told_by e = None

-- the block of a Pick
abbrev pub picked_by : Entry → Option ℕ
picked_by (Pick block kind t ops) = Some block
picked_by e = None

abbrev pub gives_by : Option (ℕ × ℕ) → ℕ → Option ℕ
gives_by (Some p) word = if p.0 == word then Some p.1 else None
gives_by None word = None

-- the status that an entry gives a word, if it gives one: a start-up gives each word status 0
abbrev pub gives : Entry → ℕ → Option ℕ
gives (Found marks ops) word = Some 0
gives e word = gives_by (told_by e) word

-- any pass may add a request
abbrev pub is_ask : Entry → Bool
is_ask (Ask caller r reply) = true
is_ask e = false

abbrev pub is_found : Entry → Bool
is_found (Found marks ops) = true
is_found e = false

-- an entry that is no start-up changes the word that is told, and no other, or none
pub record IsToldRightly (e : Entry) : Type 0 where
  pub none : told_by e ≡ None → GivesNone gives e
  pub one : (word status : ℕ) → told_by e ≡ Some (word, status) → OnlyGives gives word status e × (word < word_count)

abbrev pub EntriesChangeOneWord : Type 0
EntriesChangeOneWord = (e : Entry) → is_found e ≡ false → IsToldRightly e
