-- What the words tell, against the machine's state.
use Rattle.std.specs.Prelude.{◌≡◌, ◌≤◌, ◌<◌, ◌==◌, ℕ, not, Bool, true, false, IsTrue, List, [], ◌∷◌, ◌++◌, length, Option, Some, None}
use Rattle.std.specs.List.{list_all, list_any}
use Rattle.nvm_core.specs.nv_base.Result.{code_of}
use Rattle.nvm_core.specs.block_machine.Words.{ReqResult, Request, Accepted, Entry, Ask, Post, Configuration}
use Rattle.nvm_core.specs.block_machine.Blocks.{status_of}
use Rattle.nvm_core.specs.block_machine.Legal.{IsLegal}
use Rattle.nvm_core.specs.block_machine.Steps.{after}
use Rattle.turn_gate.specs.Entries.{Gave}
use Rattle.script_walks.specs.Walk.{is_at_rest}
use Rattle.nvm_shared.specs.StatusWords.{gives, is_found, off_word, pending_block}

-- a status stays, or it becomes the one that is given
pub record IsTold (old new : ReqResult) (given : Option ℕ) : Type 0 where
  pub none : given ≡ None → new ≡ old
  pub some : (x : ℕ) → given ≡ Some x → code_of new ≡ x

-- an entry changes the status of a block as it gives one to the block's word
abbrev pub EntriesTellStatuses : Type 0
EntriesTellStatuses =
    (c : Configuration) (cap : ℕ) (h : List Entry) (e : Entry) (block : ℕ) → IsLegal c cap (h ++ e ∷ []) → block ≤ length c.blocks → block < off_word
    → IsTold (status_of (after c h) block) (status_of (after c (h ++ e ∷ [])) block) (gives e block)

-- no entry behind this one gives the word a status
abbrev pub IsLast : List Entry → (word entry : ℕ) → Type 0
IsLast h word entry = (j y : ℕ) → Gave gives h word j y → j ≤ entry

-- the status that an entry gave last is the block's
abbrev pub WordsTellStatuses : Type 0
WordsTellStatuses =
    (c : Configuration) (cap : ℕ) (h : List Entry) (block entry status : ℕ) → IsLegal c cap h → block ≤ length c.blocks → block < off_word
    → Gave gives h block entry status → IsLast h block entry → code_of (status_of (after c h) block) ≡ status

-- and where the last that was given to the word of the power is 1, the power is off
abbrev pub TheOffWordTells : Type 0
TheOffWordTells = (c : Configuration) (cap : ℕ) (h : List Entry) (entry : ℕ) → IsLegal c cap h → Gave gives h off_word entry 1 → IsLast h off_word entry → (after c h).off ≡ true

-- POSTS
abbrev pub is_post_of : ℕ → Entry → Bool
is_post_of id (Post block r given refused ops) = block == id
is_post_of id e = false

-- Where no start-up comes behind an accepted job, or request on all blocks, and nothing is pending at the end, it was posted.
abbrev pub JobsHavePosts : Type 0
JobsHavePosts =
    (c : Configuration) (cap : ℕ) (h more : List Entry) (caller : ℕ) (r : Request) (id : ℕ) → IsLegal c cap (h ++ Ask caller r Accepted ∷ [] ++ more)
    → IsTrue (list_all (λ e. not (is_found e)) more) → IsTrue (is_at_rest (after c (h ++ Ask caller r Accepted ∷ [] ++ more))) → pending_block r ≡ Some id
    → id ≤ length c.blocks → id < off_word → IsTrue (list_any (is_post_of id) more)
