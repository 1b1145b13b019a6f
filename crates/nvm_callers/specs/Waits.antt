-- What a caller learns from a wait.
use Rattle.std.specs.Prelude.{◌≢◌, ◌≤◌, ◌<◌, ◌||◌, ℕ, not, IsTrue, List, [], ◌∷◌, ◌++◌, length, take}
use Rattle.driver_moves.specs.nv_base.Result.{code_of}
use Rattle.driver_moves.specs.block_machine.Words.{Pending, Instance, Mark, Entry, Found, Configuration}
use Rattle.driver_moves.specs.block_machine.Blocks.{status_of, is_pending}
use Rattle.driver_moves.specs.block_machine.Steps.{after}
use Rattle.driver_moves.specs.block_machine.Legal.{IsLegal}
use Rattle.turn_gate.specs.Entries.{Note, note, StartsWith, AllAgree, NotBelow}
use Rattle.driver_moves.specs.nvm_moves.script_walks.Callers.{is_over}
use Rattle.driver_moves.specs.nvm_shared.StatusWords.{gives, off_word}

-- A wait on a block is over behind the first `end` entries of each history that begins with what was seen and agrees with what polls
-- told, and each such history has those entries.
pub record Waited (c : Configuration) (cap block end : ℕ) (seen : List Entry) (notes : List Note) : Type 0 where
  pub some : 0 < end
  pub within : (h : List Entry) → StartsWith h seen → AllAgree gives h notes → end ≤ length h
  pub over : (h : List Entry) → StartsWith h seen → AllAgree gives h notes → IsTrue (is_over block (take end h))

-- it is over, and not before all that was seen
abbrev pub EndsWait : Configuration → (cap block : ℕ) → List Entry → List Note → Type 0
EndsWait c cap block seen notes = (end : ℕ) × (length seen ≤ end) × Waited c cap block end seen notes

-- a poll that shows another status than PENDING ends it
abbrev pub PollsEndWaits : Type 0
PollsEndWaits =
    (c : Configuration) (cap block : ℕ) (seen : List Entry) (notes : List Note) (entry status : ℕ) → block ≤ length c.blocks → block < off_word
    → status ≢ code_of Pending → NotBelow gives seen notes block entry → EndsWait c cap block seen (notes ++ note block entry status ∷ [])

-- and one that shows that the power is off ends each
abbrev pub OffEndsWaits : Type 0
OffEndsWaits =
    (c : Configuration) (cap block : ℕ) (seen : List Entry) (notes : List Note) (entry : ℕ) → NotBelow gives seen notes off_word entry
    → EndsWait c cap block seen (notes ++ note off_word entry 1 ∷ [])

-- it stays over, whatever is seen and told later
abbrev pub WaitsLast : Type 0
WaitsLast =
    (c : Configuration) (cap block end : ℕ) (seen seen_new : List Entry) (notes more : List Note) → Waited c cap block end seen notes
    → StartsWith seen_new seen → Waited c cap block end seen_new (notes ++ more)

-- In a legal history a wait that is over by what its entries tell is over in the machine's state: the block isn't PENDING, or the power is off.
abbrev pub OverIsNotPending : Type 0
OverIsNotPending =
    (c : Configuration) (cap : ℕ) (marks : List (Instance × Mark)) (ops : ℕ) (more : List Entry) (block : ℕ) → IsLegal c cap (Found marks ops ∷ more) → block ≤ length c.blocks
    → block < off_word → IsTrue (is_over block (Found marks ops ∷ more))
    → IsTrue (not (is_pending (status_of (after c (Found marks ops ∷ more)) block)) || (after c (Found marks ops ∷ more)).off)
