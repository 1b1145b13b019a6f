-- What a stack keeps from step to step.
use Rattle.std.specs.Prelude.{◌≡◌, ◌+◌, ◌≤◌, ℕ, zero, suc, Bool, not, ◌||◌, true, false, IsTrue, List, [], ◌∷◌, length}
use Rattle.std.specs.List.{list_all}
use Rattle.uds_gateway.specs.nv_base.Count.{Rose}
use Rattle.uds_gateway.specs.block_machine.Words.{Entry, Configuration}
use Rattle.uds_gateway.specs.block_machine.State.{State}
use Rattle.uds_gateway.specs.block_machine.Steps.{after_from}
use Rattle.uds_gateway.specs.script_walks.Words.{Step}
use Rattle.uds_gateway.specs.script_walks.Walk.{AreTurns, IsDrain, is_at_rest}
use Rattle.uds_gateway.specs.script_walks.Stores.{AreNewest, JobsTookStored}
use Rattle.uds_gateway.specs.script_walks.StoreLaws.{KeepsStored}
use Rattle.uds_gateway.specs.promise_run.Completeness.{is_calm_entry}
use Rattle.uds_gateway.specs.promise_run.Turns.{Moment, Move, entry_list, entries_of, moment_behind, AreTurnsMade, FindsWork}
use Rattle.uds_gateway.specs.nvm_moves.Seen.{Seen}
use Rattle.uds_gateway.specs.nvm_moves.Moved.{MovesBy}
use Rattle.script_player.specs.Told.{StackTold, state_of, moment_of, IsGrown}
use Rattle.script_player.specs.Calls.{AreExplained}
use Rattle.script_player.specs.Coming.{CarriesCuts}

-- after these steps its stores are theirs, and its jobs took none but these
pub record IsKept (before : List Step) (t : StackTold) : Type 0 where
  pub ready : t.ready ≡ true
  pub places : length t.stores ≡ length t.configuration.blocks + 1
  pub stores : AreNewest t.configuration before t.stores
  pub jobs : JobsTookStored t.configuration before (state_of t)

-- from one to the other no fault was counted, the power stayed on, and no copy was refused or stale
pub record StaysCalm (old new : StackTold) : Type 0 where
  pub no_fault : ¬ Rose old.faults new.faults
  pub entries : IsTrue (list_all is_calm_entry new.entries)

-- Turns added these entries, which are explained, and it is kept.
pub record HasTurned (before : List Step) (old new : StackTold) (es : List Entry) : Type 0 where
  pub grows : IsGrown es old new
  pub counted : old.faults ≤ new.faults
  pub explained : AreExplained old.causes.plan es old new
  pub keeps : KeepsStored old.configuration before (state_of old) es

-- these moves are turns from one to the other, which added these entries
pub record AreMade (p q : Seen) (es : List Entry) (moves : List Move) (old new : StackTold) : Type 0 where
  pub turns : AreTurnsMade (moment_of old) moves
  pub tell : es ≡ entries_of moves
  pub behind : moment_behind (moment_of old) moves ≡ moment_of new
  pub moved : MovesBy false moves p q
  pub cuts : CarriesCuts moves old new

-- so many turns
abbrev pub MakesTurns : Seen → Seen → ℕ → List Step → StackTold → StackTold → Type 0
MakesTurns p q zero before old new = (new ≡ old) × MovesBy false [] p q
MakesTurns p q (suc n) before old new = (es : List Entry) × HasTurned before old new es × AreTurns (state_of old) (suc n) es
    × ((moves : List Move) × (length moves ≡ suc n) × AreMade p q es moves old new)

-- something is pending, or open at the device
abbrev pub has_work : State → Moment → Bool
has_work s m = not (is_at_rest s) || m.busy

-- so each of these moves finds it
abbrev pub AllFindWork : Configuration → Moment → State → List Move → Type 0
AllFindWork c before s [] = Unit {0}
AllFindWork c before s (m ∷ ms) = IsTrue (has_work s before) × AllFindWork c m.behind (after_from c s (entry_list m.entry)) ms

-- turns until nothing is pending, or the power is off; no more of them than there was work, and one; all but the last one find work
abbrev pub Drains : Seen → Seen → List Step → StackTold → StackTold → Type 0
Drains p q before old new = (es : List Entry) × HasTurned before old new es × IsDrain old.configuration (state_of old) es
    × ((moves : List Move) × (length moves ≤ old.work + 1) × FindsWork old.configuration (moment_of old) (state_of old) moves × AreMade p q es moves old new)
