-- A law along the moves of one history.
use Rattle.std.specs.Prelude.{◌-◌, ◌&&◌, ◌||◌, ℕ, Bool, if◌then◌else◌, is_none, option_map, List, [], ◌∷◌, Option, None}
use Rattle.nvm_core.specs.block_machine.Words.{Configuration}
use Rattle.nvm_core.specs.block_machine.State.{State, Job}
use Rattle.nvm_core.specs.block_machine.Steps.{after_from}
use Rattle.nvm_core.specs.promise_blocks.Work.{has_risen}
use Rattle.promise_run.specs.Turns.{Moment, Move, entry_list, is_asked, is_found, is_picked, turns_in_all}

-- the turns in which a job in hand is posted: the most that it takes, those that are left of them, and those that are left in all
pub record Bound : Type 0 where
  pub most : ℕ
  pub left : ℕ
  pub all : ℕ

-- the most of them, and so many in all
abbrev pub whole : (most all : ℕ) → Bound
whole n all = record { most = n; left = n; all = all }

-- a turn more, where a fault is counted, and where none is
abbrev pub renewed : Bound → Bound
renewed b = whole b.most (b.all - 1)

abbrev pub one_less : Bound → Bound
one_less b = record { most = b.most; left = b.left - 1; all = b.all - 1 }

-- What is known where a move comes: the moment, the state, the states that a turn may have seen, the operations at the last start-up, the
-- faults before the turn of the last Pick, and where nothing came between the turns in which its job is posted. A turn saw this state; where
-- requests come within turns it may have seen the one behind the last turn, or behind a request since.
pub record Cursor : Type 0 where
  pub now : Moment
  pub state : State
  pub since : List State
  pub found : ℕ
  pub picked : ℕ
  pub left : Option Bound

-- what never changes: the configuration, the most turns of a job, in a state in which it is in hand, and whether requests come within a turn
pub record Frame : Type 0 where
  pub config : Configuration
  pub most : State → Job → ℕ
  pub within : Bool

-- of a job that is picked
abbrev pub bound_of : Frame → State → Job → Bound
bound_of f s j = whole (f.most s j) (turns_in_all f.config s (f.most s j))

-- A request is no turn; a Pick has its most; a start-up, an Off and the Post of the job drop it; a fault gives it its most anew.
abbrev pub left_behind : Frame → Cursor → Move → Option Bound
left_behind f k m =
    if is_asked m.entry then k.left else
    (if is_found m.entry then None else
    (if is_picked m.entry then option_map (bound_of f (after_from f.config k.state (entry_list m.entry))) (after_from f.config k.state (entry_list m.entry)).hand else
    (if (after_from f.config k.state (entry_list m.entry)).off || is_none (after_from f.config k.state (entry_list m.entry)).hand then None else
    (if has_risen k.now.faults m.behind.faults then option_map renewed k.left else option_map one_less k.left))))

abbrev pub next_by : Frame → Cursor → Move → Cursor
next_by f k m = record {
  now = m.behind;
  state = after_from f.config k.state (entry_list m.entry);
  since = after_from f.config k.state (entry_list m.entry) ∷ (if is_asked m.entry && f.within then k.since else []);
  found = if is_found m.entry then m.behind.ops else k.found;
  picked = if is_picked m.entry then k.now.faults else k.picked;
  left = left_behind f k m;
}

abbrev pub cursor_behind : Frame → Cursor → List Move → Cursor
cursor_behind f k [] = k
cursor_behind f k (m ∷ ms) = cursor_behind f (next_by f k m) ms

-- each move keeps it, where it comes
abbrev pub Along : Frame → (Cursor → Move → Type 0) → Cursor → List Move → Type 0
Along f law k [] = Unit {0}
Along f law k (m ∷ ms) = law k m × Along f law (next_by f k m) ms
