-- A flash that had room to tell the operations of a run at its entry.
use Rattle.std.specs.Prelude.{◌≡◌, ◌<◌, ◌≤◌, ℕ, not, Bool, true, false, IsTrue, List, length, sum_by, None}
use Rattle.std.specs.List.{list_all}
use Rattle.block_machine.specs.nv_base.Count.{last_count}
use Rattle.block_machine.specs.State.{State, Job}
use Rattle.script_walks.specs.Words.{Step, StepKind, Turn, Drain}
use Rattle.promise_device.specs.FlashRun.{HasRoom, StartsSound}
use Rattle.promise_run.specs.Promise.{Promise, making_of, CutsKeep, CutsCount}
use Rattle.promise_run.specs.Run.{Run, Course, Played}
use Rattle.promise_run.specs.Turns.{KeepsTurns}

-- each image that a power cut before or within any operation may leave keeps to the history up to then, with its counts
pub record CutsLeave (r : Run) : Type 0 where
  pub keep : CutsKeep r
  pub count : CutsCount r

-- Such room suffices for it: nothing need be known of what the flash tells at the exit but that it tells its bytes.
abbrev pub RoomSuffices : Type 0
RoomSuffices = (r : Run) → r.beside ≡ None → Promise r → HasRoom r.flash → StartsSound (making_of r.configuration) r.flash → CutsLeave r

-- HOW MUCH A SCRIPT TAKES
abbrev pub turns_of : StepKind → ℕ
turns_of (Turn count) = count
turns_of kind = 0

abbrev pub is_drain : StepKind → Bool
is_drain Drain = true
is_drain kind = false

-- no step drains, and all have no more turns together
pub record AreFewTurns (n : ℕ) (steps : List Step) : Type 0 where
  pub none : IsTrue (list_all (λ x. not (is_drain x.kind)) steps)
  pub few : sum_by (λ x. turns_of x.kind) steps ≤ n

-- so of the steps that a run of `play` made
abbrev pub MadeFewTurns : ℕ → Course → Type 0
MadeFewTurns n (Played made pieces left) = AreFewTurns n made
MadeFewTurns n course = ⊥

-- such a run made no more operations
abbrev pub TurnsMakeFew : Type 0
TurnsMakeFew =
    (n : ℕ) (most : State → Job → ℕ) (r : Run) → r.beside ≡ None → Promise r → KeepsTurns most r r.course → MadeFewTurns n r.course → n < last_count
    → length r.flash.operations ≤ n
