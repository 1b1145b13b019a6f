-- The calls of a unit, as steps.
use Rattle.std.specs.Prelude.{◌≡◌, ℕ, List, [], ◌∷◌, ◌++◌, map, take, Option, Some}
use Rattle.nvm_flash.specs.block_machine.Words.{Entry, Ask, Found}
use Rattle.nvm_flash.specs.promise_run.JobTurns.{job_turns}
use Rattle.nvm_flash.specs.promise_run.Run.{Run, Played}
use Rattle.nvm_flash.specs.promise_run.Turns.{Move, entries_of, KeepsTurns}
use Rattle.nvm_moves.specs.script_walks.Words.{Step, StepKind, AskStep, Turn, Restart}

-- what a call was, by the entry that it added: a request, a start-up, or else a turn
abbrev pub kind_of : Option Entry → StepKind
kind_of (Some (Ask caller r reply)) = AskStep r
kind_of (Some (Found marks ops)) = Restart
kind_of e = Turn 1

abbrev pub caller_of : Option Entry → ℕ
caller_of (Some (Ask caller r reply)) = caller
caller_of e = 0

abbrev pub step_of : Move → Step
step_of m = record { line = 0; caller = caller_of m.entry; kind = kind_of m.entry }

-- each with one move
abbrev pub one_each : List Move → List (List Move)
one_each moves = map (λ m. m ∷ []) moves

-- There are moves, each one of a step, which add the history behind its first start-up, and they keep what the steps of a script keep.
pub record KeepsCalls (r : Run) : Type 0 where
  pub moves : List Move
  pub tell : r.history ≡ take 1 r.history ++ entries_of moves
  pub turns : KeepsTurns (job_turns r.configuration) r (Played (map step_of moves) (map entries_of (one_each moves)) [])
