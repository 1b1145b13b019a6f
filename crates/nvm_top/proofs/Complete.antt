-- Where nothing fails a run ends well.
use Rattle.std.proofs.Common.{◌≡◌, List, [], ◌∷◌, Option, None, refl, subst}
use Rattle.nvm_flash.specs.nv_base.Count.{Rose}
use Rattle.nvm_flash.specs.block_config.Config.{Configuration}
use Rattle.nvm_flash.specs.fls_model.Told.{Told, Change}
use Rattle.script_player.specs.script_walks.Words.{Step}
use Rattle.nvm_flash.specs.block_machine.Words.{Entry}
use Rattle.nvm_flash.specs.block_machine.State.{State}
use Rattle.nvm_flash.specs.block_machine.Steps.{after}
use Rattle.nvm_flash.specs.promise_run.Beside.{Beside}
use Rattle.nvm_flash.specs.promise_run.Run.{Run, Course, Played, Ran, End, FlashFault, HasOrder, Follows, LeavesFor, RunsBy, EndsAtStart, EndsBefore, FaultWasCounted}
use Rattle.nvm_flash.specs.promise_run.Completeness.{Completeness, IsCalm, PostWell}
use Rattle.nvm_flash.specs.promise_run.Promise.{making_of}
use Rattle.nvm_flash.specs.promise_device.FlashRun.{TellsBytes, StartsSound}
use Rattle.script_player.specs.Told.{StackTold}
use Rattle.nvm_top.specs.Stack.{run_of}

-- A FLASH FAULT WAS COUNTED

by_steps : (r : Run) (s : State) (left : List Step) → r.beside ≡ None → LeavesFor r s FlashFault left → Rose r.flash.entry.faults r.flash.exit.faults
by_steps r s [] one is = absurd is
by_steps r s (x ∷ xs) one is = subst (λ (b : Option Beside). FaultWasCounted r.flash b) one is.1

by_course : (r : Run) (course : Course) (h : List Entry) → r.beside ≡ None → r.end ≡ FlashFault → Follows r course h → Rose r.flash.entry.faults r.flash.exit.faults
by_course r (Played made pieces left) h one is follows =
    by_steps r (after r.configuration h) left one (subst (λ (e : End). LeavesFor r (after r.configuration h) e left) is follows.2)
by_course r (Ran steps looks) h one is follows = absurd (subst (λ (e : End). RunsBy r.configuration r.most steps looks e h) is follows)

by_order : (r : Run) (h : List Entry) → r.beside ≡ None → r.end ≡ FlashFault → HasOrder r h → Rose r.flash.entry.faults r.flash.exit.faults
by_order r [] one is order = subst (λ (e : End). EndsAtStart r.flash e) is (subst (λ (b : Option Beside). EndsBefore r.flash b r.end) one order.0)
by_order r (e ∷ es) one is order = by_course r r.course (e ∷ es) one is order

-- RUNS

-- one without a start-up, and one behind it
pub early_complete : (c : Configuration) (steps : List Step) (entry exit : Told) (end : End) → HasOrder (run_of c [] entry exit [] [] (Played [] [] steps) end) []
    → Completeness (run_of c [] entry exit [] [] (Played [] [] steps) end) (Played [] [] steps)
early_complete c steps entry exit end order calm = record {
  ends = λ is. calm.no_fault (by_order (run_of c [] entry exit [] [] (Played [] [] steps) end) [] refl is order);
  results = λ alone told sound. tt;
}

pub walked_complete : (made left : List Step) (pieces : List (List Entry)) (end : End) (t : StackTold) (entry exit : Told) (operations : List Change)
    → HasOrder (run_of t.configuration t.entries entry exit operations t.causes.came (Played made pieces left) end) t.entries
    → (IsCalm (run_of t.configuration t.entries entry exit operations t.causes.came (Played made pieces left) end) → TellsBytes (record { entry = entry; exit = exit; operations = operations })
    → StartsSound (making_of t.configuration) (record { entry = entry; exit = exit; operations = operations }) → PostWell (run_of t.configuration t.entries entry exit operations t.causes.came (Played made pieces left) end))
    → Completeness (run_of t.configuration t.entries entry exit operations t.causes.came (Played made pieces left) end) (Played made pieces left)
walked_complete made left pieces end t entry exit operations order results calm = record {
  ends = λ is. calm.no_fault (by_order (run_of t.configuration t.entries entry exit operations t.causes.came (Played made pieces left) end) t.entries refl is order);
  results = λ alone told sound. results calm told sound;
}
