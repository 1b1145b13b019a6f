-- How many operations a run makes.
use Rattle.std.proofs.Common.{◌≡◌, List, ap, ◌∙◌, subst, arith}
use Rattle.promise_device.specs.Bridge.{IsWornOut}
use Rattle.promise_run.specs.Promise.{making_of}
use Rattle.promise_run.specs.Run.{Run, Course, Played, Ran}
use Rattle.promise_blocks.specs.Moves.{Moment, Move}
use Rattle.promise_run.specs.Operations.{HadFreePages, costs_of, has_free}
use Rattle.promise_run.specs.OperationLaws.{RunsMakeFew}
use Rattle.promise_run.specs.Turns.{AreMadeIn, moment_behind, state_begun}
use Rattle.promise_run.proofs.Counted.{all_behind}
use Rattle.promise_run.proofs.Operations.{work_is_bounded}

-- the moves of a run end at its last moment
ends_at : (course : Course) (r : Run) (first last : Moment) (moves : List Move) → AreMadeIn course r first last moves → moment_behind first moves ≡ last
ends_at (Played made pieces left) r first last moves are =
    subst (λ (ms : List Move). moment_behind first ms ≡ last) are.all (all_behind first are.steps.moves ∙ are.steps.behind)
ends_at (Ran steps looks) r first last moves are = are.behind

pub runs_make_few : RunsMakeFew
runs_make_few most r course keeps tells sound =
    let few = work_is_bounded (costs_of r.configuration) (HadFreePages (making_of r.configuration) r.flash) (IsWornOut (making_of r.configuration) r.flash) r.configuration keeps.first (state_begun r) keeps.moves keeps.work
    (has_free (making_of r.configuration) r.flash) (λ k n free. record { tells = tells; sound = sound; free = free }) in
    let same = ap (λ (m : Moment). m.ops) (ends_at course r keeps.first keeps.last keeps.moves keeps.made) in
    let all = keeps.operations in omega (arith, few, same, all)
