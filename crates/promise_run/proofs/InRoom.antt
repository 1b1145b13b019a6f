-- What a power cut leaves, over a flash that had room to tell all operations.
use Rattle.std.specs.Prelude.{slice_get, not, IsTrue, sum_by}
use Rattle.std.specs.List.{list_all}
use Rattle.std.proofs.Common.{◌≡◌, ◌⊎◌, inl, inr, ◌<◌, ◌≤◌, ◌+◌, ℕ, zero, suc, List, [], ◌∷◌, length, Option, Some, None, refl, sym, ap, ◌∙◌, subst, arith}
use Rattle.std.proofs.lemmas.Bool.{and_parts, false≢true}
use Rattle.std.proofs.lemmas.List.Sums.{sum_by-cons}
use Rattle.fls_model.specs.Told.{Change}
use Rattle.block_machine.specs.nv_base.Count.{last_count}
use Rattle.block_machine.specs.Words.{Entry, Found}
use Rattle.block_machine.specs.State.{State, Job}
use Rattle.script_walks.specs.Words.{Step, StepKind, AskStep, Store, Turn, Drain, Restart, Cut, CutSecond, Refuse, Await}
use Rattle.promise_blocks.specs.OverDevice.{HasStarted, BeginsBefore}
use Rattle.promise_device.specs.FlashRun.{FlashRun, TellsOperations, HasRoom, IsCutImage}
use Rattle.promise_run.specs.Beside.{Beside}
use Rattle.promise_run.specs.InRoom.{RoomSuffices, MadeFewTurns, TurnsMakeFew, turns_of, is_drain}
use Rattle.promise_run.specs.Promise.{Promise}
use Rattle.promise_run.specs.Run.{Run, Course, Played, HasOrder, LeavesFlashes}
use Rattle.promise_run.specs.Turns.{Moment, Move, moment_behind, moment_after, AreTurnsMade, AreMovesOf, AreMoves, BeginsAt, KeepsTurns}

no_get : (k : ℕ) (x : Change) → slice_get [] k ≡ Some x → ⊥
no_get zero x is = cc
no_get (suc k) x is = cc

no_cut : (f : FlashRun) (k : ℕ) (image : List ℕ) → f.operations ≡ [] → IsCutImage f k image → ⊥
no_cut f k image none (x, at, leaves) = (let here : slice_get [] k ≡ Some x = ap (λ (l : List Change). slice_get l k) (sym none) ∙ at in no_get k x here)

-- without a start-up there are none
none_made : (r : Run) → HasOrder r [] → r.beside ≡ None → r.flash.operations ≡ []
none_made r order alone = (subst (λ (b : Option Beside). LeavesFlashes r.configuration.geometry r.flash b) alone order.2).none

told_by : (r : Run) (h : List Entry) → r.history ≡ h → r.beside ≡ None → Promise r → HasRoom r.flash → (r.flash.operations ≡ []) ⊎ TellsOperations r.flash
told_by r [] is alone p room = inl (none_made r (subst (HasOrder r) is p.order) alone)
told_by r (e ∷ es) is alone p room =
    let started : HasStarted r.history = subst HasStarted (sym is) tt in
    inr ((p.operations started).told room)

pub room_suffices : RoomSuffices
room_suffices r alone p room sound = elim (told_by r r.history refl alone p room) [
  | inl none ↦ record {
    keep = λ k image small cut. absurd (no_cut r.flash k image none cut);
    count = λ k ops image small cut last. absurd (no_cut r.flash k image none cut);
  }
  | inr told ↦ record { keep = p.power_cut told sound; count = p.counts told sound }
]

-- TURNS
turns_ops : (before : Moment) (ms : List Move) → AreTurnsMade before ms → (moment_behind before ms).ops ≤ before.ops + length ms
turns_ops before [] made = omega arith
turns_ops before (m ∷ ms) (one, more) = omega (arith, one.one, turns_ops m.behind ms more)

no_ops : (before : Moment) (ms : List Move) → ms ≡ [] → (moment_behind before ms).ops ≤ before.ops + 0
no_ops before ms none = omega (arith, ap (λ (xs : List Move). (moment_behind before xs).ops) none)

step_ops : (kind : StepKind) (before : Moment) (ms : List Move) → IsTrue (not (is_drain kind)) → AreMovesOf kind before ms → (moment_behind before ms).ops ≤ before.ops + turns_of kind
step_ops (Turn count) before ms is moves = omega (arith, moves.0, turns_ops before ms moves.1)
step_ops Drain before ms is moves = absurd (false≢true is)
step_ops (AskStep r) before (m ∷ []) is moves = omega (arith, ap (λ (x : Moment). x.ops) moves)
step_ops (AskStep r) before [] is moves = absurd moves
step_ops (AskStep r) before (m ∷ x ∷ ms) is moves = absurd moves
step_ops Restart before (m ∷ []) is moves = omega (arith, moves.1)
step_ops Restart before [] is moves = absurd moves
step_ops Restart before (m ∷ x ∷ ms) is moves = absurd moves
step_ops (Store block content) before ms is moves = no_ops before ms moves
step_ops (Cut nth keep) before ms is moves = no_ops before ms moves
step_ops (CutSecond nth keep) before ms is moves = no_ops before ms moves
step_ops (Refuse block count) before ms is moves = no_ops before ms moves
step_ops (Await block) before ms is moves = no_ops before ms moves

pub all_ops : (before : Moment) (made : List Step) (mss : List (List Move)) → IsTrue (list_all (λ (x : Step). not (is_drain x.kind)) made) → AreMoves before made mss
    → (moment_after before mss).ops ≤ before.ops + sum_by (λ (x : Step). turns_of x.kind) made
all_ops before [] [] none are = omega arith
all_ops before [] (ms ∷ mss) none are = absurd are
all_ops before (x ∷ made) [] none are = absurd are
all_ops before (x ∷ made) (ms ∷ mss) none (moves, more) =
    let parts = and_parts (not (is_drain x.kind)) (list_all (λ (y : Step). not (is_drain y.kind)) made) none in
    omega (arith, sum_by-cons (λ (y : Step). turns_of y.kind) x made, step_ops x.kind before ms parts.0 moves, all_ops (moment_behind before ms) made mss parts.1 more)

pub first_ops : (h : List Entry) (first : Moment) → HasStarted h → BeginsBefore h → BeginsAt first h → first.ops ≡ 0
first_ops [] first started before at = absurd started
first_ops (Found marks ops ∷ es) first started before at = (let is : ops ≡ first.ops = cc at in sym is ∙ before)
first_ops (_ ∷ es) first started before at = absurd before

few_made : (n : ℕ) (most : State → Job → ℕ) (r : Run) (course : Course) (h : List Entry) → r.history ≡ h → r.beside ≡ None → Promise r → KeepsTurns most r course → MadeFewTurns n course → n < last_count → length r.flash.operations ≤ n
few_made n most r (Played made pieces left) [] is alone p turns few small =
    let none : length r.flash.operations ≡ 0 = ap length (none_made r (subst (HasOrder r) is p.order) alone) in
    omega (arith, none)
few_made n most r (Played made pieces left) (e ∷ es) is alone p turns few small =
    let first = first_ops r.history turns.first (subst HasStarted (sym is) tt) p.begins turns.begins in
    let steps = turns.made.steps in
    let all = all_ops turns.first made steps.moves few.none steps.are in
    omega (arith, first, all, ap (λ (x : Moment). x.ops) steps.behind, turns.operations, few.few, small)
few_made n most r _ h is alone p turns few small = absurd few

pub turns_make_few : TurnsMakeFew
turns_make_few n most r alone p turns few small = few_made n most r r.course r.history refl alone p turns few small
