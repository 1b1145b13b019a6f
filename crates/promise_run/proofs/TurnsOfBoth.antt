-- The turns of a run over two flashes, by the words of its device.
use Rattle.std.specs.Prelude.{◌≢◌, if◌then◌else◌, nat_lt}
use Rattle.std.proofs.lemmas.Bool.{and_parts, ltb-true}
use Rattle.std.proofs.Common.{◌≡◌, ◌≤◌, ◌<◌, ℕ, false, List, [], ◌∷◌, length, Option, Some, None, refl, sym, ap, ◌∙◌, subst, inl, inr, arith}
use Rattle.block_machine.specs.nv_base.Count.{last_count}
use Rattle.fls_model.specs.Told.{Change}
use Rattle.block_machine.specs.Words.{Entry}
use Rattle.block_machine.specs.State.{State, Job}
use Rattle.block_machine.specs.StartUp.{at_first}
use Rattle.block_machine.specs.Steps.{after, after_from}
use Rattle.script_walks.specs.Words.{Step}
use Rattle.script_walks.specs.Walk.{is_at_rest}
use Rattle.script_walks.specs.Looks.{Look}
use Rattle.memif.specs.Told.{DeviceTold}
use Rattle.memif.specs.Clock.{Clock, TakesKept}
use Rattle.promise_blocks.specs.OverDevice.{HasStarted}
use Rattle.promise_device.specs.FlashRun.{TellsBytes, StartsSound}
use Rattle.promise_run.specs.Beside.{Beside}
use Rattle.promise_run.specs.JobTurns.{write_pages}
use Rattle.promise_run.specs.InRoom.{MadeFewTurns}
use Rattle.promise_run.specs.Operations.{costs_of_both, has_free}
use Rattle.promise_run.specs.Promise.{making_first}
use Rattle.promise_run.specs.Run.{Run, Course, Played, Ran, End, FlashFault, EndsAtStart, EndsBefore, Follows, HasOrder, LeavesFlashes, RunsBy}
use Rattle.promise_run.specs.Turns.{Moment, Move, entry_list, moment_behind, is_found, state_begun, come_within, turns_beside, CountFailed, EachMoveSince}
use Rattle.promise_run.specs.DeviceTurns.{HadPages, IsPostedByFirst, IsSoOfBoth, MayGoOnAsTold, MovesAreOfBoth, worn_by}
use Rattle.promise_run.specs.TwoFlashes.{own_ops, IsWornOfBoth, PromiseOfBoth, of_both}
use Rattle.promise_run.specs.TurnsOfBoth.{AreMadeOfBoth, CallersOfBothAreServed, IsCalmOfBoth, KeepsTurnsOfBoth, RunsOfBothMakeFew, TurnsOfBothMakeFew, has_free_of_both, HadFreeOfBoth, HasFailedOfBoth, HasTraitOfBoth, MayGoOnOfBoth, PostsUrgentOfBoth, WereCountedByBoth}
use Rattle.promise_run.proofs.Callers.{ended, rests_by}
use Rattle.promise_run.proofs.Counted.{all_behind, behind_later, counted_by}
use Rattle.promise_run.proofs.InRoom.{all_ops, first_ops}
use Rattle.promise_run.proofs.Operations.{work_is_bounded}
use Rattle.promise_run.proofs.Paid.{since_too}
use Rattle.promise_run.proofs.Power.{is_on}
use Rattle.promise_run.proofs.TakenPages.{taken_by}
use Rattle.promise_run.proofs.WorkedMoves.{worked_by}

module _ (r : Run) (b : Beside) (now : DeviceTold) (clock : Clock) (is : IsSoOfBoth r b now clock) where
  goes_on : TellsBytes r.flash → StartsSound (making_first r.configuration) r.flash → (since k n : ℕ) → k ≤ now.ops → MayGoOnOfBoth r b since k n → MayGoOnAsTold clock (making_first r.configuration).reserve since k n
  goes_on told sound since k n few (small, inl free) = inl (is.spare told sound k n few small free)
  goes_on told sound since k n few (small, inr (seal, wanted)) = inr (
    record {
      counted = small;
      last = seal.last;
      is_last = seal.is_last;
      later = seal.later;
      such = let at = seal.is_last in is.was _ seal.last (omega (arith, at, few)) seal.such;
    },
    wanted,
  )

  -- what is posted soon by the words of the device is so by the bytes
  urgent_of : TellsBytes r.flash → StartsSound (making_first r.configuration) r.flash → (more since : ℕ) (before : Moment) (s : State) (ms : List Move) → (moment_behind before ms).ops ≤ now.ops
      → CountFailed clock.failed before ms → EachMoveSince r.configuration (IsPostedByFirst r.configuration now clock more) since s ms → EachMoveSince r.configuration (PostsUrgentOfBoth r b more) since s ms
  urgent_of told sound more since before s [] within counts all = tt
  urgent_of told sound more since before s (m ∷ ms) within counts all = (
    λ first id at may. all.0 (λ block accepted. sym (is.blocks block) ∙ first block accepted) id at
        (goes_on told sound since m.behind.ops (write_pages r.configuration s id) (let later = behind_later clock.failed m.behind ms counts.1 in omega (arith, later, within)) may),
    urgent_of told sound more (if is_found m.entry then m.behind.ops else since) m.behind (after_from r.configuration s (entry_list m.entry)) ms within counts.1 all.1,
  )

pub moves_are_of_both : MovesAreOfBoth
moves_are_of_both r b now clock course first moves is m made ends =
    let end = moment_behind first moves in
    let ops = m.ops in
    let c = r.configuration in
    let s = state_begun r in record {
      first = first;
      last = end;
      moves = moves;
      made = made;
      begins = m.begins;
      operations = m.ops ∙ is.ops;
      failed = counted_by clock.failed (HasFailedOfBoth r b) now.ops is.failed first moves (omega (arith, ops)) m.failed;
      counted = subst (λ (n : ℕ). WereCountedByBoth r b n) (sym m.faults) is.counted;
      ends = ends;
      serves = m.serves;
      posts = m.posts;
      rests = m.rests;
      work = record {
        left = m.work.left;
        few = m.work.few;
        efforts = m.work.efforts;
        are =
            worked_by (costs_of_both c) (HadPages clock) (HadFreeOfBoth r b) (worn_by now clock) (IsWornOfBoth r b) clock.failed now.ops is.free is.worn c first s (record { left = m.work.left; trying = None; tries = 0 }) moves m.work.efforts
            (omega (arith, ops)) m.failed m.work.are;
      };
      kept = taken_by c clock.failed (clock.was TakesKept) (HasTraitOfBoth r b TakesKept) now.ops (is.was TakesKept) first s moves (omega (arith, ops)) m.failed m.kept;
      urgent = λ told sound. urgent_of r b now clock is told sound (turns_beside (come_within course)) first.ops first s moves (omega (arith, ops)) m.failed m.urgent;
      paid = λ told sound tells begins. since_too c (worn_by now clock) (IsWornOfBoth r b) is.worn first.faults first s moves (m.paid (is.slots told sound tells begins));
    }

-- HOW IT ENDS
no_fault : (r : Run) (b : Beside) (steps : List Step) (looks : List Look) (h : List Entry) → r.course ≡ Ran steps looks → r.beside ≡ Some b → IsCalmOfBoth r b → HasOrder r h → r.end ≢ FlashFault
no_fault r b steps looks [] is two calm order = λ fault.
    elim (subst (λ (o : Option Beside). EndsBefore r.flash o r.end) two order.0) [
      | inl first ↦ calm.0.no_fault (subst (λ (x : End). EndsAtStart r.flash x) fault first)
      | inr second ↦ calm.1 (subst (λ (x : End). EndsAtStart b.flash x) fault second)
    ]
no_fault r b steps looks (e ∷ es) is two calm order = λ fault. subst (λ (x : End). RunsBy r.configuration r.most steps looks x (e ∷ es)) fault (subst (λ (x : Course). Follows r x (e ∷ es)) is order)

pub callers_of_both_are_served : CallersOfBothAreServed
callers_of_both_are_served r b steps looks is two order calm = record {
  ends = no_fault r b steps looks r.history is two calm order;
  rests = λ other. rests_by (is_at_rest (after r.configuration r.history)) (after r.configuration r.history).off (ended r steps looks r.history is other order) (is_on r.configuration at_first r.history calm.0.entries refl);
}

-- HOW MANY OPERATIONS
-- the moves of a run end at its last moment
ends_at : (course : Course) (r : Run) (b : Beside) (first last : Moment) (moves : List Move) → AreMadeOfBoth course r b first last moves → moment_behind first moves ≡ last
ends_at (Played made pieces left) r b first last moves are =
    subst (λ (ms : List Move). moment_behind first ms ≡ last) are.all (all_behind first are.steps.moves ∙ are.steps.behind)
ends_at (Ran steps looks) r b first last moves are = are.behind

pub runs_of_both_make_few : RunsOfBothMakeFew
runs_of_both_make_few most r b course keeps tells sound =
    let few = work_is_bounded (costs_of_both r.configuration) (HadFreeOfBoth r b) (IsWornOfBoth r b) r.configuration keeps.first (state_begun r) keeps.moves keeps.work (has_free_of_both r b)
    (λ k n free. let (small, fits) = and_parts (nat_lt k last_count) (has_free (making_first r.configuration) r.flash (own_ops r b false k) n) free in
    (ltb-true k last_count small, record { tells = tells; sound = sound; free = fits })) in
    let same = ap (λ (m : Moment). m.ops) (ends_at course r b keeps.first keeps.last keeps.moves keeps.made) in
    let all = keeps.operations in omega (arith, few, same, all)

-- without a start-up there are none
none_made : (r : Run) (b : Beside) → HasOrder r [] → r.beside ≡ Some b → of_both (λ f. length f.operations) r b ≡ 0
none_made r b order two =
    let left = subst (λ (o : Option Beside). LeavesFlashes r.configuration.geometry r.flash o) two order.2 in
    let first = ap (λ (xs : List Change). length xs) left.0.none in
    let second = ap (λ (xs : List Change). length xs) left.1.none in omega (arith, first, second)

few_made : (n : ℕ) (most : State → Job → ℕ) (r : Run) (b : Beside) (course : Course) (h : List Entry) → r.history ≡ h → PromiseOfBoth r b → KeepsTurnsOfBoth most r b course → MadeFewTurns n course → n < last_count
    → of_both (λ f. length f.operations) r b ≤ n
few_made n most r b (Played made pieces left) [] is p turns few small = let none = none_made r b (subst (HasOrder r) is p.order) p.beside in omega (arith, none)
few_made n most r b (Played made pieces left) (e ∷ es) is p turns few small =
    let first = first_ops r.history turns.first (subst HasStarted (sym is) tt) p.begins turns.begins in
    let steps = turns.made.steps in
    let all = all_ops turns.first made steps.moves few.none steps.are in
    omega (arith, first, all, ap (λ (x : Moment). x.ops) steps.behind, turns.operations, few.few, small)
few_made n most r b _ h is p turns few small = absurd few

pub turns_of_both_make_few : TurnsOfBothMakeFew
turns_of_both_make_few n most r b p turns few small = few_made n most r b r.course r.history refl p turns few small
