-- The turns of a run over two flashes: what is said of those over one, of both together, and of each flash by its own operations.
use Rattle.std.specs.Prelude.{◌≡◌, ◌≢◌, ◌⊎◌, ◌<◌, ◌≤◌, ◌+◌, ◌&&◌, nat_lt, ℕ, Bool, true, false, List, [], ◌∷◌, length, map, min, Some, None}
use Rattle.block_machine.specs.nv_base.Count.{last_count, Rose, WereCounted}
use Rattle.memif.specs.Told.{IfElse}
use Rattle.memif.specs.Clock.{Trait, Seals, TakesKept}
use Rattle.block_machine.specs.Words.{Entry, Configuration}
use Rattle.block_machine.specs.State.{State, Job}
use Rattle.block_machine.specs.StartUp.{at_first}
use Rattle.script_walks.specs.Looks.{Look}
use Rattle.script_walks.specs.Words.{Step}
use Rattle.promise_blocks.specs.Work.{operations_at_most}
use Rattle.promise_device.specs.FlashRun.{TellsBytes, StartsSound, HasFailed}
use Rattle.promise_device.specs.Reading.{BeginsSound}
use Rattle.promise_run.specs.Beside.{Beside, is_beside}
use Rattle.promise_run.specs.Completeness.{IsCalm, EachEntry, PostsWell, ServesCallers}
use Rattle.promise_run.specs.JobTurns.{write_pages}
use Rattle.promise_run.specs.InRoom.{MadeFewTurns}
use Rattle.promise_run.specs.Operations.{HadFreePages, HasWork, costs_of_both, has_free, left_behind}
use Rattle.promise_run.specs.Promise.{making_first}
use Rattle.promise_run.specs.Run.{Run, Course, Played, Ran, End, FlashFault, HasOrder}
use Rattle.promise_run.specs.Turns.{Moment, Move, all_moves, state_begun, come_within, turns_beside, urgent_block, ArePaidSince, BeginWhatIsDue, BeginsAt, ClosesAtDrains, CountFailed, CutsCome, EachMove, EachMoveSince, FindWorkAtDrains, HadFree, HasMoves, HasTrait, MakesRequests, PostsPicked, PostsUrgent, StaysAtRest, TakeKept}
use Rattle.promise_run.specs.TwoFlashes.{IsWornOfBoth, own_ops, PromiseOfBoth, exchanged, of_both}

-- WHOSE OPERATION

-- operation k failed, in its own flash
abbrev pub HasFailedOfBoth : Run → Beside → ℕ → Type 0
HasFailedOfBoth r b k = IfElse (is_beside r.configuration r.history b k) (HasFailed b.flash (own_ops r b true k)) (HasFailed r.flash (own_ops r b false k))

-- it is one of the first flash, and has this trait there: the second one's have none
abbrev pub HasTraitOfBoth : Run → Beside → Trait → ℕ → Type 0
HasTraitOfBoth r b t k = (is_beside r.configuration r.history b k ≡ false) × HasTrait (making_first r.configuration) r.flash t (own_ops r b false k)

-- FAULTS

-- so many faults were counted, each by one of the flashes; a count at its end tells none
abbrev pub WereCountedByBoth : Run → Beside → ℕ → Type 0
WereCountedByBoth r b n =
    (own other : ℕ) × (min n last_count ≤ own + other) × WereCounted own r.flash.entry.faults r.flash.exit.faults × WereCounted other b.flash.entry.faults b.flash.exit.faults

-- a start-up that failed counted one more than the moves tell
abbrev pub BothEndBy : Run → Beside → Moment → End → Type 0
BothEndBy r b last FlashFault = WereCountedByBoth r b (last.faults + 1)
BothEndBy r b last end = Unit {0}

-- nothing failed, nor did the second flash count a fault
abbrev pub IsCalmOfBoth : Run → Beside → Type 0
IsCalmOfBoth r b = IsCalm r × ¬ Rose b.flash.entry.faults b.flash.exit.faults

-- FREE PAGES

-- the first flash had so many pages free
abbrev pub HadFreeOfBoth : Run → Beside → (operations pages : ℕ) → Type 0
HadFreeOfBoth r b k pages = (k < last_count) × HadFreePages (making_first r.configuration) r.flash (own_ops r b false k) pages

-- URGENT WRITES

-- the last operation of both was the first flash's, made since the last start-up, and left a switch at its seal
pub record IsAtSealOfBoth (r : Run) (b : Beside) (since operations : ℕ) : Type 0 where
  pub last : ℕ
  pub is_last : operations ≡ last + 1
  pub later : since ≤ last
  pub such : HasTraitOfBoth r b Seals last

-- an urgent write to the first flash may go on: as over that flash alone, by its own operations
abbrev pub MayGoOnOfBoth : Run → Beside → (since operations pages : ℕ) → Type 0
MayGoOnOfBoth r b since operations pages =
    (operations < last_count) × (HadFree (making_first r.configuration) r.flash (own_ops r b false operations) pages ⊎ (IsAtSealOfBoth r b since operations × (pages ≤ (making_first r.configuration).reserve)))

-- one of a block of the first device is posted soon; of the second device it isn't said
abbrev pub PostsUrgentOfBoth : Run → Beside → (more since : ℕ) → State → Move → List Move → Type 0
PostsUrgentOfBoth r b more since s m ms =
    ((id : ℕ) → urgent_block r.configuration s m.entry ≡ Some id → b.blocks id ≡ false)
    → PostsUrgent r.configuration more (write_pages r.configuration) (MayGoOnOfBoth r b) (λ id one left. Unit {0}) since s m ms

-- PLANNED CUTS

-- a moment, and moves, as one of the flashes has them, by a count of its own operations among the first ones of both
abbrev pub own_moment : (ℕ → ℕ) → Moment → Moment
own_moment count m = record m { ops = count m.ops }

abbrev pub own_move : (ℕ → ℕ) → Move → Move
own_move count m = record m { behind = own_moment count m.behind }

abbrev pub exchanged_step : Step → Step
exchanged_step x = record x { kind = exchanged x.kind }

-- no cut that a step planned for one of the flashes is missed, by that one's own operations; each fault of either may put it off by one
abbrev pub CutsOfBothCome : Configuration → (count : Bool → ℕ → ℕ) → Moment → State → List Step → List (List Move) → Type 0
CutsOfBothCome c count now s steps moves =
    CutsCome c None (own_moment (count false) now) s steps (map (map (own_move (count false))) moves)
    × CutsCome c None (own_moment (count true) now) s (map exchanged_step steps) (map (map (own_move (count true))) moves)

-- HOW MOVES ARE MADE

-- in `play`: as over one flash, where nothing fails of either
pub record MakesStepsOfBoth (r : Run) (b : Beside) (made : List Step) (pieces : List (List Entry)) (first last : Moment) (moves : List Move) : Type 0 where
  pub steps : HasMoves made pieces first last
  pub all : all_moves steps.moves ≡ moves
  pub drains : IsCalmOfBoth r b → ClosesAtDrains first made steps.moves
  pub finds : FindWorkAtDrains r.configuration first (state_begun r) made steps.moves
  pub cuts : CutsOfBothCome r.configuration (own_ops r b) first (state_begun r) made steps.moves

abbrev pub AreMadeOfBoth : Course → Run → Beside → (first last : Moment) → List Move → Type 0
AreMadeOfBoth (Played made pieces left) r b first last moves = MakesStepsOfBoth r b made pieces first last moves
AreMadeOfBoth (Ran steps looks) r b first last moves = MakesRequests r first last moves

-- A RUN

-- The fields of `KeepsTurns`: its moves make all operations of both flashes, and both counted the faults that they tell.
pub record KeepsTurnsOfBoth (most : State → Job → ℕ) (r : Run) (b : Beside) (course : Course) : Type 0 where
  pub first : Moment
  pub last : Moment
  pub moves : List Move
  pub made : AreMadeOfBoth course r b first last moves
  pub begins : BeginsAt first r.history
  pub operations : last.ops ≡ min (of_both (λ f. length f.operations) r b) last_count
  pub failed : CountFailed (HasFailedOfBoth r b) first moves
  pub counted : WereCountedByBoth r b last.faults
  pub ends : BothEndBy r b last r.end
  pub serves : BeginWhatIsDue (come_within course) r.configuration (state_begun r ∷ []) (state_begun r) moves
  pub posts : EachMove r.configuration (PostsPicked r.configuration most) (state_begun r) moves
  pub rests : StaysAtRest r.configuration first (state_begun r) moves
  pub work : HasWork (costs_of_both r.configuration) (HadFreeOfBoth r b) (IsWornOfBoth r b) r.configuration first (state_begun r) moves
  pub kept : TakeKept r.configuration (HasTraitOfBoth r b TakesKept) first (state_begun r) moves
  pub urgent : TellsBytes r.flash → StartsSound (making_first r.configuration) r.flash
      → EachMoveSince r.configuration (PostsUrgentOfBoth r b (turns_beside (come_within course))) first.ops (state_begun r) moves
  pub paid : TellsBytes r.flash → StartsSound (making_first r.configuration) r.flash → TellsBytes b.flash → BeginsSound b.reading b.flash
      → ArePaidSince r.configuration (IsWornOfBoth r b) first.faults first (state_begun r) moves

-- HOW IT ENDS

-- each result is that of the machine where no operation failed, but where the flash of a number was worn out for it
abbrev pub PostWellOfBoth : Run → Beside → Type 0
PostWellOfBoth r b = EachEntry r.configuration (PostsWell r.configuration (IsWornOfBoth r b)) at_first r.history

-- as over one flash, where nothing fails of either
pub record EndsWellOfBoth (r : Run) (b : Beside) : Type 0 where
  pub ends : r.end ≢ FlashFault
  pub results : TellsBytes r.flash → StartsSound (making_first r.configuration) r.flash → TellsBytes b.flash → BeginsSound b.reading b.flash → PostWellOfBoth r b

abbrev pub CompletenessOfBoth : Run → Beside → Course → Type 0
CompletenessOfBoth r b (Played made pieces left) = IsCalmOfBoth r b → EndsWellOfBoth r b
CompletenessOfBoth r b (Ran steps looks) = IsCalmOfBoth r b → ServesCallers r

-- a run that follows its callers' programs has it
abbrev pub CallersOfBothAreServed : Type 0
CallersOfBothAreServed =
    (r : Run) (b : Beside) (steps : List Step) (looks : List Look) → r.course ≡ Ran steps looks → r.beside ≡ Some b → HasOrder r r.history → CompletenessOfBoth r b (Ran steps looks)

-- HOW MANY OPERATIONS

-- so many pages of the first flash were free, computed
abbrev pub has_free_of_both : Run → Beside → (operations pages : ℕ) → Bool
has_free_of_both r b k pages = nat_lt k last_count && has_free (making_first r.configuration) r.flash (own_ops r b false k) pages

-- over flashes that tell their bytes, from sound images on, those of both are at most what the tries and the faults of a run add
abbrev pub RunsOfBothMakeFew : Type 0
RunsOfBothMakeFew =
    (most : State → Job → ℕ) (r : Run) (b : Beside) (course : Course) (keeps : KeepsTurnsOfBoth most r b course) → TellsBytes r.flash → StartsSound (making_first r.configuration) r.flash
    → min (of_both (λ f. length f.operations) r b) last_count ≤ keeps.first.ops + left_behind (costs_of_both r.configuration) keeps.first
    + operations_at_most (costs_of_both r.configuration) (has_free_of_both r b) r.configuration keeps.first (state_begun r) keeps.moves keeps.work.efforts

-- and a run of `play` whose steps have so many turns, and no drain, made no more
abbrev pub TurnsOfBothMakeFew : Type 0
TurnsOfBothMakeFew =
    (n : ℕ) (most : State → Job → ℕ) (r : Run) (b : Beside) → PromiseOfBoth r b → KeepsTurnsOfBoth most r b r.course → MadeFewTurns n r.course → n < last_count
    → of_both (λ f. length f.operations) r b ≤ n
