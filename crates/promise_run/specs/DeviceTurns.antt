-- The turns of a run, by the words of its device.
use Rattle.std.specs.Prelude.{◌≡◌, ◌⊎◌, ◌<◌, ◌≤◌, ◌+◌, ◌++◌, ℕ, Bool, true, false, List, [], ◌∷◌, length, min, take, is_some, Some}
use Rattle.block_machine.specs.nv_base.Count.{last_count}
use Rattle.memif.specs.Told.{DeviceTold, Second, faults_of}
use Rattle.memif.specs.Clock.{Clock, Trait, Seals, TakesKept}
use Rattle.block_machine.specs.Words.{Entry, Configuration}
use Rattle.block_machine.specs.State.{State, Job}
use Rattle.block_machine.specs.Steps.{after}
use Rattle.promise_blocks.specs.Payment.{Worn}
use Rattle.promise_blocks.specs.OverDevice.{is_of}
use Rattle.promise_blocks.specs.Work.{Costs}
use Rattle.promise_device.specs.FlashRun.{TellsBytes, StartsSound}
use Rattle.promise_device.specs.Reading.{BeginsSound}
use Rattle.promise_run.specs.Beside.{Beside}
use Rattle.promise_run.specs.Run.{Run, Course}
use Rattle.promise_run.specs.TwoFlashes.{IsWornOfBoth, own_ops, of_both}
use Rattle.promise_run.specs.TurnsOfBoth.{AreMadeOfBoth, BothEndBy, HadFreeOfBoth, HasFailedOfBoth, HasTraitOfBoth, KeepsTurnsOfBoth, WereCountedByBoth}
use Rattle.promise_run.specs.JobTurns.{job_turns, job_turns_of_both, write_pages}
use Rattle.promise_run.specs.Operations.{HasWork, costs_of, costs_of_both}
use Rattle.promise_run.specs.Promise.{making_first, making_of}
use Rattle.promise_run.specs.Turns.{Moment, Move, entries_of, moment_behind, AreMovesMade, ArePaidSince, BeginWhatIsDue, BeginsAt, CountFailed, EachMove, EachMoveSince, PostsPicked, PostsUrgent, StaysAtRest, TakeKept, HadFree, come_within, turns_beside, urgent_block}

-- once so many operations were made so many pages were free
abbrev pub HadPages : Clock → (operations pages : ℕ) → Type 0
HadPages clock operations pages = (free : ℕ) × clock.spare operations free × (pages ≤ free)

-- of those that are kept
abbrev pub HadSpare : Clock → (reserve operations pages : ℕ) → Type 0
HadSpare clock reserve operations pages = (free : ℕ) × clock.spare operations free × (pages ≤ min reserve free)

-- the last of so many operations, none of the first `since`, left a switch at its seal
pub record WasAtSeal (clock : Clock) (since operations : ℕ) : Type 0 where
  pub counted : operations < last_count
  pub last : ℕ
  pub is_last : operations ≡ last + 1
  pub later : since ≤ last
  pub such : clock.was Seals last

-- an urgent write may go on
abbrev pub MayGoOnAsTold : Clock → (reserve since operations pages : ℕ) → Type 0
MayGoOnAsTold clock reserve since operations pages = HadSpare clock reserve operations pages ⊎ (WasAtSeal clock since operations × (pages ≤ reserve))

-- where a device was worn out, by the operations that were made so far
abbrev pub worn_by : DeviceTold → Clock → Worn
worn_by d clock = λ k n urgent. (k ≤ d.ops) × clock.worn k n urgent

-- a move that accepts an urgent write
abbrev pub Urgent : Type 1
Urgent = (since : ℕ) → State → Move → List Move → Type 0

-- A history behind its first start-up has these moves, from this moment on, over a device that makes so much of its work at most.
pub record HasMovesBy (costs : Costs) (most : State → Job → ℕ) (urgently : Urgent) (within : Bool) (c : Configuration) (h : List Entry) (first : Moment) (moves : List Move) (now : DeviceTold) (clock : Clock) : Type 0 where
  pub tell : h ≡ take 1 h ++ entries_of moves
  pub are : AreMovesMade first moves
  pub faults : (moment_behind first moves).faults ≡ faults_of now
  pub ops : (moment_behind first moves).ops ≡ now.ops
  pub begins : BeginsAt first h
  pub failed : CountFailed clock.failed first moves
  pub serves : BeginWhatIsDue within c (after c (take 1 h) ∷ []) (after c (take 1 h)) moves
  pub posts : EachMove c (PostsPicked c most) (after c (take 1 h)) moves
  pub rests : StaysAtRest c first (after c (take 1 h)) moves
  pub work : HasWork costs (HadPages clock) (worn_by now clock) c first (after c (take 1 h)) moves
  pub kept : TakeKept c (clock.was TakesKept) first (after c (take 1 h)) moves
  pub urgent : EachMoveSince c urgently first.ops (after c (take 1 h)) moves
  pub paid : is_some now.slots ≡ true → ArePaidSince c (worn_by now clock) first.faults first (after c (take 1 h)) moves

-- over a device of one part
abbrev pub IsPostedAsTold : Configuration → Clock → (more : ℕ) → Urgent
IsPostedAsTold c clock more since s m ms = PostsUrgent c more (write_pages c) (MayGoOnAsTold clock (making_of c).reserve) (λ id one left. Unit {0}) since s m ms

abbrev pub HasMovesTo : (within : Bool) → Configuration → List Entry → (first : Moment) → List Move → DeviceTold → Clock → Type 0
HasMovesTo within c h first moves now clock = HasMovesBy (costs_of c) (job_turns c) (IsPostedAsTold c clock (turns_beside within)) within c h first moves now clock

-- over one of two parts: of a block of the first one it is posted soon
abbrev pub IsPostedByFirst : Configuration → DeviceTold → Clock → (more : ℕ) → Urgent
IsPostedByFirst c now clock more since s m ms =
    ((id : ℕ) → urgent_block c s m.entry ≡ Some id → is_of Second now.fixed id ≡ false) → IsPostedAsTold c clock more since s m ms

abbrev pub HasMovesToOfBoth : (within : Bool) → Configuration → List Entry → (first : Moment) → List Move → DeviceTold → Clock → Type 0
HasMovesToOfBoth within c h first moves now clock =
    HasMovesBy (costs_of_both c) (job_turns_of_both c) (IsPostedByFirst c now clock (turns_beside within)) within c h first moves now clock

-- What such a device and its clock tell is so of both flashes, of each operation by its own flash.
pub record IsSoOfBoth (r : Run) (b : Beside) (now : DeviceTold) (clock : Clock) : Type 0 where
  pub ops : now.ops ≡ min (of_both (λ f. length f.operations) r b) last_count
  pub blocks : (block : ℕ) → b.blocks block ≡ is_of Second now.fixed block
  pub failed : (k : ℕ) → k < now.ops → HasFailedOfBoth r b k → clock.failed k
  pub was : (t : Trait) (k : ℕ) → k < now.ops → HasTraitOfBoth r b t k → clock.was t k
  pub counted : WereCountedByBoth r b (faults_of now)
  pub free : (k n : ℕ) → k ≤ now.ops → HadFreeOfBoth r b k n → HadPages clock k n
  pub spare : TellsBytes r.flash → StartsSound (making_first r.configuration) r.flash → (k n : ℕ) → k ≤ now.ops → k < last_count
      → HadFree (making_first r.configuration) r.flash (own_ops r b false k) n → HadSpare clock (making_first r.configuration).reserve k n
  pub worn : (k n : ℕ) (urgent : Bool) → worn_by now clock k n urgent → IsWornOfBoth r b k n urgent
  pub slots : TellsBytes r.flash → StartsSound (making_first r.configuration) r.flash → TellsBytes b.flash → BeginsSound b.reading b.flash → is_some now.slots ≡ true

-- then the moves of a history are those of a run over both
abbrev pub MovesAreOfBoth : Type 1
MovesAreOfBoth =
    (r : Run) (b : Beside) (now : DeviceTold) (clock : Clock) (course : Course) (first : Moment) (moves : List Move) → IsSoOfBoth r b now clock
    → HasMovesToOfBoth (come_within course) r.configuration r.history first moves now clock → AreMadeOfBoth course r b first (moment_behind first moves) moves
    → BothEndBy r b (moment_behind first moves) r.end → KeepsTurnsOfBoth (job_turns_of_both r.configuration) r b course
