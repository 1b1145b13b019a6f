-- The turns that a run made, one by one.
use Rattle.std.specs.Prelude.{◌≡◌, ◌⊎◌, ◌<◌, ◌≤◌, ◌+◌, ◌-◌, ◌*◌, ◌==◌, ℕ, zero, suc, not, ◌&&◌, ◌||◌, if◌then◌else◌, Bool, true, false, IsTrue, List, [], ◌∷◌, ◌++◌, length, map, take, min, Option, Some, None, slice_get, IfSome}
use Rattle.std.specs.List.{list_all}
use Rattle.block_machine.specs.nv_base.Count.{last_count, Rose, WereCounted}
use Rattle.block_machine.specs.nv_base.Entry.{ops_of}
use Rattle.script_walks.specs.Words.{Step, StepKind, AskStep, Turn, Drain, Restart, Cut}
use Rattle.block_machine.specs.Words.{Canceled, WriteAllJob, TookNothing, Accepted, Entry, Ask, Pick, Post, Configuration}
use Rattle.block_machine.specs.State.{State, Job, Sweep, jobs_of}
use Rattle.block_machine.specs.Blocks.{asked_block, is_immediate, job_block, rank_of}
use Rattle.block_machine.specs.Steps.{after, after_from}
use Rattle.block_machine.specs.Prices.{price_in_faults, sum_from}
use Rattle.promise_blocks.specs.Work.{tries_of}
use Rattle.promise_blocks.specs.Payment.{Worn, IsExcused}
use Rattle.script_walks.specs.Walk.{is_due, is_at_rest, begins_with_pick_or_post}
use Rattle.promise_run.specs.Completeness.{is_calm_entry, IsCalm, ends_job}
use Rattle.promise_run.specs.Promise.{making_of}
pub use Rattle.promise_blocks.specs.Moves.{Moment, Move, entry_list, entries_of, moment_behind, is_asked, is_found, is_picked, is_off}
use Rattle.promise_run.specs.JobTurns.{write_pages}
use Rattle.promise_run.specs.Operations.{HadFreePages, HasWork, costs_of}
use Rattle.memif.specs.Clock.{Trait, Seals, TakesKept}
use Rattle.fls_model.specs.Told.{Change}
use Rattle.promise_device.specs.Making.{Making}
use Rattle.promise_device.specs.FlashRun.{FlashRun, TellsBytes, StartsSound, HasFailed, bytes_after}
use Rattle.promise_device.specs.Bridge.{IsWornOut, free_pages}
use Rattle.promise_device.specs.Traits.{is_such}
use Rattle.promise_run.specs.Run.{Run, Course, Played, Ran, End, FlashFault}

-- TURNS

-- a turn makes at most one changing operation, and takes no fault back; its entry tells the operations behind it
pub record IsTurnMade (before : Moment) (m : Move) : Type 0 where
  pub faults : before.faults ≤ m.behind.faults
  pub ops : before.ops ≤ m.behind.ops
  pub one : m.behind.ops ≤ before.ops + 1
  pub told : IfSome m.entry (λ e. ops_of e ≡ Some m.behind.ops)

abbrev pub AreTurnsMade : Moment → List Move → Type 0
AreTurnsMade before [] = Unit {0}
AreTurnsMade before (m ∷ ms) = IsTurnMade before m × AreTurnsMade m.behind ms

-- a request changes nothing that is told of the device
abbrev pub IsAskMade : Moment → List Move → Type 0
IsAskMade before (m ∷ []) = m.behind ≡ before
IsAskMade before ms = ⊥

-- a start-up makes no changing operation, and takes no fault back; its entry tells the operations of that moment
abbrev pub IsStartMade : Moment → List Move → Type 0
IsStartMade before (m ∷ []) = (before.faults ≤ m.behind.faults) × (m.behind.ops ≡ before.ops) × IfSome m.entry (λ e. ops_of e ≡ Some m.behind.ops)
IsStartMade before ms = ⊥

-- STEPS

-- the moves of a step: `turn N` makes N turns, `drain` as many as it needs, and the steps that aren't named make none
abbrev pub AreMovesOf : StepKind → Moment → List Move → Type 0
AreMovesOf (Turn count) before moves = (length moves ≡ count) × AreTurnsMade before moves
AreMovesOf Drain before moves = AreTurnsMade before moves
AreMovesOf (AskStep r) before moves = IsAskMade before moves
AreMovesOf Restart before moves = IsStartMade before moves
AreMovesOf kind before moves = moves ≡ []

-- those of steps in order
abbrev pub AreMoves : Moment → List Step → List (List Move) → Type 0
AreMoves before [] [] = Unit {0}
AreMoves before (x ∷ xs) (ms ∷ mss) = AreMovesOf x.kind before ms × AreMoves (moment_behind before ms) xs mss
AreMoves before steps moves = ⊥

-- the moment behind all of them
abbrev pub moment_after : Moment → List (List Move) → Moment
moment_after before [] = before
moment_after before (ms ∷ mss) = moment_after (moment_behind before ms) mss

-- the steps that were made have moves, whose entries are their pieces
pub record HasMoves (made : List Step) (pieces : List (List Entry)) (first last : Moment) : Type 0 where
  pub moves : List (List Move)
  pub are : AreMoves first made moves
  pub tell : pieces ≡ map entries_of moves
  pub behind : moment_after first moves ≡ last

-- WITHIN ITS TURNS

-- the power goes off, or a copy is refused or stale
abbrev pub fails : Option Entry → Bool
fails (Some e) = not (is_calm_entry e)
fails None = false

-- a job of this block is posted, or another Pick interrupts it
abbrev pub ends : ℕ → Option Entry → Bool
ends id (Some e) = ends_job id e
ends id None = false

-- A job of this block that is in hand is posted, or interrupted, by the last of so many turns, unless before it a restart or the end
-- of the run comes, the power goes off, or a copy is refused or stale. A request is no turn; a fault gives it its most turns anew, but
-- no more than it has in all.
abbrev pub IsPostedWithin : (id most all turns faults : ℕ) → List Move → Type 0
IsPostedWithin id most all turns faults [] = Unit {0}
IsPostedWithin id most all turns faults (m ∷ ms) =
    IsTrue (is_found m.entry) ⊎ ((IsTrue (is_asked m.entry) × IsPostedWithin id most all turns faults ms)
    ⊎ ((Rose faults m.behind.faults × (1 < all) × IsPostedWithin id most (all - 1) most m.behind.faults ms) ⊎ (IsTrue (fails m.entry) ⊎ (IsTrue (ends id m.entry)
    ⊎ ((1 < turns) × (1 < all) × IsPostedWithin id most (all - 1) (turns - 1) m.behind.faults ms)))))

-- in all, whatever fails, a job has its most turns and one more for each of its tries, and so many besides
abbrev pub turns_in_all : Configuration → State → (most : ℕ) → ℕ
turns_in_all c s most = (tries_of c s + 1) * (most + 1)

-- what each move keeps: a fact on the state before it, the move, and those behind it
abbrev pub EachMove : Configuration → (State → Move → List Move → Type 0) → State → List Move → Type 0
EachMove c P s [] = Unit {0}
EachMove c P s (m ∷ ms) = P s m ms × EachMove c P (after_from c s (entry_list m.entry)) ms

-- a job is posted within the most turns that it takes, counted from its Pick
abbrev pub PostsPicked : Configuration → (State → Job → ℕ) → State → Move → List Move → Type 0
PostsPicked c most s m ms =
    IsTrue (is_picked m.entry) → (j : Job) → (after_from c s (entry_list m.entry)).hand ≡ Some j
    → let turns = most (after_from c s (entry_list m.entry)) j in IsPostedWithin (job_block j) turns (turns_in_all c (after_from c s (entry_list m.entry)) turns) turns m.behind.faults ms

-- CANCELED

-- Where a WriteAll that was canceled is all that is pending, a turn posts id 0 as canceled, or picks it where it wasn't begun.
abbrev pub EndsCanceled : State → Option Entry → Type 0
EndsCanceled s e =
    (sw : Sweep) → s.sweep ≡ Some sw → sw.writes ≡ true → sw.canceled ≡ true → jobs_of s ≡ [] → s.off ≡ false
    → (ops : ℕ) × (e ≡ Some (if sw.under_way then Post 0 Canceled None 0 ops else Pick 0 WriteAllJob TookNothing ops))

-- A turn that saw this state doesn't go by where something is due in it, and ends a WriteAll that was canceled.
abbrev pub BeginsIn : State → Option Entry → Type 0
BeginsIn s e = IsTrue (not (is_due s) || begins_with_pick_or_post (entry_list e)) × EndsCanceled s e

-- one of these states
abbrev pub Among : State → List State → Type 0
Among s [] = ⊥
Among s (t ∷ ts) = (t ≡ s) ⊎ Among s ts

-- A turn saw the state before it. Where requests come within turns they stand before the turn, perhaps unseen: it saw one of the states since
-- the turn before it.
abbrev pub BeginWhatIsDue : (within : Bool) → Configuration → List State → State → List Move → Type 0
BeginWhatIsDue within c since s [] = Unit {0}
BeginWhatIsDue within c since s (m ∷ ms) =
    (is_asked m.entry ≡ false → is_found m.entry ≡ false → (t : State) × Among t since × BeginsIn t m.entry)
    × BeginWhatIsDue within c (after_from c s (entry_list m.entry) ∷ (if is_asked m.entry && within then since else [])) (after_from c s (entry_list m.entry)) ms

-- AT REST

-- With nothing pending and nothing open at the device a turn has nothing to do: it adds no entry, and nothing changes.
abbrev pub StaysAtRest : Configuration → Moment → State → List Move → Type 0
StaysAtRest c before s [] = Unit {0}
StaysAtRest c before s (m ∷ ms) =
    (IsTrue (is_at_rest s) → before.busy ≡ false → is_asked m.entry ≡ false → is_found m.entry ≡ false → (m.entry ≡ None) × (m.behind ≡ before))
    × StaysAtRest c m.behind (after_from c s (entry_list m.entry)) ms

-- nothing is open at the device behind each `drain`
abbrev pub ClosesAtDrains : Moment → List Step → List (List Move) → Type 0
ClosesAtDrains before (x ∷ xs) (ms ∷ mss) = (x.kind ≡ Drain → (moment_behind before ms).busy ≡ false) × ClosesAtDrains (moment_behind before ms) xs mss
ClosesAtDrains before xs mss = Unit {0}

-- each turn of a `drain` but its last one finds something pending, or open at the device
abbrev pub FindsWork : Configuration → Moment → State → List Move → Type 0
FindsWork c before s (m ∷ n ∷ ms) = IsTrue (not (is_at_rest s) || before.busy) × FindsWork c m.behind (after_from c s (entry_list m.entry)) (n ∷ ms)
FindsWork c before s ms = Unit {0}

abbrev pub FindWorkAtDrains : Configuration → Moment → State → List Step → List (List Move) → Type 0
FindWorkAtDrains c before s (x ∷ xs) (ms ∷ mss) = (x.kind ≡ Drain → FindsWork c before s ms) × FindWorkAtDrains c (moment_behind before ms) (after_from c s (entries_of ms)) xs mss
FindWorkAtDrains c before s xs mss = Unit {0}

-- PAID SINCE THE PICK

-- A Post is paid by the faults since so many were counted, or the device was worn out.
abbrev pub IsPaidSince : Configuration → Worn → ℕ → State → Move → Type 0
IsPaidSince c worn since s m =
    WereCounted (sum_from c (price_in_faults c) s (entry_list m.entry)) since m.behind.faults ⊎ IfSome m.entry (IsExcused c worn s)

-- Each Post is paid by the faults that were counted since the last Pick before it: those before the Pick's turn are told.
abbrev pub ArePaidSince : Configuration → Worn → ℕ → Moment → State → List Move → Type 0
ArePaidSince c worn since before s [] = Unit {0}
ArePaidSince c worn since before s (m ∷ ms) =
    IsPaidSince c worn since s m
    × ArePaidSince c worn (if is_picked m.entry then before.faults else since) m.behind (after_from c s (entry_list m.entry)) ms

-- COUNTED IN ITS MOVE

-- a move takes no operation back, and counts a fault where one of its own failed
pub record CountsOwn (failed : ℕ → Type 0) (before : Moment) (m : Move) : Type 0 where
  pub later : before.ops ≤ m.behind.ops
  pub own : (k : ℕ) → before.ops ≤ k → k < m.behind.ops → failed k → Rose before.faults m.behind.faults

abbrev pub CountFailed : (ℕ → Type 0) → Moment → List Move → Type 0
CountFailed failed before [] = Unit {0}
CountFailed failed before (m ∷ ms) = CountsOwn failed before m × CountFailed failed m.behind ms

-- PLANNED CUTS

-- a power cut that a step planned: with which operation it comes, and the faults that were counted when it was planned
pub record Planned : Type 0 where
  pub due : ℕ
  pub since : ℕ

-- the plan that stands from a step on
abbrev pub planned_by : StepKind → Moment → Option Planned → Option Planned
planned_by (Cut zero keep) now plan = plan
planned_by (Cut (suc n) keep) now plan = Some (record { due = now.ops + suc n; since = now.faults })
planned_by Restart now plan = None
planned_by kind now plan = plan

-- Its cut wasn't missed: fewer operations were made, or the power is off. An operation that failed may not have reached what cuts
-- the power, so each fault since may put the cut off by one; a count of faults at its end tells none.
abbrev pub IsInTime : Option Planned → Moment → State → Type 0
IsInTime None now s = Unit {0}
IsInTime (Some p) now s = (now.ops + p.since < p.due + now.faults) ⊎ ((s.off ≡ true) ⊎ (last_count ≤ now.faults))

-- behind each of these moves it wasn't
abbrev pub AreInTime : Configuration → Option Planned → State → List Move → Type 0
AreInTime c plan s [] = Unit {0}
AreInTime c plan s (m ∷ ms) = IsInTime plan m.behind (after_from c s (entry_list m.entry)) × AreInTime c plan (after_from c s (entry_list m.entry)) ms

-- so it is with each plan of these steps, from a moment and a state on
abbrev pub CutsCome : Configuration → Option Planned → Moment → State → List Step → List (List Move) → Type 0
CutsCome c plan now s (x ∷ xs) (ms ∷ mss) =
    AreInTime c (planned_by x.kind now plan) s ms
    × CutsCome c (planned_by x.kind now plan) (moment_behind now ms) (after_from c s (entries_of ms)) xs mss
CutsCome c plan now s steps moves = Unit {0}

-- the moves of all steps, one after another
abbrev pub all_moves : List (List Move) → List Move
all_moves [] = []
all_moves (ms ∷ mss) = ms ++ all_moves mss

-- URGENT WRITES

-- a job of this block is posted, or one of another block
abbrev pub posts : ℕ → Option Entry → Bool
posts id (Some (Post block r given refused ops)) = block == id
posts id e = false

abbrev pub posts_other : ℕ → Option Entry → Bool
posts_other id (Some (Post block r given refused ops)) = not (block == id)
posts_other id e = false

-- A job of this block is posted by the last of so many turns, unless before it a restart comes, a fault is counted, or the power goes off.
-- A request is no turn, nor, where `one` says so, the Post of one other job. Behind all of the moves `still` holds of the turns that are left.
abbrev pub IsPostedSoon : (still : Bool → ℕ → Type 0) → Bool → ℕ → ℕ → ℕ → List Move → Type 0
IsPostedSoon still one id turns faults [] = still one turns
IsPostedSoon still one id turns faults (m ∷ ms) =
    IsTrue (is_found m.entry) ⊎ ((IsTrue (is_asked m.entry) × IsPostedSoon still one id turns m.behind.faults ms)
    ⊎ ((IsTrue (one && posts_other id m.entry) × IsPostedSoon still false id turns m.behind.faults ms)
    ⊎ (Rose faults m.behind.faults ⊎ (IsTrue (is_off m.entry) ⊎ (IsTrue (posts id m.entry)
    ⊎ ((1 < turns) × IsPostedSoon still one id (turns - 1) m.behind.faults ms))))))

-- the block of an immediate write that is accepted while the power is on, and no other immediate job is pending or in hand
abbrev pub urgent_block : Configuration → State → Option Entry → Option ℕ
urgent_block c s (Some (Ask caller r Accepted)) =
    if not s.off && (is_immediate c r && list_all (λ j. not (rank_of c j).immediate) (jobs_of s)) then Some (asked_block r) else None
urgent_block c s e = None

-- what each move keeps, with the operations that were made before the last start-up
abbrev pub EachMoveSince : Configuration → (ℕ → State → Move → List Move → Type 0) → ℕ → State → List Move → Type 0
EachMoveSince c P since s [] = Unit {0}
EachMoveSince c P since s (m ∷ ms) = P since s m ms × EachMoveSince c P (if is_found m.entry then m.behind.ops else since) (after_from c s (entry_list m.entry)) ms

-- those behind these moves
abbrev pub found_behind : ℕ → List Move → ℕ
found_behind since [] = since
found_behind since (m ∷ ms) = found_behind (if is_found m.entry then m.behind.ops else since) ms

-- Where so many pages are free at its moment it is posted within the pages of its records and so many turns more, behind one finished job's Post.
abbrev pub PostsUrgent : Configuration → (more : ℕ) → (pages : State → ℕ → ℕ) → (free : (since operations pages : ℕ) → Type 0) → (still : ℕ → Bool → ℕ → Type 0) → ℕ → State → Move → List Move → Type 0
PostsUrgent c more pages free still since s m ms =
    (id : ℕ) → urgent_block c s m.entry ≡ Some id → free since m.behind.ops (pages s id) → IsPostedSoon (still id) true id (pages s id + more) m.behind.faults ms

-- Once so many operations were made the bytes had so many pages free, of those that are kept, in a bank of which no program failed.
pub record HadFree (making : Making) (f : FlashRun) (operations pages : ℕ) : Type 0 where
  pub counted : operations < last_count
  pub image : List ℕ
  pub bytes : bytes_after f operations ≡ Some image
  pub free : pages ≤ min making.reserve (free_pages making (take operations f.operations) image)

-- the operation with this number has this trait, by the page that it programs
abbrev pub HasTrait : Making → FlashRun → Trait → ℕ → Type 0
HasTrait making f t k = (x : Change) × (slice_get f.operations k ≡ Some x) × IsTrue (is_such making t x)

-- Of so many operations the last, made since the last start-up, left a switch at its seal: it programmed a bank's head, or left its gate in doubt.
pub record IsAtSeal (making : Making) (f : FlashRun) (since operations : ℕ) : Type 0 where
  pub counted : operations < last_count
  pub last : ℕ
  pub is_last : operations ≡ last + 1
  pub later : since ≤ last
  pub such : HasTrait making f Seals last

-- an urgent write of so many pages may go on: they are free, or a switch is at its seal, and they are kept for it
abbrev pub MayGoOn : Making → FlashRun → (since operations pages : ℕ) → Type 0
MayGoOn making f since operations pages = HadFree making f operations pages ⊎ (IsAtSeal making f since operations × (pages ≤ making.reserve))

-- KEPT PAGES

-- the job in hand is an immediate one
abbrev pub HasImmediate : Configuration → State → Type 0
HasImmediate c s = (j : Job) × (s.hand ≡ Some j) × ((rank_of c j).immediate ≡ true)

-- an operation that takes a page of those that are kept for urgent writes is made with such a job in hand
abbrev pub TakeKept : Configuration → (kept : ℕ → Type 0) → Moment → State → List Move → Type 0
TakeKept c kept before s [] = Unit {0}
TakeKept c kept before s (m ∷ ms) =
    ((k : ℕ) → before.ops ≤ k → k < m.behind.ops → kept k → HasImmediate c s) × TakeKept c kept m.behind (after_from c s (entry_list m.entry)) ms

-- THE ENDS OF A RUN

-- the state behind the first start-up
abbrev pub state_begun : Run → State
state_begun r = after r.configuration (take 1 r.history)

-- the first start-up tells the operations of the first moment
abbrev pub BeginsAt : Moment → List Entry → Type 0
BeginsAt first [] = Unit {0}
BeginsAt first (e ∷ es) = ops_of e ≡ Some first.ops

-- a start-up that failed counted a fault behind the last moment: one more than the moves tell
abbrev pub EndsBy : Moment → FlashRun → End → Type 0
EndsBy last f FlashFault = WereCounted (last.faults + 1) f.entry.faults f.exit.faults
EndsBy last f end = Unit {0}

-- HOW MOVES ARE MADE

-- in `play`: each step that was made has its moves; where nothing fails nothing is open behind each `drain`, and no planned cut is missed
pub record MakesSteps (r : Run) (made : List Step) (pieces : List (List Entry)) (first last : Moment) (moves : List Move) : Type 0 where
  pub steps : HasMoves made pieces first last
  pub all : all_moves steps.moves ≡ moves
  pub drains : IsCalm r → ClosesAtDrains first made steps.moves
  pub finds : FindWorkAtDrains r.configuration first (state_begun r) made steps.moves
  pub cuts : CutsCome r.configuration None first (state_begun r) made steps.moves

-- in `run` a request leaves the moment as it is, and else the driver makes a turn
abbrev pub IsMoveMade : Moment → Move → Type 0
IsMoveMade before m = (IsTrue (is_asked m.entry) × (m.behind ≡ before)) ⊎ IsTurnMade before m

abbrev pub AreMovesMade : Moment → List Move → Type 0
AreMovesMade before [] = Unit {0}
AreMovesMade before (m ∷ ms) = IsMoveMade before m × AreMovesMade m.behind ms

-- its entries behind the start-up are those of one list for all callers
pub record MakesRequests (r : Run) (first last : Moment) (moves : List Move) : Type 0 where
  pub tell : r.history ≡ take 1 r.history ++ entries_of moves
  pub are : AreMovesMade first moves
  pub behind : moment_behind first moves ≡ last

abbrev pub AreMadeIn : Course → Run → (first last : Moment) → List Move → Type 0
AreMadeIn (Played made pieces left) r first last moves = MakesSteps r made pieces first last moves
AreMadeIn (Ran steps looks) r first last moves = MakesRequests r first last moves

-- there requests come within turns
abbrev pub come_within : Course → Bool
come_within (Played made pieces left) = false
come_within (Ran steps looks) = true

-- the turns of an urgent write beside its pages: one more where it may come within a turn
abbrev pub turns_beside : (within : Bool) → ℕ
turns_beside within = if within then 5 else 4

-- A RUN

-- A run has moves, from a moment behind its first start-up on. They make all operations of the flash, and the flash counted the faults that
-- they tell, and one more where a start-up failed behind them; each move keeps these.
pub record KeepsTurns (most : State → Job → ℕ) (r : Run) (course : Course) : Type 0 where
  pub first : Moment
  pub last : Moment
  pub moves : List Move
  pub made : AreMadeIn course r first last moves
  pub begins : BeginsAt first r.history
  pub operations : last.ops ≡ min (length r.flash.operations) last_count
  pub failed : CountFailed (HasFailed r.flash) first moves
  pub counted : WereCounted last.faults r.flash.entry.faults r.flash.exit.faults
  pub ends : EndsBy last r.flash r.end
  pub serves : BeginWhatIsDue (come_within course) r.configuration (state_begun r ∷ []) (state_begun r) moves
  pub posts : EachMove r.configuration (PostsPicked r.configuration most) (state_begun r) moves
  pub rests : StaysAtRest r.configuration first (state_begun r) moves
  pub work : HasWork (costs_of r.configuration) (HadFreePages (making_of r.configuration) r.flash) (IsWornOut (making_of r.configuration) r.flash) r.configuration first (state_begun r) moves
  pub kept : TakeKept r.configuration (HasTrait (making_of r.configuration) r.flash TakesKept) first (state_begun r) moves
  pub urgent : TellsBytes r.flash → StartsSound (making_of r.configuration) r.flash
      → EachMoveSince r.configuration (PostsUrgent r.configuration (turns_beside (come_within course)) (write_pages r.configuration)
      (MayGoOn (making_of r.configuration) r.flash) (λ id one left. Unit {0}))
      first.ops (state_begun r) moves
  pub paid : TellsBytes r.flash → StartsSound (making_of r.configuration) r.flash
      → ArePaidSince r.configuration (IsWornOut (making_of r.configuration) r.flash) first.faults first (state_begun r) moves
