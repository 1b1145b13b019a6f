-- One run of the program, from the attach of its flash on, and how it follows its script.
use Rattle.std.specs.Prelude.{◌≡◌, ◌⊎◌, ◌<◌, ◌≤◌, ◌+◌, ℕ, zero, suc, not, Bool, true, false, IsTrue, List, [], ◌∷◌, ◌++◌, map, take, Option, Some, None}
use Rattle.block_machine.specs.nv_base.Count.{last_count, Rose, WereCounted}
use Rattle.block_machine.specs.nv_base.declared.geometry.Geometry.{Geometry}
use Rattle.block_machine.specs.nv_base.Entry.{ops_behind}
use Rattle.fls_model.specs.Told.{Told, IfBothTold, bytes_now}
use Rattle.script_walks.specs.Words.{Step, StepKind, AskStep, Cut, Restart}
use Rattle.block_machine.specs.Words.{Entry, Off, Configuration}
use Rattle.block_machine.specs.State.{State}
use Rattle.block_machine.specs.Reply.{fits}
use Rattle.block_machine.specs.Steps.{after, after_from}
use Rattle.script_walks.specs.Walk.{IsWalkOf}
use Rattle.script_walks.specs.Looks.{Look}
use Rattle.script_walks.specs.Runs.{IsRun, IsWholeRun, IsFullRun}
use Rattle.promise_device.specs.Image.{attached}
use Rattle.promise_device.specs.FlashRun.{FlashRun}
use Rattle.promise_run.specs.Beside.{Beside}

-- the most entries of a program's history
abbrev pub cap : ℕ
cap = 100000

-- How a script was followed.
pub data Course : Type 0 where
  -- `play`: the steps that were made, with the entries that each added, and those that were left
  Played : (made : List Step) → (pieces : List (List Entry)) → (left : List Step) → Course
  -- `run`: the steps of all callers, side by side, and the driver's looks at the application's stores
  Ran : (steps : List Step) → (looks : List Look) → Course

-- How it ended: at the end of the script, at a start-up that failed, at a history that is full, or for want of memory.
pub data End : Type 0 where
  Whole : End
  FlashFault : End
  HistoryFull : End
  Memory : End

pub record Run : Type 0 where
  pub configuration : Configuration
  -- the most entries of its history
  pub most : ℕ
  pub course : Course
  pub end : End
  pub history : List Entry
  pub flash : FlashRun
  -- of each planned power cut that came, in their order, how many bytes of its operation it let be done
  pub cuts : List ℕ
  -- the second device, if there is one
  pub beside : Option Beside

-- the same run, over the first flash alone
abbrev pub alone : Run → Run
alone r = record r { beside = None }

-- a fault of one of both flashes was counted
abbrev pub FaultWasCounted : FlashRun → Option Beside → Type 0
FaultWasCounted f None = Rose f.entry.faults f.exit.faults
FaultWasCounted f (Some b) = Rose f.entry.faults f.exit.faults ⊎ Rose b.flash.entry.faults b.flash.exit.faults

-- WITHOUT A START-UP
-- a run ends so only where start-up failed or memory was wanting
abbrev pub EndsAtStart : FlashRun → End → Type 0
EndsAtStart f FlashFault = Rose f.entry.faults f.exit.faults
EndsAtStart f Memory = Unit {0}
EndsAtStart f end = ⊥

-- of one of the flashes
abbrev pub EndsBefore : FlashRun → Option Beside → End → Type 0
EndsBefore f None end = EndsAtStart f end
EndsBefore f (Some b) end = EndsAtStart f end ⊎ EndsAtStart b.flash end

-- no changing operation was made, and the bytes are as they were, or a blank flash has its size
pub record LeavesFlash (g : Geometry) (f : FlashRun) : Type 0 where
  pub none : f.operations ≡ []
  pub ops : f.exit.ops ≡ f.entry.ops
  pub bytes : IfBothTold (bytes_now f.entry) (bytes_now f.exit) (λ old new. (new ≡ old) ⊎ (new ≡ attached g old))

-- so it is of each flash
abbrev pub LeavesFlashes : Geometry → FlashRun → Option Beside → Type 0
LeavesFlashes g f None = LeavesFlash g f
LeavesFlashes g f (Some b) = LeavesFlash g f × LeavesFlash b.reading.geometry b.flash

-- no changing operation, no fault and no cut was counted, the shape and the bytes are as they were, and no cut stands that didn't
pub record LeavesAlone (s t : Told) : Type 0 where
  pub geometry : t.geometry ≡ s.geometry
  pub off : t.off ≡ true → s.off ≡ true
  pub bytes : bytes_now t ≡ bytes_now s
  pub ops : t.ops ≡ s.ops
  pub faults : t.faults ≡ s.faults
  pub cuts : t.cuts ≡ s.cuts

-- STEPS

-- What each step of a run keeps: a fact on the state before its piece, the step, its piece, and the steps and pieces behind
-- it.
abbrev pub EachPiece : Configuration → (State → Step → List Entry → List Step → List (List Entry) → Type 0) → State → List Step → List (List Entry) → Type 0
EachPiece c P s (x ∷ xs) (p ∷ ps) = P s x p xs ps × EachPiece c P (after_from c s p) xs ps
EachPiece c P s xs ps = Unit {0}

-- `PLAY`

-- the next step has no room in a history of so many entries at most
abbrev pub HasNoRoom : Configuration → ℕ → State → StepKind → Type 0
HasNoRoom c most s (AskStep r) = IsTrue (not (fits c most s 1))
HasNoRoom c most s Restart = most < s.count + 2
HasNoRoom c most s kind = ⊥

-- a step that was made had room
abbrev pub HadRoom : Configuration → ℕ → State → Step → List Entry → List Step → List (List Entry) → Type 0
HadRoom c most s x p xs ps = ¬ HasNoRoom c most s x.kind

-- why these steps were left: a start-up that failed had room too
abbrev pub LeavesFor : Run → State → End → List Step → Type 0
LeavesFor r s Whole left = left ≡ []
LeavesFor r s FlashFault (x ∷ left) = (x.kind ≡ Restart) × FaultWasCounted r.flash r.beside × ¬ HasNoRoom r.configuration r.most s x.kind
LeavesFor r s HistoryFull (x ∷ left) = HasNoRoom r.configuration r.most s x.kind
LeavesFor r s Memory left = Unit {0}
LeavesFor r s end left = ⊥

-- `RUN`

-- at its end all requests were made and served, or a full history ended callers one by one; else the first of each caller's were made
abbrev pub RunsBy : Configuration → ℕ → List Step → List Look → End → List Entry → Type 0
RunsBy c most steps looks Whole h = IsWholeRun c steps looks h
RunsBy c most steps looks HistoryFull h = IsFullRun most c steps looks h
RunsBy c most steps looks Memory h = IsRun c steps looks h
RunsBy c most steps looks FlashFault h = ⊥

-- THE ORDER

abbrev pub Follows : Run → Course → List Entry → Type 0
Follows r (Played made pieces left) h =
    IsWalkOf r.configuration made pieces h × EachPiece r.configuration (HadRoom r.configuration r.most) (after r.configuration (take 1 h)) made pieces
    × LeavesFor r (after r.configuration h) r.end left
Follows r (Ran steps looks) h = RunsBy r.configuration r.most steps looks r.end h

-- without a start-up no step was made, and no look
abbrev pub MadeNothing : Course → Type 0
MadeNothing (Played made pieces left) = (made ≡ []) × (pieces ≡ [])
MadeNothing (Ran steps looks) = looks ≡ []

-- The history is a walk of the steps that were made, or a run of the callers' programs, and the end says why no more were: it
-- is full exactly where the next step of a walk has no room, since each that was made had.
-- Without a start-up it is empty, and each flash is as it was.
abbrev pub HasOrder : Run → List Entry → Type 0
HasOrder r [] = EndsBefore r.flash r.beside r.end × MadeNothing r.course × LeavesFlashes r.configuration.geometry r.flash r.beside
HasOrder r (e ∷ es) = Follows r r.course (e ∷ es)

-- POWER CUTS

-- a planned power cut: how many operations are made when it comes, at the least, and how many bytes of the last it lets be done
pub record DueCut : Type 0 where
  pub due : ℕ
  pub keep : ℕ

-- the one that stands from a step on, if one does
abbrev pub plan_after : StepKind → Option DueCut → ℕ → Option DueCut
plan_after (Cut zero keep) plan ops = plan
plan_after (Cut (suc n) keep) plan ops = Some (record { due = ops + suc n; keep = keep })
plan_after Restart plan ops = None
plan_after kind plan ops = plan

-- a step is made, or an entry comes
pub data Event : Type 0 where
  Made : StepKind → Event
  Added : Entry → Event

-- each step with the entries of its piece behind it
abbrev pub events_of : List Step → List (List Entry) → List Event
events_of (x ∷ xs) (p ∷ ps) = Made x.kind ∷ map Added p ++ events_of xs ps
events_of xs ps = []

-- in `run` no step plans a cut
abbrev pub events_in : Course → List Entry → List Event
events_in (Played made pieces left) h = events_of made pieces
events_in (Ran steps looks) h = map Added h

-- Each Off is the cut that is planned, and not for later, whose bytes are the next of these; or it is one of so many others.
-- Behind it none is planned.
abbrev pub CutsAre : Option DueCut → ℕ → List Event → (cuts : List ℕ) → (others : ℕ) → Type 0
CutsAre plan ops [] cuts others = (cuts ≡ []) × (others ≡ 0)
CutsAre plan ops (Made kind ∷ es) cuts others = CutsAre (plan_after kind plan ops) ops es cuts others
CutsAre plan ops (Added (Off now) ∷ es) cuts others =
    ((p : DueCut) × (rest : List ℕ) × (plan ≡ Some p) × ((p.due ≤ now) ⊎ (last_count ≤ now)) × (cuts ≡ p.keep ∷ rest) × CutsAre None now es rest others)
    ⊎ ((n : ℕ) × (others ≡ suc n) × CutsAre None now es cuts n)
CutsAre plan ops (Added e ∷ es) cuts others = CutsAre plan (ops_behind ops (e ∷ [])) es cuts others

-- the Offs of a run are these planned cuts, and others that were counted between two values of a count
abbrev pub CutsExplain : Course → List Entry → (cuts : List ℕ) → (before after : ℕ) → Type 0
CutsExplain course h cuts before after = (others : ℕ) × CutsAre None 0 (events_in course h) cuts others × WereCounted others before after

-- in `play` a planned cut keeps its operation from the flash
abbrev pub has_cutter : Course → Bool
has_cutter (Played made pieces left) = true
has_cutter (Ran steps looks) = false
