-- What moves do to a stack.
use Rattle.std.specs.Prelude.{◌≡◌, ◌⊎◌, ◌≤◌, ◌<◌, ◌+◌, ℕ, Bool, true, false, IsTrue, is_none, List, [], ◌∷◌, ◌++◌, Option, Some, None, IfSome}
use Rattle.nvm_core.specs.nv_base.Count.{Rose}
use Rattle.nvm_core.specs.nv_base.Entry.{ops_of}
use Rattle.nvm_core.specs.memif.Told.{Part, PartTold, faults_of}
use Rattle.nvm_core.specs.memif.Calls.{FreesReady, InOrder}
use Rattle.nvm_core.specs.memif.Clock.{Clock, SameClock, TakesKept}
use Rattle.nvm_core.specs.memif.Trials.{Lasts}
use Rattle.nvm_core.specs.block_machine.Words.{Entry, Pick, Post, Configuration}
use Rattle.nvm_core.specs.block_machine.State.{State}
use Rattle.nvm_core.specs.block_machine.Blocks.{is_pending, job_block, status_of}
use Rattle.nvm_core.specs.block_machine.Steps.{after_from}
use Rattle.nvm_core.specs.promise_blocks.Payment.{Worn}
use Rattle.nvm_core.specs.promise_blocks.Work.{has_risen}
use Rattle.nvm_core.specs.nv_desk.Desk.{DeskState, state_of}
use Rattle.nvm_core.specs.job_progress.JobInHand.{IsPaired}
use Rattle.nvm_core.specs.nvm_device_laws.Turn.{TellsSlots}
use Rattle.nvm_core.specs.nvm_laws.AtDevice.{GoesOn}
use Rattle.nvm_core.specs.nvm_laws.Due.{post_first}
use Rattle.nvm_core.specs.nvm_laws.DueLaws.{AreReplied, NextIsPending, with_entries}
use Rattle.nvm_core.specs.nvm_laws.Keeps.{StackKeeps, StaysKept}
use Rattle.nvm_core.specs.nvm_laws.Ties.{IsTied}
use Rattle.nvm_core.specs.nvm_laws.Traits.{KeepsSeal, TakesKeptInHand}
use Rattle.nvm_core.specs.DeviceWork.{IsSimple}
use Rattle.nvm_core.specs.OperationStart.{LeavesDevice}
use Rattle.nvm_core.specs.Stack.{PowersOff}
use Rattle.nvm_core.specs.Paying.{OwesSince, PaysSince, has_urgent, worn_so_far}
use Rattle.promise_run.specs.script_walks.Walk.{is_at_rest}
use Rattle.promise_run.specs.Turns.{Move, entry_list, entries_of, is_asked, is_found, is_picked, found_behind, Among, BeginsIn, IsMoveMade, IsPostedSoon, CountsOwn, HasImmediate, IsPaidSince}
use Rattle.nvm_moves.specs.Along.{Bound, Cursor, Along, bound_of, cursor_behind}
use Rattle.nvm_moves.specs.Seen.{Begun, Seen, all_seen, frame_in, frame_of, left_seen, moment_seen, most_seen, work_seen}
use Rattle.nvm_moves.specs.Served.{DueAt, IsServable, ServesBy}
use Rattle.nvm_moves.specs.Worked.{KeepToWork, KeepsToWork}

-- so many turns are left at most of the job in hand, of the most that it has, and so many in all
abbrev pub IsBound : Seen → Bound → Type 0
IsBound s b = (left_seen s ≤ b.left) × (most_seen s ≡ Some b.most) × (all_seen s ≤ b.all)

-- it is what is known there
pub record IsAt (s : Seen) (k : Cursor) : Type 0 where
  pub now : k.now ≡ moment_seen s
  pub state : k.state ≡ state_of s.desk
  pub here : Among (state_of s.desk) k.since
  pub begun : IfSome s.begun (λ b. Among b.state k.since)
  pub left : IfSome k.left (IsBound s)

-- THE LAW OF ONE MOVE
-- With nothing pending and nothing open a turn does nothing.
abbrev pub RestsAt : Cursor → Move → Type 0
RestsAt k m = IsTrue (is_at_rest k.state) → k.now.busy ≡ false → is_asked m.entry ≡ false → is_found m.entry ≡ false → (m.entry ≡ None) × (m.behind ≡ k.now)

-- A turn saw one of the states since the turn before it, behind which requests may have come within it.
abbrev pub BeginsAt : Cursor → Move → Type 0
BeginsAt k m = is_asked m.entry ≡ false → is_found m.entry ≡ false → (s : State) × Among s k.since × BeginsIn s m.entry

-- The job in hand, picked so many turns before its last, is posted by then: a turn that leaves it in hand wasn't the last in all, and where
-- it counts no fault it wasn't the last of its most.
abbrev pub PostsAt : Configuration → Cursor → Move → Type 0
PostsAt c k m =
    IfSome k.left (λ b. is_asked m.entry ≡ false → is_found m.entry ≡ false → is_picked m.entry ≡ false
    → (after_from c k.state (entry_list m.entry)).off ≡ false → is_none (after_from c k.state (entry_list m.entry)).hand ≡ false
    → (1 < b.all) × (has_risen k.now.faults m.behind.faults ≡ false → 1 < b.left))

-- A Pick comes with the power on; and where a job is in hand a Post is its own.
abbrev pub FitsHand : State → Option Entry → Type 0
FitsHand s (Some (Pick block kind t ops)) = s.off ≡ false
FitsHand s (Some (Post block r given refused ops)) = IfSome s.hand (λ j. job_block j ≡ block)
FitsHand s e = Unit {0}

-- by what a clock tells of the operations
pub record IsLawful (c : Configuration) (clock : Clock) (k : Cursor) (m : Move) : Type 0 where
  pub made : IsMoveMade k.now m
  pub failed : CountsOwn clock.failed k.now m
  pub kept : (o : ℕ) → k.now.ops ≤ o → o < m.behind.ops → clock.was TakesKept o → HasImmediate c k.state
  pub rests : RestsAt k m
  pub begins : BeginsAt k m
  pub fits : FitsHand k.state m.entry
  pub posts : PostsAt c k m

abbrev pub IsPaidAt : Configuration → Worn → Cursor → Move → Type 0
IsPaidAt c worn k m = IsPaidSince c worn k.picked k.state m

-- it stays so, and what the device tells behind it was told before
pub record KeepsOn (old new : Seen) : Type 0 where
  pub told : TellsSlots new.device → TellsSlots old.device
  pub kept : (before : Part → PartTold) → old.kept before → new.kept before

abbrev pub Owes : ℕ → Seen → Type 0
Owes since s = OwesSince (has_urgent s.desk) since s.hand s.device s.clock

-- a desk has these entries more; what memory was taken for isn't told
abbrev pub GrowsBy : List Entry → DeskState → DeskState → Type 0
GrowsBy more old new = new ≡ record old { entries = old.entries ++ more; prepared = new.prepared }

-- The list of the desk grew by the entries of moves, each of which keeps the law; where the device tells what it holds each Post is paid
-- since its Pick. Where no power cut stands in the way urgent writes are posted soon, and over a simple device the moves keep to what is
-- open at it. Requests come between turns alone, or within them too.
pub record HasMoved (within : Bool) (old new : Seen) : Type 0 where
  pub moves : List Move
  pub tell : GrowsBy (entries_of moves) old.desk new.desk
  pub fixed : new.device.fixed ≡ old.device.fixed
  pub lasts : Lasts old.device old.clock new.device new.clock
  pub stays : KeepsOn old new
  pub uncut : old.uncut → new.uncut
  pub lawful : (k : Cursor) → IsAt old k → Along (frame_of within old) (IsLawful old.desk.config new.clock) k moves × IsAt new (cursor_behind (frame_of within old) k moves)
  pub paid : TellsSlots new.device → (before : Part → PartTold) → old.kept before → (k : Cursor) → IsAt old k → Owes k.picked old
      → Along (frame_of within old) (IsPaidAt old.desk.config (worn_so_far new.device new.clock)) k moves × Owes (cursor_behind (frame_of within old) k moves).picked new
  pub servable : (since : ℕ) → IsServable since old → IsServable (found_behind since moves) new
  pub served : (since : ℕ) → IsServable since old → ServesBy within new.clock (DueAt old) (DueAt new) since old moves
  pub work : old.uncut → IsSimple old.device.fixed → KeepToWork (worn_so_far new.device new.clock) new.clock old (work_seen new) moves

-- by these moves
pub record MovesBy (within : Bool) (moves : List Move) (old new : Seen) : Type 0 where
  pub moved : HasMoved within old new
  pub are : moved.moves ≡ moves

-- WHAT A CALL TELLS
-- Behind a turn that leaves the job in hand it has the most that it had, of which at most all are left, whatever failed; fewer are left in
-- all, and where this holds fewer of the most.
pub record LeavesTurns (had : Option ℕ) (left all : ℕ) (calm : Type 0) (new : Seen) : Type 0 where
  pub most : ℕ
  pub was : had ≡ Some most
  pub is : most_seen new ≡ Some most
  pub within : left_seen new ≤ most
  pub some : (0 < left_seen new) × (0 < all_seen new)
  pub in_all : all_seen new < all
  pub fewer : calm → left_seen new < left

-- A turn, where nothing came within it: it adds one entry at most, and makes one operation at most.
pub record IsTurnTold (old new : Seen) : Type 0 where
  pub entry : Option Entry
  pub turns : (is_asked entry ≡ false) × (is_found entry ≡ false)
  pub ended : new.begun ≡ None
  pub begins : (s : State) × (((b : Begun) × (old.begun ≡ Some b) × (b.state ≡ s)) ⊎ (state_of old.desk ≡ s)) × BeginsIn s entry
  pub fits : FitsHand (state_of old.desk) entry
  -- behind a Pick at most the most turns of its job are left
  pub most : is_picked entry ≡ true → IfSome (state_of new.desk).hand (λ j. IsBound new (bound_of (frame_in false old.desk.config old.device.fixed) (state_of new.desk) j))
  pub leaves : is_picked entry ≡ false → (state_of new.desk).off ≡ false → is_none (state_of new.desk).hand ≡ false
      → LeavesTurns (most_seen old) (left_seen old) (all_seen old) (Rose (faults_of old.device) (faults_of new.device) → ⊥) new
  pub rests : IsTrue (is_at_rest (state_of old.desk)) → (moment_seen old).busy ≡ false → (entry ≡ None) × (moment_seen new ≡ moment_seen old)
  pub adds : new.desk ≡ with_entries old.desk (entry_list entry)
  pub one : new.device.ops ≤ old.device.ops + 1
  pub told : IfSome entry (λ e. ops_of e ≡ Some new.device.ops)
  pub fixed : new.device.fixed ≡ old.device.fixed
  pub counted : faults_of old.device ≤ faults_of new.device
  pub lasts : Lasts old.device old.clock new.device new.clock
  pub stays : KeepsOn old new
  pub all : (before : Part → PartTold) → old.kept before → TellsSlots old.device → StackKeeps before old.desk old.hand old.device old.clock
  pub kept : TakesKeptInHand old.desk old.device new.device new.clock
  pub pays : (before : Part → PartTold) (since : ℕ) → StackKeeps before old.desk old.hand old.device old.clock → Owes since old
      → PaysSince since old.desk new.desk new.hand old.device new.device new.clock
  pub uncut : old.uncut → new.uncut
  pub seals : KeepsSeal old.device old.clock new.device new.clock
  -- what is due is posted, or comes nearer
  pub dues : old.uncut → (one : Bool) (id turns : ℕ) → DueAt old one id turns
      → IsPostedSoon (λ o n. DueAt new o id n) one id turns (faults_of old.device) (record { entry = entry; behind = moment_seen new } ∷ [])
  pub work : old.uncut → IsSimple old.device.fixed → KeepsToWork (worn_so_far new.device new.clock) new.clock old (work_seen new) (record { entry = entry; behind = moment_seen new })

-- Requests: the device stands still, and so does the job in hand. Between turns the block of what is next is PENDING, and that of what is in
-- hand; within one the job in hand isn't finished, and an urgent write takes this turn too.
abbrev pub AreAsked : List Entry → Type 0
AreAsked [] = Unit {0}
AreAsked (e ∷ es) = (is_asked (Some e) ≡ true) × AreAsked es

abbrev pub ArePending : (within : Bool) → Option Begun → Seen → Type 0
ArePending within None s = NextIsPending s.desk.config (state_of s.desk) × IfSome (state_of s.desk).hand (λ j. is_pending (status_of (state_of s.desk) (job_block j)) ≡ true)
ArePending within (Some b) s = (within ≡ true) × (post_first s.hand ≡ 0)

-- They leave all but the desk as it is.
pub record AreAsksMade (asks : List Entry) (old new : Seen) : Type 0 where
  pub are : AreAsked asks
  pub adds : new.desk ≡ with_entries old.desk asks
  pub hand : new.hand ≡ old.hand
  pub device : new.device ≡ old.device
  pub begun : new.begun ≡ old.begun
  pub lasts : Lasts old.device old.clock new.device new.clock
  pub stays : KeepsOn old new
  pub uncut : old.uncut → new.uncut
  pub seals : KeepsSeal old.device old.clock new.device new.clock

-- And what serves urgent writes is known before them.
pub record AreAsksTold (within : Bool) (asks : List Entry) (old new : Seen) : Type 0 where
  pub made : AreAsksMade asks old new
  pub replied : AreReplied old.desk.config old.desk.cap (state_of old.desk) asks
  pub on : old.uncut → PowersOff old.desk old.device
  pub tied : IsTied old.desk old.hand old.device
  pub order : InOrder old.device old.clock
  pub frees : FreesReady old.device old.clock
  pub pending : ArePending within old.begun old

-- The first half of a turn that goes to the device: it makes no move.
pub record IsHalfTold (old new : Seen) : Type 0 where
  pub desk : new.desk ≡ old.desk
  pub between : old.begun ≡ None
  pub begun : new.begun ≡ Some (record { state = state_of old.desk; hand = old.hand; device = old.device })
  pub goes : GoesOn old.hand old.device new.hand new.device
  pub leaves : LeavesDevice old.device new.device
  pub clock : SameClock old.clock new.clock
  pub paired : IsPaired old.desk.config (state_of old.desk) old.hand old.device
  pub stays : StaysKept old.desk old.hand old.device old.clock new.desk new.hand new.device new.clock
  pub on : KeepsOn old new
  pub all : (before : Part → PartTold) → old.kept before → TellsSlots old.device → StackKeeps before old.desk old.hand old.device old.clock
  pub uncut : old.uncut → new.uncut
  pub seals : KeepsSeal old.device old.clock new.device new.clock
  pub dues : (one : Bool) (id turns : ℕ) → DueAt old one id turns → DueAt new one id turns

-- A start-up that adds its entry: no job is in hand behind it, and it makes no operation.
pub record IsStartTold (old new : Seen) : Type 0 where
  pub entry : Entry
  pub found : is_found (Some entry) ≡ true
  pub adds : GrowsBy (entry ∷ []) old.desk new.desk
  pub told : ops_of entry ≡ Some new.device.ops
  pub hand : new.hand ≡ None
  pub begun : new.begun ≡ None
  pub ops : new.device.ops ≡ old.device.ops
  pub fixed : new.device.fixed ≡ old.device.fixed
  pub counted : faults_of old.device ≤ faults_of new.device
  pub lasts : Lasts old.device old.clock new.device new.clock
  pub stays : KeepsOn old new
  pub uncut : old.uncut → new.uncut
  pub work : old.uncut → IsSimple old.device.fixed → KeepsToWork (worn_so_far new.device new.clock) new.clock old (work_seen new) (record { entry = Some entry; behind = moment_seen new })

-- What changes nothing that is told of the moment, and adds nothing: a power cut that is planned, a store of the application, copies that are
-- to be refused.
pub record IsStillTold (old new : Seen) : Type 0 where
  pub desk : new.desk ≡ old.desk
  pub hand : new.hand ≡ old.hand
  pub begun : new.begun ≡ old.begun
  pub moment : moment_seen new ≡ moment_seen old
  pub left : left_seen new ≡ left_seen old
  pub in_all : all_seen new ≡ all_seen old
  pub work : work_seen new ≡ work_seen old
  pub fixed : new.device.fixed ≡ old.device.fixed
  pub lasts : Lasts old.device old.clock new.device new.clock
  pub stays : KeepsOn old new
  pub uncut : old.uncut → new.uncut
  pub seals : KeepsSeal old.device old.clock new.device new.clock
  pub dues : (one : Bool) (id turns : ℕ) → DueAt old one id turns → DueAt new one id turns
