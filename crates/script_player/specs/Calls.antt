-- What each call of a stack does.
use Rattle.std.specs.Prelude.{◌≡◌, ◌⊎◌, ◌<◌, ◌≤◌, ◌+◌, ℕ, not, ◌&&◌, Bool, true, false, IsTrue, List, [], ◌∷◌, ◌++◌, get_or, slice_set, map, Option, Some, None, Result, Ok, Err}
use Rattle.uds_gateway.specs.nv_base.Count.{Rose}
use Rattle.uds_gateway.specs.nv_base.Entry.{ops_of, ops_behind}
use Rattle.uds_gateway.specs.nv_desk.declared.ask.AskFault.{AskFault}
use Rattle.uds_gateway.specs.nv_desk.declared.ask.AskFault.TheVariants as fault
use Rattle.uds_gateway.specs.nvm_laws.declared.turned.Turned.{Turned}
use Rattle.uds_gateway.specs.nvm_laws.declared.turned.Turned.TheVariants as turned
use Rattle.uds_gateway.specs.nvm_laws.declared.turned.FoundAnswer.{FoundAnswer}
use Rattle.uds_gateway.specs.nvm_laws.declared.turned.FoundAnswer.TheVariants as found
use Rattle.uds_gateway.specs.block_machine.Words.{Instance, Mark, Request, Reply, Entry, Ask, Found}
use Rattle.uds_gateway.specs.block_machine.Steps.{after_from}
use Rattle.uds_gateway.specs.block_machine.Reply.{fits}
use Rattle.uds_gateway.specs.ram_blocks.Copies.{next_number}
use Rattle.uds_gateway.specs.script_walks.Words.{Cut, Refuse}
use Rattle.uds_gateway.specs.script_walks.Walk.{is_at_rest}
use Rattle.uds_gateway.specs.script_walks.Turn.{IsTurn}
use Rattle.uds_gateway.specs.promise_run.Run.{DueCut, Added, plan_after}
use Rattle.uds_gateway.specs.promise_run.Refusals.{AreAsAsked, asked_by}
use Rattle.script_player.specs.Told.{StackTold, state_of, moment_of, IsGrown, IsNoEarlier, AreCut}
use Rattle.script_player.specs.Coming.{MissesNone, PlansCuts}

-- CAUSES

-- Entries are explained: their copies are refused exactly where they are to be, and each Off is the planned cut, or a cut was
-- counted.
pub record AreExplained (plan : Option DueCut) (es : List Entry) (old new : StackTold) : Type 0 where
  pub refusals : (id : ℕ) → AreAsAsked old.configuration id (state_of old) (old.causes.to_refuse id) es (new.causes.to_refuse id)
  pub off : AreCut plan 0 (map Added es) old new
  pub takes : old.causes.takes ≤ new.causes.takes

-- REQUESTS

-- one entry, which has room
pub record AddsAsk (e : Entry) (old new : StackTold) : Type 0 where
  pub room : IsTrue (fits old.configuration old.cap (state_of old) 1)
  pub adds : new ≡ record old { entries = old.entries ++ e ∷ []; work = new.work; causes = new.causes }
  pub plan : new.causes.plan ≡ old.causes.plan
  pub explained : AreExplained old.causes.plan (e ∷ []) old new

-- a request is one entry, or nothing changed: it has no room, or memory was wanting
abbrev pub Asks : ℕ → Request → Result Reply AskFault → StackTold → StackTold → Type 0
Asks caller r (Ok reply) old new = AddsAsk (Ask caller r reply) old new
Asks caller r (Err fault.NoRoom) old new = (new ≡ old) × IsTrue (not (fits old.configuration old.cap (state_of old) 1))
Asks caller r (Err fault.Memory) old new = new ≡ old

-- TURNS

-- when each answer comes, by the entries that the turn added
abbrev pub IsAnswer : Turned → List Entry → StackTold → StackTold → Type 0
IsAnswer turned.Idle es old new = (es ≡ []) × IsTrue (is_at_rest (state_of old)) × (new.busy ≡ false)
IsAnswer turned.Off es old new = (after_from old.configuration (state_of old) es).off ≡ true
IsAnswer turned.Worked es old new = (state_of old).hand ≡ None → (es ≡ []) × IsTrue (is_at_rest (state_of old)) × (old.busy ≡ true)
IsAnswer turned.Picked es old new = IsTrue (not (is_at_rest (state_of old)))
IsAnswer turned.Posted es old new = IsTrue (not (is_at_rest (state_of old)))

-- the work falls with each turn, but where nothing was in hand and a fault was counted
abbrev pub Lowers : Turned → StackTold → StackTold → Type 0
Lowers turned.Idle old new = Unit {0}
Lowers turned.Off old new = Unit {0}
Lowers turned.Worked old new = (new.work < old.work) ⊎ (((state_of old).hand ≡ None) × Rose old.faults new.faults)
Lowers turned.Picked old new = new.work < old.work
Lowers turned.Posted old new = new.work < old.work

-- these entries tell so many operations
abbrev pub AllTell : ℕ → List Entry → Type 0
AllTell ops [] = Unit {0}
AllTell ops (e ∷ es) = (ops_of e ≡ Some ops) × AllTell ops es

-- one changing operation at most was made, and the entries tell the operations behind it
pub record MakesOne (es : List Entry) (old new : StackTold) : Type 0 where
  pub later : old.ops ≤ new.ops
  pub one : new.ops ≤ old.ops + 1
  pub told : AllTell new.ops es

-- One turn, whatever it answered: it adds one entry at most, and makes one changing operation at most.
pub record MakesTurn (old new : StackTold) : Type 0 where
  pub entries : List Entry
  pub grows : IsGrown entries old new
  pub counted : old.faults ≤ new.faults
  pub operations : MakesOne entries old new
  pub turn : IsTurn old.configuration (state_of old) old.stores entries
  pub explained : AreExplained old.causes.plan entries old new
  -- with nothing pending and nothing open it has nothing to do
  pub rests : IsTrue (is_at_rest (state_of old)) → old.busy ≡ false → (entries ≡ []) × (moment_of new ≡ moment_of old)
  -- and no planned cut is missed
  pub cuts : MissesNone old new

-- and its answer
pub record Turns (answer : Turned) (old new : StackTold) : Type 0 where
  pub made : MakesTurn old new
  pub answers : IsAnswer answer made.entries old new
  pub lowers : Lowers answer old new

-- START-UPS

-- a start-up has no room
abbrev pub StartsFull : StackTold → Type 0
StartsFull t = t.cap < (state_of t).count + 2

-- one that stands is one entry, which tells the operations so far, and makes no changing operation; no cut is planned behind it
pub record StartsAgain (old new : StackTold) : Type 0 where
  pub room : ¬ StartsFull old
  pub marks : List (Instance × Mark)
  pub grows : IsGrown (Found marks new.ops ∷ []) (record old { ready = true }) new
  pub counted : old.faults ≤ new.faults
  pub operations : new.ops ≡ old.ops
  pub explained : AreExplained None (Found marks new.ops ∷ []) old new

-- one that fails adds no entry and makes no changing operation, and the stack isn't ready
pub record FailsToStart (old new : StackTold) : Type 0 where
  pub room : ¬ StartsFull old
  pub only : new ≡ record old { ready = false; faults = new.faults; ops = new.ops; work = new.work; busy = new.busy; causes = new.causes }
  pub operations : new.ops ≡ old.ops
  pub fault : Rose old.faults new.faults
  pub explained : AreExplained old.causes.plan [] old new

abbrev pub Restarts : FoundAnswer → StackTold → StackTold → Type 0
Restarts found.Ready old new = StartsAgain old new
Restarts found.Failed old new = FailsToStart old new
Restarts found.NoRoom old new = (new ≡ old) × StartsFull old
Restarts found.Memory old new = new ≡ old

-- THE PLAYER'S OWN STEPS

-- A power cut is planned, where a plan is taken: it comes no earlier than at the nth operation behind those that the entries
-- tell, and lets so much of it be done; and over a device of one part it comes with the nth operation from now.
pub record Arms (nth keep : ℕ) (old new : StackTold) : Type 0 where
  pub only : new ≡ record old { causes = record old.causes { takes = new.causes.takes; plan = new.causes.plan } }
  pub takes : old.causes.takes ≤ new.causes.takes + 1
  pub planned : 1 ≤ old.causes.takes → (plan : Option DueCut) → IsNoEarlier plan old.causes.plan
      → IsNoEarlier (plan_after (Cut nth keep) plan (ops_behind 0 old.entries)) new.causes.plan
  pub comes : 1 ≤ old.causes.takes → PlansCuts (Cut nth keep) [] old new

-- the application stored a content of a block
pub record Stores (block : ℕ) (content : List ℕ) (number : ℕ) (old new : StackTold) : Type 0 where
  pub numbered : number ≡ next_number (get_or old.stores block (0, [])).0
  pub stored : new ≡ record old { stores = slice_set old.stores block (number, content) }

-- so many more of a block's next copies are refused
pub record Refuses (block count : ℕ) (old new : StackTold) : Type 0 where
  pub only : new ≡ record old { causes = record old.causes { to_refuse = new.causes.to_refuse } }
  pub more : (id : ℕ) → new.causes.to_refuse id ≡ asked_by id (Refuse block count) (old.causes.to_refuse id)

-- THE END OF A DRAIN

-- a turn is the last one, by its answer, whether a job was in hand, and whether a fault was counted
abbrev pub is_last : Turned → Bool → Bool → Bool
is_last turned.Idle in_hand risen = true
is_last turned.Off in_hand risen = true
is_last turned.Worked in_hand risen = not in_hand && risen
is_last turned.Picked in_hand risen = false
is_last turned.Posted in_hand risen = false
