-- Requests and turns of a stack that is up, each with all that is told of it.
use Rattle.std.specs.Prelude.{◌≡◌, ◌≤◌, ◌++◌, ◌∷◌, ◌↔◌, ℕ, zero, suc, true, false, [], List, Result, Ok, Err, IfOk, OnErr, IsErrOf}
use Rattle.nvm_moves.specs.memif.Told.{DeviceTold, faults_of}
use Rattle.nvm_moves.specs.memif.Calls.{FreesReady, InOrder}
use Rattle.nvm_moves.specs.memif.Clock.{Clock}
use Rattle.nvm_moves.specs.memif.Trials.{Lasts}
use Rattle.nvm_moves.specs.block_machine.Words.{Request, Reply, Accepted, Ask}
use Rattle.nvm_moves.specs.block_machine.Reply.{fits, reply_of}
use Rattle.nvm_moves.specs.ram_blocks.Told.{Told}
use Rattle.nvm_moves.specs.nv_desk.Desk.{state_of}
use Rattle.nvm_moves.specs.nv_desk.declared.ask.AskFault.{AskFault}
use Rattle.nvm_moves.specs.nv_desk.declared.ask.AskFault.TheVariants as fault
use Rattle.nvm_moves.specs.nv_desk_copies.Front.{AreSynchronized}
use Rattle.nvm_moves.specs.nvm_laws.DueCalls.{KeepsDue, TurnServesDue}
use Rattle.nvm_moves.specs.nvm_laws.Keeps.{StaysKept}
use Rattle.nvm_moves.specs.nvm_laws.Ties.{IsTied}
use Rattle.nvm_moves.specs.nvm_laws.Traits.{KeepsSeal, TakesKeptInHand}
use Rattle.nvm_moves.specs.nvm_laws.declared.turned.Turned.{Turned}
use Rattle.nvm_moves.specs.nvm_core.Due.{AcceptsDue, now_of}
use Rattle.nvm_moves.specs.nvm_core.Paying.{TurnPays}
use Rattle.nvm_moves.specs.nvm_core.Stack.{StackState, PowersOff}
use Rattle.nvm_moves.specs.nvm_core.Turns.{Turns}
use Rattle.nvm_moves.specs.nvm_core.Work.{Lowers, TakesTurns}
use Rattle.uds_gateway.specs.declared.stop.ServeStop.{ServeStop}
use Rattle.uds_gateway.specs.declared.stop.ServeStop.TheVariants.{Off, NoRoom, Memory}
use Rattle.uds_gateway.specs.Turning.{ComesToPost, ComesToOff}

-- a request of a caller: what its call tells, and what the device tells before it
pub record IsRequested {D C : Type 0} (told : D → DeviceTold) (clock : D → Clock) (caller : ℕ) (r : Request) (result : Result Reply AskFault) (old new : StackState D C) : Type 0 where
  pub ready : old.ready ≡ true
  pub replies : IfOk result (λ reply. reply ≡ reply_of old.desk.config old.desk.cap (state_of old.desk) r)
  pub adds : IfOk result (λ reply. new ≡ record old { desk = record old.desk { entries = old.desk.entries ++ Ask caller r reply ∷ [] } })
  pub same : OnErr result (new ≡ old)
  pub no_room : IsErrOf result fault.NoRoom ↔ fits old.desk.config old.desk.cap (state_of old.desk) 1 ≡ false
  pub keeps : StaysKept old.desk old.hand (told old.device) (clock old.device) new.desk new.hand (told new.device) (clock new.device)
  pub accepted : AcceptsDue told r result old new
  pub due : KeepsDue (now_of told old) (now_of told new)
  pub tied : IsTied old.desk old.hand (told old.device)
  pub order : InOrder (told old.device) (clock old.device)
  pub frees : FreesReady (told old.device) (clock old.device)

module _ {D C : Type 0} (told : D → DeviceTold) (clock : D → Clock) (copies : C → List Told)
    (is_store : C → ℕ → ℕ → List ℕ → Type 0) (looked : C → C → ℕ → ℕ → Type 0) where
  -- a turn: what its call tells, and what the device tells before it and behind it
  pub record IsTurned (answer : Turned) (old new : StackState D C) : Type 0 where
    pub ready : old.ready ≡ true
    pub turns : Turns told clock copies is_store looked answer old new
    pub keeps : StaysKept old.desk old.hand (told old.device) (clock old.device) new.desk new.hand (told new.device) (clock new.device)
    pub counted : faults_of (told old.device) ≤ faults_of (told new.device)
    pub lowers : Lowers told answer old new
    pub left : TakesTurns told answer old new
    pub lasts : Lasts (told old.device) (clock old.device) (told new.device) (clock new.device)
    pub pays : TurnPays told clock old new
    pub due : TurnServesDue (now_of told old) (now_of told new)
    pub seals : KeepsSeal (told old.device) (clock old.device) (told new.device) (clock new.device)
    pub kept : TakesKeptInHand old.desk (told old.device) (told new.device) (clock new.device)
    pub tied : IsTied old.desk old.hand (told old.device)
    pub power : PowersOff old.desk (told old.device)
    pub synchronized : AreSynchronized old.desk.config (copies old.copies)
    pub order : InOrder (told old.device) (clock old.device)
    pub tied_behind : IsTied new.desk new.hand (told new.device)
    pub power_behind : PowersOff new.desk (told new.device)
    pub order_behind : InOrder (told new.device) (clock new.device)

  -- so many turns, one behind another
  abbrev pub MakesTurns : ℕ → StackState D C → StackState D C → Type 0
  MakesTurns zero old new = new ≡ old
  MakesTurns (suc n) old new = (between : StackState D C) × MakesTurns n old between × ((answer : Turned) × IsTurned answer between new)

  -- The job of a request of caller 0: where it is accepted turns are made to its Post, or the power goes off; a reply that doesn't accept
  -- stands alone; and its Ask has no room, or no memory was found.
  abbrev pub MakesJob : Request → Result Reply ServeStop → StackState D C → StackState D C → Type 0
  MakesJob r (Ok Accepted) old new =
      (mid : StackState D C) × IsRequested told clock 0 r (Ok Accepted) old mid × ((n : ℕ) × MakesTurns (suc n) mid new) × ComesToPost r mid.desk new.desk
  MakesJob r (Ok reply) old new = IsRequested told clock 0 r (Ok reply) old new
  MakesJob r (Err Off) old new =
      (mid : StackState D C) × IsRequested told clock 0 r (Ok Accepted) old mid × ((n : ℕ) × MakesTurns (suc n) mid new) × ComesToOff mid.desk new.desk
  MakesJob r (Err NoRoom) old new = IsRequested told clock 0 r (Err fault.NoRoom) old new
  MakesJob r (Err Memory) old new = IsRequested told clock 0 r (Err fault.Memory) old new
