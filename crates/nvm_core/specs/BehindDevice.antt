-- What the device's turn came to.
use Rattle.std.specs.Prelude.{◌≡◌, ◌≤◌, ℕ, false, true, List, Option, Some, None}
use Rattle.nvm_laws.specs.nv_base.declared.mark.Mark.{Mark}
use Rattle.nvm_laws.specs.nv_base.declared.instance.DeviceNumber.{DeviceNumber}
use Rattle.nvm_laws.specs.memif.Told as device
use Rattle.nvm_laws.specs.memif.Told.{DeviceTold, Stand, Open, Ended, is_off, length_of}
use Rattle.nvm_laws.specs.memif.Clock.{Clock}
use Rattle.nvm_laws.specs.memif.Calls.{Gives, Turns}
use Rattle.nvm_laws.specs.memif.declared.answer.DeviceTurn.{DeviceTurn}
use Rattle.nvm_laws.specs.memif.declared.answer.DeviceTurn.TheVariants as turn
use Rattle.nvm_laws.specs.memif.declared.answer.JobResult.{JobResult}
use Rattle.nvm_laws.specs.block_machine.Words.{Entry, Off}
use Rattle.nvm_laws.specs.block_machine.Legal.{IsDriving}
use Rattle.nvm_laws.specs.nvm_device_laws.Turn.{settled_by}
use Rattle.nvm_laws.specs.nv_desk.Desk.{DeskState, state_of}
use Rattle.nvm_laws.specs.job_progress.Hand.{HandState}
use Rattle.nvm_laws.specs.job_progress.JobInHand.{IsInHand}
use Rattle.nvm_laws.specs.Ties.{IsTied}
use Rattle.nvm_laws.specs.Turns.{AddsBy, entry_by, hand_by}
use Rattle.nvm_laws.specs.declared.turned.Turned.{Turned}
use Rattle.nvm_laws.specs.declared.turned.Turned.TheVariants as turned

-- THE DEVICE'S TURN
-- a job that ends gives its number's length where it is a read that ends well
abbrev pub GivesBy : Option Mark → JobResult → Option ℕ → List ℕ → Type 0
GivesBy None r length given = Gives r length given
GivesBy (Some mark) r length given = Unit {0}

-- the open job stays open, or it ends
abbrev pub StandTurns : List (DeviceNumber × ℕ) → Stand → Stand → Type 0
StandTurns numbers (Open j) (Open j') = j' ≡ j
StandTurns numbers (Open j) (Ended r given) = GivesBy j.mark r (length_of numbers j.number) given
StandTurns numbers (Ended r given) new = new ≡ Ended r given

abbrev pub StandsAs : DeviceTurn → DeviceTold → DeviceTold → Type 0
StandsAs turn.Idle old new = new.stand ≡ old.stand
StandsAs turn.Worked old new = StandTurns old.fixed.numbers old.stand new.stand
StandsAs turn.Off old new = (new.stand ≡ old.stand) × (is_off new ≡ true)

-- a turn, without what its clock tells
pub record HasTurned (answer : DeviceTurn) (old new : DeviceTold) : Type 0 where
  pub fixed : new.fixed ≡ old.fixed
  pub started : new.started ≡ old.started
  pub later : device.ops_of old ≤ device.ops_of new
  pub stand : StandsAs answer old new

-- the desk and the hand were tied to the device before its turn, and the machine's power is on
pub record IsBehindTurn (answer : DeviceTurn) (desk : DeskState) (hand : Option HandState) (old new : DeviceTold) : Type 0 where
  pub tied : IsTied desk hand old
  pub on : (state_of desk).off ≡ false
  pub turned : HasTurned answer old new

-- the job in hand, at a device that made a turn with it
pub record IsAtWork (desk : DeskState) (h : HandState) (old new : DeviceTold) : Type 0 where
  pub in_hand : IsInHand desk.config (state_of desk) h old
  pub driving : IsDriving (state_of desk) (device.ops_of new)
  pub stand : StandTurns old.fixed.numbers old.stand new.stand

-- WHAT IT COMES TO
-- the stack's answer for the device's
abbrev pub answer_by : DeviceTurn → Turned
answer_by turn.Idle = turned.Idle
answer_by turn.Worked = turned.Worked
answer_by turn.Off = turned.Off

-- What the second half makes of it, wherever the turn began: the stack's answer, the entry that it asks for, and the job in hand,
-- which goes on.
pub record TakesTurn (turned : DeviceTurn) (answer : Turned) (desk desk_new : DeskState) (hand hand_new : Option HandState) (now : DeviceTold) : Type 0 where
  pub answers : answer ≡ answer_by turned
  pub adds : (old : DeviceTold) → IsBehindTurn turned desk hand old now → AddsBy (entry_by turned old.stand now.stand (device.ops_of now)) desk desk_new
  pub goes : (old : DeviceTold) → IsBehindTurn turned desk hand old now → hand_new ≡ hand_by old.stand now.stand hand

-- the entry that a turn asks for, by the stack's answer: an Off where the power is off, or the Wrote of a mark that was settled
abbrev pub asked_by : Turned → Stand → Stand → ℕ → Option Entry
asked_by turned.Off old new ops = Some (Off ops)
asked_by answer old new ops = settled_by old new ops

-- the device's turn, by the stack's answer
abbrev pub TurnsDevice : Turned → DeviceTold → Clock → DeviceTold → Clock → Type 0
TurnsDevice turned.Idle old clock new clock_new = Turns turn.Idle old clock new clock_new
TurnsDevice turned.Worked old clock new clock_new = Turns turn.Worked old clock new clock_new
TurnsDevice turned.Off old clock new clock_new = Turns turn.Off old clock new clock_new
TurnsDevice answer old clock new clock_new = ⊥
