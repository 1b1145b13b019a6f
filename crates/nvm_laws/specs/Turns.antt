-- What the device is asked for, and what its turn comes to.
use Rattle.std.specs.Prelude.{◌≡◌, ℕ, length, option_map, Option, Some, None}
use Rattle.memif.specs.Told.{Stand, Open, Ended}
use Rattle.memif.specs.Calls.{Wish}
use Rattle.memif.specs.declared.answer.DeviceTurn.{DeviceTurn}
use Rattle.memif.specs.declared.answer.DeviceTurn.TheVariants as turn
use Rattle.block_machine.specs.Words.{Mark, Content, Entry, Off, Configuration}
use Rattle.block_machine.specs.State.{Job}
use Rattle.block_machine.specs.Blocks.{desc_of, job_block}
use Rattle.block_machine.specs.Legal.{IsAllowed}
use Rattle.nvm_device_laws.specs.Outcomes.{outcome_by}
use Rattle.nvm_device_laws.specs.Turn.{settled_by}
use Rattle.nv_desk_copies.specs.nv_desk.Desk.{DeskState, state_of}
use Rattle.job_progress.specs.Hand.{HandState, ended}
use Rattle.job_progress.specs.JobInHand.{job_for}
use Rattle.job_progress.specs.Begins.{hand_for}
use Rattle.nvm_laws.specs.Halves.{Adds}

-- THE JOB IN HAND
-- the driver's hand of the machine's job in hand, if there is one
abbrev pub hand_in : DeskState → Option HandState
hand_in desk = option_map (hand_for desk.config (state_of desk)) (state_of desk).hand

-- THE START OF AN OPERATION
-- the length that a start is given: a read's is its block's, a write's that of its content
abbrev pub given_length : ℕ → Option Mark → Option ℕ
given_length size None = Some size
given_length size (Some (Content bytes)) = Some (length bytes)
given_length size (Some mark) = None

-- what the start of the job in hand asks for, on the instance of this index
abbrev pub wish_for : Configuration → HandState → Job → ℕ → Wish
wish_for c h j index = record { job = job_for c j h.program index; length = given_length (desc_of c (job_block j)).length (job_for c j h.program index).mark }

-- THE DEVICE'S TURN
-- the entry that a turn asks for: an Off where the power is off, or the Wrote of a mark that was settled
abbrev pub entry_by : DeviceTurn → Stand → Stand → ℕ → Option Entry
entry_by turn.Off old new ops = Some (Off ops)
entry_by answer old new ops = settled_by old new ops

-- it is added, as the machine allows it; where there is none the desk is as it was
abbrev pub AddsBy : Option Entry → DeskState → DeskState → Type 0
AddsBy None old new = new ≡ old
AddsBy (Some e) old new = Adds e old new × IsAllowed old.config old.cap (state_of old) e

-- the job in hand goes on by what its operation came to
abbrev pub hand_by : Stand → Stand → Option HandState → Option HandState
hand_by (Open j) (Ended r given) (Some h) = Some (ended (outcome_by j.mark r) h)
hand_by old new hand = hand
