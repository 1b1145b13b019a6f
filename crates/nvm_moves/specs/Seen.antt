-- A stack at a moment, all told.
use Rattle.std.specs.Prelude.{◌+◌, ◌*◌, ℕ, if◌then◌else◌, Bool, not, option_map, Option, Some, None}
use Rattle.std.specs.Option.{option_map_or}
use Rattle.nvm_core.specs.memif.Told.{DeviceTold, Part, PartTold, Fixed, faults_of, is_open, nothing_open}
use Rattle.nvm_core.specs.memif.Clock.{Clock}
use Rattle.nvm_core.specs.block_machine.Words.{Configuration}
use Rattle.nvm_core.specs.block_machine.State.{State}
use Rattle.nvm_core.specs.nv_desk.Desk.{DeskState}
use Rattle.nvm_core.specs.job_progress.Hand.{HandState}
use Rattle.nvm_core.specs.job_progress.JobInHand.{program_for}
use Rattle.nvm_core.specs.nvm_figures.Left.{most_turns}
use Rattle.nvm_core.specs.nvm_laws.Keeps.{StackKeepsAsTold}
use Rattle.nvm_core.specs.Stack.{StackState, PowersOff}
use Rattle.nvm_core.specs.Work.{left_with}
use Rattle.nvm_core.specs.DeviceWork.{tries_left, work_in}
use Rattle.nvm_core.specs.promise_blocks.Work.{Work}
use Rattle.promise_run.specs.Turns.{Moment}
use Rattle.nvm_moves.specs.Along.{Frame}

-- where a turn began that is under way, at the device
pub record Begun : Type 0 where
  pub state : State
  pub hand : Option HandState
  pub device : DeviceTold

pub record Seen : Type 1 where
  pub begun : Option Begun
  pub desk : DeskState
  pub hand : Option HandState
  pub device : DeviceTold
  pub clock : Clock
  -- what is kept, by what was told before the first start-up
  pub kept : (Part → PartTold) → Type 0
  -- what is known of power cuts where urgent writes are served
  pub uncut : Type 0

-- The first half of a turn that goes to the device opens something at it, and its move comes only behind its second half: until then what is
-- open is what was when the turn began.
abbrev pub device_begun : Option Begun → DeviceTold → DeviceTold
device_begun o d = option_map_or (λ b. b.device) o d

abbrev pub hand_begun : Option Begun → Option HandState → Option HandState
hand_begun o h = option_map_or (λ b. b.hand) o h

abbrev pub moment_by : Option Begun → DeviceTold → Moment
moment_by o d = record { faults = faults_of d; ops = d.ops; busy = not (nothing_open (device_begun o d)) }

abbrev pub moment_seen : Seen → Moment
moment_seen s = moment_by s.begun s.device

-- the turns that are left of the job in hand, where no fault comes
abbrev pub left_seen : Seen → ℕ
left_seen s = left_with (hand_begun s.begun s.hand) (device_begun s.begun s.device)

-- Those that are left in all, whatever fails: for each try that isn't started the most of the job and one more; what is open and two
-- more, where a job is open; and else one.
abbrev pub all_with : Option HandState → DeviceTold → ℕ
all_with None d = 0
all_with (Some h) d = tries_left (Some h) (is_open d.stand) * (most_turns d.fixed h.program + 1) + (if is_open d.stand then d.left + 2 else 1)

abbrev pub all_seen : Seen → ℕ
all_seen s = all_with (hand_begun s.begun s.hand) (device_begun s.begun s.device)

-- the most turns of the job in hand, by its program
abbrev pub most_by : Option Begun → Option HandState → Fixed → Option ℕ
most_by o h f = option_map (λ x. most_turns f x.program) (hand_begun o h)

abbrev pub most_seen : Seen → Option ℕ
most_seen s = most_by s.begun s.hand s.device.fixed

-- what the device is at
abbrev pub work_seen : Seen → Work
work_seen s = work_in (hand_begun s.begun s.hand) (device_begun s.begun s.device)

abbrev pub frame_in : (within : Bool) → Configuration → Fixed → Frame
frame_in within c f = record { config = c; most = λ t j. most_turns f (program_for c t j); within = within }

abbrev pub frame_of : (within : Bool) → Seen → Frame
frame_of within s = frame_in within s.desk.config s.device.fixed

-- A STACK OF ONE'S OWN
-- between its turns, by what is kept of it
abbrev pub seen_as : {D C : Type 0} → (told : D → DeviceTold) → (clock : D → Clock) → ((Part → PartTold) → Type 0) → StackState D C → Seen
seen_as told clock kept s = record { begun = None; desk = s.desk; hand = s.hand; device = told s.device; clock = clock s.device; kept = kept; uncut = PowersOff s.desk (told s.device) }

-- while it is up
abbrev pub seen_in : {D C : Type 0} → (told : D → DeviceTold) → (clock : D → Clock) → StackState D C → Seen
seen_in told clock s = seen_as told clock (λ before. StackKeepsAsTold before s.desk s.hand (told s.device) (clock s.device)) s
