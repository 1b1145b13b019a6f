-- The device's work, in the promise's words.
use Rattle.std.specs.Prelude.{◌≡◌, ℕ, Bool, not, if◌then◌else◌, List, Option, Some, None}
use Rattle.nvm_laws.specs.memif.Told.{DeviceTold, Fixed, faults_of, figures_at, is_open, most_of, nothing_open}
use Rattle.nvm_laws.specs.block_machine.Words.{Configuration}
use Rattle.nvm_laws.specs.block_machine.State.{State}
use Rattle.nvm_laws.specs.promise_blocks.Payment.{Worn}
use Rattle.nvm_laws.specs.job_programs.Program.{operation, works}
use Rattle.nvm_laws.specs.job_progress.Hand.{HandState}
use Rattle.nvm_laws.specs.nvm_figures.Drain.{tries_ahead}
use Rattle.nvm_found.specs.Found.{ReadAtOnce}
use Rattle.nvm_core.specs.Operations.{TakesItsPages, left_on, number_tried}
use Rattle.nvm_laws.specs.promise_blocks.Moves.{Moment, Move}
use Rattle.nvm_laws.specs.promise_blocks.Work.{Costs, Work, Effort, AreWorked, work_behind}

-- by the device's figures
abbrev pub costs_in : Fixed → Costs
costs_in f = record {
  switch = f.own;
  pages = λ n. (figures_at f n).pages;
  most = λ kind n. if works kind then most_of (figures_at f n) (operation kind) else 0;
  reserve = f.reserve;
}

-- a device whose reads take a turn each, and whose numbers of the second part no more turns than their pages
pub record IsSimple (f : Fixed) : Type 0 where
  pub second : TakesItsPages f
  pub reads : ReadAtOnce f

-- of the job in hand, the tries that aren't started
abbrev pub tries_left : Option HandState → (busy : Bool) → ℕ
tries_left None busy = 0
tries_left (Some h) busy = tries_ahead h.program busy

-- what is open at the device, with this hand
abbrev pub work_in : Option HandState → DeviceTold → Work
work_in hand d = record { left = left_on d; trying = number_tried d.stand; tries = tries_left hand (is_open d.stand) }

-- what is told of it at a moment
abbrev pub moment_in : DeviceTold → Moment
moment_in d = record { faults = faults_of d; ops = d.ops; busy = not (nothing_open d) }

-- MOVES
-- from the work that was open before them to the work behind them
pub record AreWorkedTo (f : Costs) (room : (operations pages : ℕ) → Type 0) (worn : Worn) (c : Configuration) (before : Moment) (s : State) (w w_new : Work) (moves : List Move) : Type 0 where
  pub efforts : List Effort
  pub are : AreWorked f room worn c before s w moves efforts
  pub behind : work_behind w efforts ≡ w_new
