-- Where the moves of a history begin.
use Rattle.std.specs.Prelude.{◌≡◌, ◌≤◌, ℕ, nat_lt, if◌then◌else◌, List, [], ◌∷◌, None}
use Rattle.nvm_core.specs.memif.Told.{Fixed, Part, PartTold, faults_of}
use Rattle.nvm_core.specs.block_machine.Words.{Configuration, Instance, Mark, Found}
use Rattle.nvm_core.specs.block_machine.State.{State, Job}
use Rattle.nvm_core.specs.job_progress.JobInHand.{program_for}
use Rattle.nvm_core.specs.nvm_figures.Left.{most_turns}
use Rattle.nvm_core.specs.DeviceWork.{IsSimple, costs_in}
use Rattle.nvm_core.specs.DueWrites.{pages_in}
use Rattle.nvm_core.specs.promise_blocks.Work.{Costs}
use Rattle.promise_run.specs.JobTurns.{job_turns, job_turns_of_both, write_pages}
use Rattle.promise_run.specs.Operations.{costs_of, costs_of_both}
use Rattle.promise_run.specs.Promise.{making_of}
use Rattle.nvm_moves.specs.Moved.{Owes}
use Rattle.nvm_moves.specs.Seen.{Seen, work_seen}
use Rattle.nvm_moves.specs.Served.{HasBlocks, OfFirst}

-- Behind the first start-up: its entry is the only one, and the device makes so much of its work at most, by its configuration. Of such
-- blocks, all of its first part, it is said that urgent writes are posted soon. No cut stands in the way, no try is open, and nothing is left,
-- unless a fault was counted: then a switch at most goes on. Nothing is owed for any fault yet, and all is kept.
pub record BeginsMovesBy (work : Configuration → Costs) (turns : Configuration → State → Job → ℕ) (of : Fixed → ℕ → Type 0) (s : Seen) : Type 0 where
  pub between : s.begun ≡ None
  pub marks : List (Instance × Mark)
  pub entries : s.desk.entries ≡ Found marks s.device.ops ∷ []
  pub first : (id : ℕ) → of s.device.fixed id → OfFirst s.device.fixed id
  pub pages : (x : State) (id : ℕ) → of s.device.fixed id → pages_in s.device.fixed s.desk.config x id ≡ write_pages s.desk.config x id
  pub reserve : s.device.fixed.reserve ≡ (making_of s.desk.config).reserve
  pub costs : costs_in s.device.fixed ≡ work s.desk.config
  pub most : (λ (x : State) (j : Job). most_turns s.device.fixed (program_for s.desk.config x j)) ≡ turns s.desk.config
  pub simple : IsSimple s.device.fixed
  pub blocks : HasBlocks s.desk.config s.device.fixed
  pub left : ℕ
  pub few : left ≤ (if nat_lt 0 (faults_of s.device) then s.device.fixed.own else 0)
  pub is : record { left = left; trying = None; tries = 0 } ≡ work_seen s
  pub owes : Owes (faults_of s.device) s
  pub uncut : s.uncut
  pub before : Part → PartTold
  pub kept : s.kept before

-- over a device of one part, of all blocks
abbrev pub BeginsMoves : Seen → Type 0
BeginsMoves s = BeginsMovesBy costs_of job_turns (λ f id. Unit {0}) s

-- over one of two parts, of the blocks of the first one
abbrev pub BeginsMovesOfBoth : Seen → Type 0
BeginsMovesOfBoth s = BeginsMovesBy costs_of_both job_turns_of_both OfFirst s
