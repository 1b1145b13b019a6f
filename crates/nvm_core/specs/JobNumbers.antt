-- The numbers and the blocks of the pending jobs.
use Rattle.std.specs.Prelude.{◌≡◌, ◌<◌, ℕ, IfSome}
use Rattle.nvm_laws.specs.block_machine.State.{State}
use Rattle.nvm_laws.specs.block_machine.Blocks.{job_block}
use Rattle.nvm_laws.specs.block_laws.Consistent.{Each}

-- T holds of the number and the block of each pending job, and of the number of a sweep with any block
pub record AreAll (T : ℕ → ℕ → Type 0) (s : State) : Type 0 where
  pub waiting : Each (λ j. T j.number (job_block j)) s.waiting
  pub hand : IfSome s.hand (λ j. T j.number (job_block j))
  pub sweep : IfSome s.sweep (λ sw. (id : ℕ) → T sw.number id)

-- an entry has this number, and each pending job that it accepted is of this block
pub record IsOfBlock (number id : ℕ) (s : State) : Type 0 where
  pub earlier : number < s.count
  pub jobs : AreAll (λ n block. n ≡ number → block ≡ id) s
