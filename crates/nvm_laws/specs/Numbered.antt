-- The device numbers of a job in hand.
use Rattle.std.specs.Prelude.{◌≡◌, ◌≢◌, ◌≤◌, ℕ, true, length, is_some, Some}
use Rattle.std.specs.List.{Contains}
use Rattle.block_machine.specs.nv_base.Marks.{number_of}
use Rattle.memif.specs.Told.{DeviceTold, length_of}
use Rattle.block_machine.specs.block_config.Lengths.{lengths_of}
use Rattle.block_machine.specs.block_config.Rules.{IsLegalConfig}
use Rattle.block_machine.specs.Words.{Configuration}
use Rattle.block_machine.specs.State.{State, Job}
use Rattle.block_machine.specs.Blocks.{job_block}
use Rattle.job_progress.specs.Hand.{HandState}
use Rattle.job_progress.specs.JobInHand.{IsInHand}

-- an instance of a block has a number, which is a configured one
pub record HasNumber (c : Configuration) (block index : ℕ) : Type 0 where
  pub block_fits : block ≤ 512
  pub index_fits : index ≤ 63
  pub configured : is_some (length_of (lengths_of c) (number_of (record { block = block; index = index }))) ≡ true

-- so has each that a job in hand works on, where its block is a configured one
abbrev pub HandsAreNumbered : Type 0
HandsAreNumbered =
    (c : Configuration) (s : State) (h : HandState) (d : DeviceTold) (j : Job) (index : ℕ) → IsLegalConfig c → IsInHand c s h d → s.hand ≡ Some j
    → job_block j ≢ 0 → job_block j ≤ length c.blocks → Contains h.program.indices index → HasNumber c h.program.block index
