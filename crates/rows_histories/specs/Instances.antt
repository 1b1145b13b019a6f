-- The instances of a configuration.
use Rattle.std.specs.Prelude.{◌≡◌, ◌<◌, ℕ, Some}
use Rattle.block_machine.specs.nv_base.declared.instance.Instance.{Instance}
use Rattle.block_machine.specs.block_config.declared.block.BlockDesc.{BlockDesc}
use Rattle.block_machine.specs.block_config.Config.{Configuration, block_of}
use Rattle.block_machine.specs.block_config.Sizes.{instances_of}

-- its block is configured, and has so many instances at least
pub record IsConfigured (c : Configuration) (i : Instance) : Type 0 where
  pub block : BlockDesc
  pub stands : block_of c i.block ≡ Some block
  pub index : i.index < instances_of block

-- P holds of each configured instance of this block
abbrev pub EachIndexOf : Configuration → ℕ → (Instance → Type 0) → Type 0
EachIndexOf c id P = (index : ℕ) → IsConfigured c (record { block = id; index = index }) → P (record { block = id; index = index })

-- and of each block
abbrev pub EachConfigured : Configuration → (Instance → Type 0) → Type 0
EachConfigured c P = (id : ℕ) → EachIndexOf c id P
