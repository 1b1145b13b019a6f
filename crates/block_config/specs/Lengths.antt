-- The device numbers of a configuration with their lengths.
use Rattle.std.specs.Prelude.{ℕ, ◌+◌, ◌*◌, ◌==◌, if◌then◌else◌, List, [], ◌∷◌, ◌++◌, map, Option, Some, None}
use Rattle.std.specs.List.{range_with_len}
use Rattle.nv_base.specs.declared.instance.DeviceNumber.{DeviceNumber}
use Rattle.block_config.specs.declared.block.BlockDesc.{BlockDesc}
use Rattle.block_config.specs.Config.{Configuration}
use Rattle.block_config.specs.Sizes.{instances_of}

-- the device number of an instance, with its length
abbrev pub length_at : ℕ → ℕ → ℕ → DeviceNumber × ℕ
length_at id n index = (record { 0 = id * 64 + index }, n)

-- the instances of the block with this id, by index
abbrev pub block_lengths : ℕ → BlockDesc → List (DeviceNumber × ℕ)
block_lengths id b = map (length_at id b.length) (range_with_len 0 (instances_of b))

-- the instances of these blocks, whose ids count from this one on
abbrev pub lengths_from : ℕ → List BlockDesc → List (DeviceNumber × ℕ)
lengths_from id [] = []
lengths_from id (b ∷ bs) = block_lengths id b ++ lengths_from (id + 1) bs

abbrev pub lengths_of : Configuration → List (DeviceNumber × ℕ)
lengths_of c = lengths_from 1 c.blocks

-- the instances of a block where this device stores it, or whatever device does
abbrev pub stored_lengths : Option ℕ → ℕ → BlockDesc → List (DeviceNumber × ℕ)
stored_lengths None id b = block_lengths id b
stored_lengths (Some device) id b = if b.device == device then block_lengths id b else []

abbrev pub lengths_by : Option ℕ → ℕ → List BlockDesc → List (DeviceNumber × ℕ)
lengths_by device id [] = []
lengths_by device id (b ∷ bs) = stored_lengths device id b ++ lengths_by device (id + 1) bs

-- the instances that a device stores
abbrev pub device_lengths : ℕ → Configuration → List (DeviceNumber × ℕ)
device_lengths device c = lengths_by (Some device) 1 c.blocks
