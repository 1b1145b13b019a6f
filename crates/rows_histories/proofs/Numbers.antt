-- The instances of a configuration and their device numbers.
use Rattle.std.specs.List.{Contains}
use Rattle.std.proofs.Common.{◌≡◌, ◌<◌, ◌+◌, ◌*◌, ◌/◌, ◌%◌, ℕ, zero, suc, length, subst, arith, Some}
use Rattle.std.proofs.lemmas.Option.{slice_get_within}
use Rattle.block_machine.specs.nv_base.Marks.{instance_of}
use Rattle.block_machine.specs.nv_base.declared.instance.Instance.{Instance}
use Rattle.block_machine.specs.nv_base.declared.instance.DeviceNumber.{DeviceNumber}
use Rattle.block_machine.specs.block_config.declared.block.BlockDesc.{BlockDesc}
use Rattle.block_machine.specs.block_config.Config.{Configuration, block_of}
use Rattle.block_machine.specs.block_config.Lengths.{length_at, lengths_of}
use Rattle.block_machine.specs.block_config.Rules.{IsLegalConfig}
use Rattle.block_machine.specs.block_config.Sizes.{instances_of}
use Rattle.block_laws.proofs.InstanceNumbers.{AreFew, blocks_few, few_in, listed_in, is_of}
use Rattle.rows_histories.specs.Instances.{IsConfigured}

pub pair_same : (a b m n : ℕ) → a ≡ b → m ≡ n → let x : Instance = record { block = a; index = m } in let y : Instance = record { block = b; index = n } in x ≡ y
pair_same a b m n p q = cc

-- FROM AN INSTANCE TO ITS NUMBER
numbered_at : (c : Configuration) (id index : ℕ) (b : BlockDesc) → AreFew c.blocks → block_of c id ≡ Some b → index < instances_of b
    → (n : DeviceNumber × ℕ) × Contains (lengths_of c) n × (instance_of n.0 ≡ record { block = id; index = index })
numbered_at c zero index b few at within = cc
numbered_at c (suc k) index b few at within =
    let low = few_in c.blocks k b few at in (
      length_at (1 + k) b.length index,
      listed_in 1 c.blocks k b index at within,
      pair_same (((1 + k) * 64 + index) / 64) (suc k) (((1 + k) * 64 + index) % 64) index (omega (arith, low, within)) (omega (arith, low, within)),
    )

-- a configured instance has a number
pub numbered : (c : Configuration) (i : Instance) → IsLegalConfig c → IsConfigured c i → (n : DeviceNumber × ℕ) × Contains (lengths_of c) n × (instance_of n.0 ≡ i)
numbered c i legal is = numbered_at c i.block i.index is.block (blocks_few c.id c.blocks legal.blocks_legal) is.stands is.index

block_within : (c : Configuration) (id : ℕ) (b : BlockDesc) → block_of c id ≡ Some b → id < length c.blocks + 1
block_within c zero b at = omega arith
block_within c (suc k) b at = omega (arith, slice_get_within c.blocks k b at)

pub is_within : (c : Configuration) (i : Instance) → IsConfigured c i → i.block < length c.blocks + 1
is_within c i is = block_within c i.block is.block is.stands

-- FROM A NUMBER TO ITS INSTANCE
-- each number is of a configured instance
pub configured : (c : Configuration) (x : DeviceNumber × ℕ) → IsLegalConfig c → Contains (lengths_of c) x → IsConfigured c (instance_of x.0)
configured c x legal has =
    let of = is_of c x legal has in
    let block : suc of.place ≡ x.0.0 / 64 = let is = of.id_is in omega (arith, is) in
    record { block = of.block; stands = subst (λ (id : ℕ). block_of c id ≡ Some of.block) block of.stands; index = of.index }

no_first : (c : Configuration) (id : ℕ) (b : BlockDesc) → id < 1 → block_of c id ≡ Some b → ⊥
no_first c zero b less at = cc
no_first c (suc k) b less at = omega (arith, less)

-- block id 0 isn't configured
pub is_none : (c : Configuration) (i : Instance) → i.block < 1 → IsConfigured c i → ⊥
is_none c i less is = no_first c i.block is.block less is.stands
