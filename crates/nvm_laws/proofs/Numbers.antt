-- The length that a device has of a configured block's instance.
use Rattle.std.specs.Prelude.{◌==◌}
use Rattle.std.specs.List.{Contains}
use Rattle.std.proofs.Common.{◌≡◌, ◌≢◌, ◌⊎◌, ℕ, zero, suc, ◌+◌, ◌*◌, ◌/◌, ◌≤◌, ◌<◌, true, false, if◌then◌else◌, List, [], ◌∷◌, length, get_or, Some, refl, ap, ◌∙◌, inl, inr, arith}
use Rattle.std.proofs.lemmas.Bool.Decides.{eqb_tells}
use Rattle.std.proofs.Math.Dec.{eqb}
use Rattle.block_machine.specs.nv_base.declared.instance.DeviceNumber.{DeviceNumber}
use Rattle.memif.specs.Told.{length_of}
use Rattle.block_machine.specs.block_config.Lengths.{length_at, lengths_of}
use Rattle.block_machine.specs.block_config.Rules.{IsLegalConfig}
use Rattle.block_machine.specs.block_config.Sizes.{instances_of}
use Rattle.block_machine.specs.Words.{Configuration}
use Rattle.block_machine.specs.Blocks.{desc_of}
use Rattle.block_laws.proofs.InstanceNumbers.{listed_at, own_length}

-- the first that has a number has its length, as all have
first_of : (xs : List (DeviceNumber × ℕ)) (n size : ℕ) → ((x : DeviceNumber × ℕ) → Contains xs x → x.0.0 ≡ n → x.1 ≡ size)
    → (x : DeviceNumber × ℕ) → Contains xs x → x.0.0 ≡ n → length_of xs n ≡ Some size
first_of [] n size all x has is = absurd (omega (arith, has.1))
first_of (y ∷ ys) n size all x has is =
    by (eqb_tells y.0.0 n) (λ here. first_of ys n size (λ z found same. all z (suc found.0, omega (arith, found.1), found.2) same) x here is)
  where
    rest : y.0.0 ≢ n → (k : ℕ) → k < length (y ∷ ys) → get_or (y ∷ ys) k x ≡ x → Contains ys x
    rest other zero within at = absurd (other (ap (λ (z : DeviceNumber × ℕ). z.0.0) at ∙ is))
    rest other (suc k) within at = (k, omega (arith, within), at)

    by : ((eqb y.0.0 n ≡ true) × (y.0.0 ≡ n)) ⊎ ((eqb y.0.0 n ≡ false) × (y.0.0 ≢ n)) → (Contains ys x → length_of ys n ≡ Some size)
        → (if y.0.0 == n then Some y.1 else length_of ys n) ≡ Some size
    by (inl (on, same)) later = rw on (ap Some (all y (0, omega arith, refl) same))
    by (inr (off, other)) later = rw off (later (rest other has.0 has.1 has.2))

pub length_is : (c : Configuration) (block index : ℕ) → IsLegalConfig c → block ≢ 0 → block ≤ length c.blocks → index < instances_of (desc_of c block) → index ≤ 63
    → length_of (lengths_of c) (block * 64 + index) ≡ Some (desc_of c block).length
length_is c block index rules named known few small =
    first_of (lengths_of c) (block * 64 + index) (desc_of c block).length
    (λ x has is. own_length c x rules has ∙ (let at : x.0.0 / 64 ≡ block = omega (arith, is, small) in ap (λ (n : ℕ). (desc_of c n).length) at))
    (length_at block (desc_of c block).length index) (listed_at c block index named known few) refl
