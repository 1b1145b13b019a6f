-- A second device of a run, beside the one over banks, over a flash of its own.
use Rattle.std.specs.Prelude.{◌≡◌, ◌⊎◌, ◌+◌, ℕ, zero, suc, Bool, true, false, if◌then◌else◌, List, [], ◌∷◌, Some}
use Rattle.std.specs.Bool.{beq}
use Rattle.block_machine.specs.Words.{Entry, Configuration}
use Rattle.block_machine.specs.Steps.{after}
use Rattle.block_machine.specs.History.{up_to}
use Rattle.memif.specs.Told.{IfElse}
use Rattle.promise_blocks.specs.Operations.{is_on}
use Rattle.promise_device.specs.FlashRun.{FlashRun, IsCutImage, bytes_after}
use Rattle.promise_device.specs.Reading.{Reading}

-- Its flash, what it makes of the bytes of that flash, and the blocks that are its.
pub record Beside : Type 0 where
  pub flash : FlashRun
  pub reading : Reading
  pub blocks : ℕ → Bool

-- WHICH OPERATION IS WHOSE

-- a job on one of its blocks was in hand at this operation, by the history alone
abbrev pub is_beside : Configuration → List Entry → Beside → ℕ → Bool
is_beside c h b k = is_on b.blocks (after c (up_to k h)).hand

-- of the first k operations of both devices those of the second one, or those of the first one
abbrev pub ops_of : Bool → Configuration → List Entry → Beside → ℕ → ℕ
ops_of second c h b zero = 0
ops_of second c h b (suc k) = ops_of second c h b k + (if beq second (is_beside c h b k) then 1 else 0)

-- images that a power cut before or within operation k may leave: one of the flash of that operation, and the other flash's bytes
-- of that moment
abbrev pub AreCutImages : Configuration → List Entry → FlashRun → Beside → ℕ → List ℕ → List ℕ → Type 0
AreCutImages c h f b k image other = IfElse (is_beside c h b k)
    ((bytes_after f (ops_of false c h b k) ≡ Some image) × IsCutImage b.flash (ops_of true c h b k) other)
    (IsCutImage f (ops_of false c h b k) image × (bytes_after b.flash (ops_of true c h b k) ≡ Some other))

-- the planned cuts of both, in their order
abbrev pub IsMerged : List ℕ → List ℕ → List ℕ → Type 0
IsMerged own other [] = (own ≡ []) × (other ≡ [])
IsMerged own other (k ∷ ks) = ((rest : List ℕ) × (own ≡ k ∷ rest) × IsMerged rest other ks) ⊎ ((rest : List ℕ) × (other ≡ k ∷ rest) × IsMerged own rest ks)
