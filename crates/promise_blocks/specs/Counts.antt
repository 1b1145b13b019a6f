-- How often an instance was written, against what a history says of it.
use Rattle.std.specs.Prelude.{◌≡◌, ◌≢◌, ◌⊎◌, ◌+◌, ℕ, List, [], ◌∷◌, if◌then◌else◌, Contains, Option, Some, None}
use Rattle.block_machine.specs.nv_base.Cell.{Cell}
use Rattle.block_machine.specs.nv_base.declared.instance.DeviceNumber.{DeviceNumber}
use Rattle.block_machine.specs.nv_base.Marks.{instance_of}
use Rattle.block_machine.specs.block_config.Lengths.{lengths_of}
use Rattle.memif.specs.Told.{Held, more_writes}
use Rattle.block_machine.specs.Words.{Instance, Entry, Wrote, Found, Configuration}
use Rattle.block_machine.specs.State.{InstanceState}
use Rattle.block_machine.specs.Blocks.{instance_at, same_instance}
use Rattle.block_machine.specs.Steps.{after}

-- THE WRITES SINCE A START-UP
-- the Wrotes of an instance since the last Found, behind so many
abbrev pub wrotes_with : Instance → ℕ → Entry → ℕ
wrotes_with i n (Found marks ops) = 0
wrotes_with i n (Wrote w mark ops) = if same_instance w i then n + 1 else n
wrotes_with i n e = n

abbrev pub wrotes_from : Instance → ℕ → List Entry → ℕ
wrotes_from i n [] = n
wrotes_from i n (e ∷ es) = wrotes_from i (wrotes_with i n e) es

abbrev pub wrotes : Instance → List Entry → ℕ
wrotes i h = wrotes_from i 0 h

-- the operations of the last Found, behind one with these
abbrev pub found_with : Option ℕ → Entry → Option ℕ
found_with o (Found marks ops) = Some ops
found_with o e = o

abbrev pub found_from : Option ℕ → List Entry → Option ℕ
found_from o [] = o
found_from o (e ∷ es) = found_from (found_with o e) es

abbrev pub last_found : List Entry → Option ℕ
last_found h = found_from None h

-- COUNTS

-- the count of an instance that is due, where so many were found
abbrev pub count_due : List Entry → (ℕ → ℕ) → ℕ → ℕ
count_due h found n = more_writes (wrotes (instance_of (record { 0 = n })) h) (found n)

-- it stands there, or one more where a job took a mark since the last Wrote
abbrev pub MayCount : Cell → ℕ → ℕ → Type 0
MayCount cell due count = (count ≡ due) ⊎ ((count ≡ more_writes 1 due) × (cell.doubts ≢ []))

abbrev pub MayCountIn : Option InstanceState → ℕ → ℕ → Type 0
MayCountIn (Some x) due count = MayCount x.cell due count
MayCountIn None due count = ⊥

-- the counts of what is held, number by number
abbrev pub counts_in : (ℕ → Held) → ℕ → ℕ
counts_in held n = (held n).count

-- so it is of each configured instance
abbrev pub KeepsCounts : Configuration → List Entry → (ℕ → ℕ) → (ℕ → ℕ) → Type 0
KeepsCounts c h found now =
    (x : DeviceNumber × ℕ) → Contains (lengths_of c) x → MayCountIn (instance_at (after c h) (instance_of x.0)) (count_due h found x.0.0) (now x.0.0)
