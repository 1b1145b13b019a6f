-- What a Pick takes by copies.
use Rattle.std.specs.Prelude.{◌≡◌, ℕ, ◌+◌, Bool, true, false, List, Option, None}
use Rattle.block_machine.specs.nv_base.Count.{WereCounted}
use Rattle.block_machine.specs.Words.{JobKind, WriteJob, Taken, TookNothing, TookContent, TookRefused, TookStale, Configuration}
use Rattle.block_machine.specs.State.{Job}
use Rattle.block_machine.specs.Blocks.{desc_of, is_synchronized, job_block, kind_of}
use Rattle.block_machine.specs.Sweeps.{member_job}
use Rattle.block_machine.specs.Next.{Next, PickJob, PickMember}
use Rattle.ram_blocks.specs.Told.{Told, refusals_of, to_refuse_of}
use Rattle.ram_blocks.specs.Tries.{Spends, OthersStay}

-- a write without a content of its own copies out the RAM that it names, where that is synchronized; no other job does
abbrev pub copies_out_by : JobKind → Option (List ℕ × ℕ) → (synchronized : Bool) → Bool
copies_out_by WriteJob None synchronized = synchronized
copies_out_by kind content synchronized = false

abbrev pub copies_out_for : Configuration → Job → Bool
copies_out_for c j = copies_out_by (kind_of j) j.content (is_synchronized (desc_of c (job_block j)).ram)

-- the Pick that comes next does
abbrev pub copies_out_next : Configuration → Next → Bool
copies_out_next c (PickJob j) = copies_out_for c j
copies_out_next c (PickMember sw id) = copies_out_for c (member_job c sw id)
copies_out_next c next = false

-- what was taken by copies is a store of the application, with its number; or so many copies were refused; or a store that came
-- is too old
abbrev pub IsFromCopies : (IsStore : ℕ → List ℕ → Type 0) → (block : ℕ) → (old new : List Told) → Taken → Type 0
IsFromCopies IsStore block old new (TookContent bytes number) = IsStore number bytes
IsFromCopies IsStore block old new (TookRefused count) = WereCounted count (refusals_of old block) (refusals_of new block)
IsFromCopies IsStore block old new (TookStale wanted got count) = (older : List ℕ) × IsStore got older
IsFromCopies IsStore block old new TookNothing = ⊥

abbrev pub took_refused : Taken → Bool
took_refused (TookRefused count) = true
took_refused t = false

-- The block's tries of a copy out gave this, and were all refused exactly where as many were to be; nothing is told otherwise of
-- another block.
pub record IsCopiedOut (IsStore : ℕ → List ℕ → Type 0) (c : Configuration) (block : ℕ) (old new : List Told) (t : Taken) : Type 0 where
  pub from : IsFromCopies IsStore block old new t
  pub spends : Spends (took_refused t) ((desc_of c block).repeats + 1) (to_refuse_of old block) (to_refuse_of new block)
  pub others : OthersStay block old new

-- where nothing was copied, nothing is told otherwise
abbrev pub IsCopied : (IsStore : ℕ → List ℕ → Type 0) → Configuration → (block : ℕ) → (old new : List Told) → (copies : Bool) → Taken → Type 0
IsCopied IsStore c block old new true t = IsCopiedOut IsStore c block old new t
IsCopied IsStore c block old new false t = new ≡ old
