-- The pages that a configuration needs.
use Rattle.std.specs.Prelude.{ℕ, zero, suc, ◌+◌, ◌*◌, ◌≤◌, ◌==◌, max, if◌then◌else◌, List, fold, sum_by}
use Rattle.nv_base.specs.Pages.{record_pages_of}
use Rattle.block_config.specs.declared.block.BlockDesc.{BlockDesc}
use Rattle.block_config.specs.declared.sizes.Measures.{Measures}
use Rattle.block_config.specs.Block.{instance_count, record_count}

abbrev pub instances_of : BlockDesc → ℕ
instances_of b = instance_count b.kind b.nv

-- the size of each instance of a block: what is stored by the second device takes no pages of a bank
abbrev pub size_of : ℕ → BlockDesc → ℕ
size_of page b = if b.device == 0 then record_pages_of b.length page else 0

-- the instances of a block that the second device stores
abbrev pub second_count : BlockDesc → ℕ
second_count b = if b.device == 0 then 0 else instances_of b

abbrev pub second_instances : List BlockDesc → ℕ
second_instances blocks = sum_by second_count blocks

-- the pages of one immediate write; only a block of priority 0 has such writes
abbrev pub urgent_at : ℕ → ℕ → ℕ
urgent_at zero pages = pages
urgent_at (suc p) pages = 0

abbrev pub urgent_pages : ℕ → BlockDesc → ℕ
urgent_pages page b = urgent_at b.priority (record_count b.kind * size_of page b)

-- the greatest, or 0 where there is none
abbrev pub greatest : (BlockDesc → ℕ) → List BlockDesc → ℕ
greatest f blocks = fold (λ m b. max m (f b)) 0 blocks

abbrev pub measures_of : ℕ → List BlockDesc → Measures
measures_of page blocks = record {
  instances = sum_by instances_of blocks;
  all = sum_by (λ b. instances_of b * size_of page b) blocks;
  greatest = greatest (size_of page) blocks;
  urgent = greatest (urgent_pages page) blocks;
  second = second_instances blocks;
}

-- S + 2 M + 2 R + 1: the pages that a bank needs, for a copy of each instance, for the instances that were copied
-- again, and for the record that waits. S are the pages of all instances of the first device, M those of the greatest,
-- and R the most pages of one immediate write.
abbrev pub need_of : Measures → ℕ
need_of m = m.all + 2 * m.greatest + 2 * m.urgent + 1

-- small enough to be added up
pub record IsBounded (b : BlockDesc) : Type 0 where
  pub instances : instances_of b ≤ 64
  pub content : b.length ≤ 4096
