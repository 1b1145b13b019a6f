-- Where a job may begin, and how long it may be.
use Rattle.std.specs.Prelude.{◌≡◌, ◌<◌, ◌≤◌, ◌+◌, ◌%◌, ℕ}
use Rattle.nv_base.specs.declared.geometry.Geometry.{Geometry}
use Rattle.nv_base.specs.Geometry.{size_of}
use Rattle.fls_jobs.specs.declared.reach.Reach.{Reach}

-- a read or a blank check: any bytes, 65,536 at most
abbrev pub read_reach : Geometry → Reach
read_reach g = record { unit = 1; most = 65536; size = size_of g }

-- a write: whole pages, one at most
abbrev pub write_reach : Geometry → Reach
write_reach g = record { unit = g.page; most = g.page; size = size_of g }

-- a compare: any bytes, as many as a page at most
abbrev pub compare_reach : Geometry → Reach
compare_reach g = record { unit = 1; most = g.page; size = size_of g }

-- an erase: any sectors
abbrev pub erase_reach : Geometry → Reach
erase_reach g = record { unit = 1; most = g.sectors; size = g.sectors }

-- a place is aligned, and lies inside
pub record IsPlace (r : Reach) (at : ℕ) : Type 0 where
  pub aligned : at % r.unit ≡ 0
  pub inside : at < r.size

-- a length from a place on
pub record IsLength (r : Reach) (at n : ℕ) : Type 0 where
  pub some : 0 < n
  pub whole : n % r.unit ≡ 0
  pub most : n ≤ r.most
  pub inside : at + n ≤ r.size
