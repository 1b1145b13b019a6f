-- A flash in a file of bytes.
use Rattle.std.specs.Prelude.{◌≡◌, ℕ, Bool, false, if◌then◌else◌, List, [], Option, Some, option_map}
use Rattle.nv_base.specs.Count.{last_count}
use Rattle.nv_base.specs.declared.geometry.Geometry.{Geometry}
use Rattle.nv_base.specs.Plan.{no_planning}
use Rattle.fls_model.specs.Op.{Op, MayLeave}
use Rattle.fls_model.specs.Told.{Told, ToldBytes, Change, IfBothTold, bytes_now}
use Rattle.fls_files.specs.ByteFile.{FileBytes}

-- what is told of it, whether the file was opened, and what a power cut leaves, where the file tells its bytes
pub record InFile : Type 0 where
  pub told : Told
  pub opened : Bool
  pub kept : Option (List ℕ)

-- the flash's bytes. A file whose enlargement was broken off is a flash of none yet.
abbrev pub bytes_of : Bool → FileBytes → List ℕ
bytes_of torn f = if torn then [] else f.now

abbrev pub told_bytes : Bool → List Change → Option FileBytes → Option ToldBytes
told_bytes torn changes held = option_map (λ f. record { now = bytes_of torn f; changes = Some changes; room = last_count }) held

-- no cut ever stands, and no plan is taken
abbrev pub told_in_file : Geometry → ℕ → ℕ → Option ToldBytes → Told
told_in_file g ops faults bytes = record { geometry = g; bytes = bytes; ops = ops; faults = faults; cuts = 0; off = false; planning = no_planning }

-- its fields and its file
abbrev pub in_file_of : Geometry → ℕ → ℕ → Bool → List Change → Bool → Option FileBytes → InFile
in_file_of g ops faults torn changes opened held = record {
  told = told_in_file g ops faults (told_bytes torn changes held);
  opened = opened;
  kept = option_map (λ f. f.disk) held;
}

-- over a file, not attached yet
abbrev pub in_file : Bool → Option FileBytes → InFile
in_file opened held = in_file_of (record { page = 0; sector = 0; sectors = 0 }) 0 0 false [] opened held

-- what a power cut leaves is what reads give
abbrev pub IsSynced : InFile → Type 0
IsSynced m = m.kept ≡ bytes_now m.told

-- whatever the answer to an operation, what later reads give outlives a power cut, and that leaves what the operation may leave of
-- the bytes before it
pub record LeavesOnDisk (op : Op) (old new : InFile) : Type 0 where
  pub synced : IsSynced new
  pub kept : IfBothTold (bytes_now old.told) new.kept (MayLeave op)
