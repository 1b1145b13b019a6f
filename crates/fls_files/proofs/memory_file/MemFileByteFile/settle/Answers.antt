use Rattle.std.proofs.Common.{refl, ◌∙◌}
use Rattle.std.specs.Prelude.{false}
use Rattle.fls_files.specs.ByteFile.{FileBytes}
use Rattle.fls_files.proofs.FileOperations.{settles}
use Rattle.fls_files.proofs.memory_file.MemFileByteFile.settle.Goals as goal

pub returns-then-len : goal.returns-then-len
returns-then-len c =
    let f : FileBytes = record { now = c.self.inside.bytes.items; disk = c.self.inside.synced.items; lost = false } in
    let new : FileBytes = record { now = c.self.inside.bytes.items; disk = c.copy_from_slice.new.self.items; lost = false } in
    rw (← c.self.view_is) (settles f new refl (c.copy_from_slice.ensures.items ∙ c.deref.ensures.value) refl)
