use Rattle.std.proofs.Common.{refl}
use Rattle.std.specs.Prelude.{false}
use Rattle.fls_files.specs.ByteFile.{FileBytes}
use Rattle.fls_files.proofs.FileOperations.{writes, writes_not}
use Rattle.fls_files.proofs.memory_file.MemFileByteFile.write_at.Goals as goal
use Rattle.fls_files.proofs.memory_file.MemFileByteFile.write_at.Goals.{in-Ok, in-Err}

pub returns : goal.returns
returns c =
    let f : FileBytes = record { now = c.self.inside.bytes.items; disk = c.self.inside.synced.items; lost = false } in
    let new : FileBytes = record { now = c.put.new.bytes.items; disk = c.self.inside.synced.items; lost = false } in
    elim c.match-put.branch [
      | in-Ok w ↦ rw (← c.self.view_is, w.result-is) (writes c.args.address c.args.bytes.now f new w.in-Ok.ensures.done refl refl)
      | in-Err w ↦ rw (← c.self.view_is, w.result-is) (writes_not c.args.address c.args.bytes.now f new w.in-Err.ensures.err refl refl)
    ]
