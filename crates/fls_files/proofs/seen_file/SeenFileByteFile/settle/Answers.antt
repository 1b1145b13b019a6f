use Rattle.std.specs.Prelude.{is_ok}
use Rattle.fls_files.proofs.SeenFiles.{seen_settled}
use Rattle.fls_files.proofs.seen_file.SeenFileByteFile.settle.Goals as goal

pub invariant_of-self : goal.invariant_of-self
invariant_of-self g c =
    rw (c.clear.ensures.items, c.is_ok-self-inside.ensures.value) (seen_settled (is_ok c.settle-done.result) (g.T.ByteFile.held c.self.inside.file) (g.T.ByteFile.held c.settle-done.new.self) c.settle-done.ensures)
