use Rattle.std.specs.Prelude.{is_ok}
use Rattle.fls_files.proofs.SeenFiles.{seen_cleared}
use Rattle.fls_files.proofs.seen_file.SeenFileByteFile.clear.Goals as goal

pub invariant_of-self : goal.invariant_of-self
invariant_of-self g c =
    let f = c.self.inside in
    rw c.clear.ensures.items (seen_cleared f.settled (is_ok c.clear-2.result) f.seen.items (g.T.ByteFile.held f.file) (g.T.ByteFile.held c.clear-2.new.self) c.self.invariant c.clear-2.ensures)
