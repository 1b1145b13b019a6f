use Rattle.std.proofs.Common.{subst, ◌∙◌, sym}
use Rattle.std.specs.Prelude.{is_ok, Bool}
use Rattle.fls_model.specs.Told.{IfBothTold}
use Rattle.fls_files.specs.ByteFile.{Writes}
use Rattle.fls_files.proofs.FileOperations.{written}
use Rattle.fls_files.proofs.file_flash.is_written.Goals as goal

pub returns-then-is_ok : goal.returns-then-is_ok
returns-then-is_ok g c =
    let a = c.args.address in
    let bytes = c.args.bytes.now in
    rw c.is_ok-then-is_ok.ensures.value
    (written a bytes (is_ok c.sync.result) (g.T.ByteFile.held c.args.file.now) (g.T.ByteFile.held c.write_at.new.self) (g.T.ByteFile.held c.sync.new.self)
    (subst (λ (b : Bool). IfBothTold (g.T.ByteFile.held c.args.file.now) (g.T.ByteFile.held c.write_at.new.self) (Writes a bytes b)) (sym c.is_ok.ensures.value ∙ c.if-is_ok.true) c.write_at.ensures) c.sync.ensures)
