use Rattle.std.proofs.Common.{subst, ◌≡◌, false}
use Rattle.std.specs.Prelude.{Bool}
use Rattle.fls_model.specs.Told.{IfBothTold}
use Rattle.fls_files.specs.FileFlashInside.{Finds, IsWritten}
use Rattle.fls_files.proofs.FileOperations.{stored, stored_again, stored_not}
use Rattle.fls_files.proofs.file_flash.is_stored.Goals as goal

pub returns-then-not-is_known : goal.returns-then-not-is_known
returns-then-not-is_known g c =
    stored_not c.args.address c.args.bytes.now c.args.lost.now c.is_known.new.lost (g.T.ByteFile.held c.args.file.now) (g.T.ByteFile.held c.is_known.new.file) c.is_known.ensures.found

pub returns-then-is_written : goal.returns-then-is_written
returns-then-is_written g c =
    let now : c.is_known.new.lost ≡ false = c.is_known.ensures.known (search) in
    let found = subst (λ (b : Bool). IfBothTold (g.T.ByteFile.held c.args.file.now) (g.T.ByteFile.held c.is_known.new.file) (Finds c.args.lost.now b)) now c.is_known.ensures.found in
    rw now (stored c.args.address c.args.bytes.now c.args.lost.now (g.T.ByteFile.held c.args.file.now) (g.T.ByteFile.held c.is_known.new.file) (g.T.ByteFile.held c.is_written.new.file) found
    (subst (λ (b : Bool). IfBothTold (g.T.ByteFile.held c.is_known.new.file) (g.T.ByteFile.held c.is_written.new.file) (IsWritten c.args.address c.args.bytes.now b)) c.if-is_written.true c.is_written.ensures))

pub returns : goal.returns
returns g c =
    let now : c.is_known.new.lost ≡ false = c.is_known.ensures.known (search) in
    let found = subst (λ (b : Bool). IfBothTold (g.T.ByteFile.held c.args.file.now) (g.T.ByteFile.held c.is_known.new.file) (Finds c.args.lost.now b)) now c.is_known.ensures.found in
    stored_again c.args.address c.args.bytes.now c.args.lost.now c.settle.new.lost (g.T.ByteFile.held c.args.file.now) (g.T.ByteFile.held c.is_known.new.file) (g.T.ByteFile.held c.is_written.new.file) (g.T.ByteFile.held c.settle.new.file) found
    (subst (λ (b : Bool). IfBothTold (g.T.ByteFile.held c.is_known.new.file) (g.T.ByteFile.held c.is_written.new.file) (IsWritten c.args.address c.args.bytes.now b)) c.if-is_written.false c.is_written.ensures) c.settle.ensures
