use Rattle.fls_files.proofs.FileOperations.{settled}
use Rattle.fls_files.proofs.file_flash.is_known.Goals as goal

pub returns-clause-found : goal.returns-clause-found
returns-clause-found g c = settled c.args.lost.now c.settle.new.lost (g.T.ByteFile.held c.args.file.now) (g.T.ByteFile.held c.settle.new.file) c.settle.ensures
