use Rattle.fls_files.proofs.FileOperations.{syncs_not}
use Rattle.fls_files.proofs.memory_file.MemFileByteFile.sync.Goals as goal

pub returns-in-Err : goal.returns-in-Err
returns-in-Err c = syncs_not c.args.self.now
