use Rattle.std.proofs.Common.{◌*◌}
use Rattle.fls_model.specs.Told.{IfBothTold}
use Rattle.fls_files.proofs.Enlargements.{Blanked}
use Rattle.fls_files.proofs.file_flash.is_enlarged.Given as goal

abbrev pub invariant-loop-i : goal.invariant-loop-i
invariant-loop-i g l = IfBothTold (g.T.ByteFile.held l.fn.file) (g.T.ByteFile.held l.file) (Blanked (l.i * l.sector))
