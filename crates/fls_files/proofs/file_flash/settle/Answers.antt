use Rattle.std.proofs.Common.{subst}
use Rattle.std.specs.Prelude.{Bool}
use Rattle.fls_model.specs.Told.{IfBothTold}
use Rattle.fls_files.specs.ByteFile.{Settles}
use Rattle.fls_files.proofs.file_flash.settle.Goals as goal

pub returns : goal.returns
returns g c = subst (λ (b : Bool). IfBothTold (g.T.ByteFile.held c.args.file.now) (g.T.ByteFile.held c.settle.new.self) (Settles b)) c.is_err.ensures.negation c.settle.ensures
