use Rattle.std.proofs.Common.{arith}
use Rattle.fls_model.proofs.Bits.{and_more}
use Rattle.fls_files.proofs.file_flash.clear_bits.Goals as goal

pub loop-i-preserved : goal.loop-i-preserved
loop-i-preserved c = and_more _ _ _ _ (omega arith) (omega arith) c.loop-i.invariant
