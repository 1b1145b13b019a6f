use Rattle.std.proofs.Common.{replicate}
use Rattle.nv_recorder.proofs.told_bytes.ToldBytes.zeros.Given as goal

abbrev pub ghost-zeros_told : goal.ghost-zeros_told
ghost-zeros_told a = replicate a.count 0
