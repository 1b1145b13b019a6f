use Rattle.std.proofs.Common.{◌≡◌, ◌++◌, take, drop}
use Rattle.fls_model.specs.Bytes.{and_bytes}
use Rattle.fls_files.proofs.file_flash.clear_bits.Given as goal

abbrev pub invariant-loop-i : goal.invariant-loop-i
invariant-loop-i l = l.bytes ≡ and_bytes (take l.i l.initial.bytes) (take l.i l.page) ++ drop l.i l.initial.bytes
