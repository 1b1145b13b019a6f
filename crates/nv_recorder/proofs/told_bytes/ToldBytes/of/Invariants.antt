use Rattle.nv_recorder.proofs.told_bytes.ToldBytes.of.Given as goal

abbrev pub ghost-bytes_told : goal.ghost-bytes_told
ghost-bytes_told a = a.bytes.now
