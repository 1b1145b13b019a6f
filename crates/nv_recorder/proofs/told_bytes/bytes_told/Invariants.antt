use Rattle.nv_recorder.proofs.told_bytes.bytes_told.Given as goal

abbrev pub ghost-picked : goal.ghost-picked
ghost-picked g a = g.items
