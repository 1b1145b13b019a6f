use Rattle.nv_recorder.proofs.told.found_behind.Given as goal

abbrev pub ghost-picked : goal.ghost-picked
ghost-picked g a = g.items
