use Rattle.nv_recorder.proofs.told.request_behind.Given as goal

abbrev pub ghost-picked : goal.ghost-picked
ghost-picked g a = g.items
