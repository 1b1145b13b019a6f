use Rattle.nv_recorder.proofs.told_marks.marks_told.Given as goal

abbrev pub ghost-picked : goal.ghost-picked
ghost-picked g a = g.items
