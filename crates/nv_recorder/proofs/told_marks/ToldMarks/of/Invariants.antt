use Rattle.nv_recorder.specs.FoundMarks.{found_in}
use Rattle.nv_recorder.proofs.told_marks.ToldMarks.of.Given as goal

abbrev pub ghost-marks_told : goal.ghost-marks_told
ghost-marks_told a = found_in a.found.now
