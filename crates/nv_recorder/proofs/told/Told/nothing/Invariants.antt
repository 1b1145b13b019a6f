use Rattle.std.proofs.Common.{[]}
use Rattle.nv_recorder.proofs.told.Told.nothing.Given as goal

abbrev pub ghost-picked : goal.ghost-picked
ghost-picked a = []
