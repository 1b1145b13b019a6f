use Rattle.std.proofs.Common.{[], ◌∷◌, ◌++◌}
use Rattle.nv_recorder.proofs.told.Told.with.Given as goal

abbrev pub ghost-behind : goal.ghost-behind
ghost-behind a = a.told.now.items ++ a.entry.now ∷ []
