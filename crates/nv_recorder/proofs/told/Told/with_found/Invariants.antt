use Rattle.std.proofs.Common.{[], ◌∷◌, ◌++◌}
use Rattle.nv_base.specs.declared.entry.Entry.TheVariants.{Found}
use Rattle.nv_recorder.specs.FoundMarks.{found_in}
use Rattle.nv_recorder.proofs.told.Told.with_found.Given as goal

abbrev pub ghost-found_behind : goal.ghost-found_behind
ghost-found_behind a = a.told.now.items ++ Found (found_in a.found.now) a.ops ∷ []
