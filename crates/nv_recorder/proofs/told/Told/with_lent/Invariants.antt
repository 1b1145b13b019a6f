use Rattle.std.proofs.Common.{[], ◌∷◌, ◌++◌, option_copied}
use Rattle.nv_recorder.specs.Event.{entry_of}
use Rattle.nv_recorder.proofs.told.Told.with_lent.Given as goal

abbrev pub ghost-lent_behind : goal.ghost-lent_behind
ghost-lent_behind a = a.told.now.items ++ entry_of a.event (option_copied a.content) ∷ []
