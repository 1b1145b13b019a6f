use Rattle.std.proofs.Common.{[], ◌∷◌, ◌++◌}
use Rattle.nv_base.specs.declared.entry.Entry.TheVariants.{Ask}
use Rattle.nv_recorder.specs.Request.{request_lent}
use Rattle.nv_recorder.proofs.told.Told.with_request.Given as goal

abbrev pub ghost-request_behind : goal.ghost-request_behind
ghost-request_behind a = a.told.now.items ++ Ask a.caller (request_lent a.request) a.reply ∷ []
