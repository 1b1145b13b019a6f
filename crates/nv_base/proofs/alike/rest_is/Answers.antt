use Rattle.std.proofs.Common.{◌∙◌}
use Rattle.nv_base.proofs.Runs.{same_as_front}
use Rattle.nv_base.proofs.alike.rest_is.Goals as goal

pub returns : goal.returns
returns c = c.eq.ensures ∙ same_as_front c.args.rest.now 64 c.args.value c.requires
