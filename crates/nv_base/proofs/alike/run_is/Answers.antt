use Rattle.std.proofs.Common.{◌∙◌, arith}
use Rattle.nv_base.proofs.Runs.{same_as_alike}
use Rattle.nv_base.proofs.alike.run_is.Goals as goal

pub returns : goal.returns
returns c = c.eq.ensures ∙ same_as_alike c.args.run.now 64 c.args.value (omega (arith, c.told-run))
