use Rattle.std.proofs.Common.{arith}
use Rattle.fls_model.proofs.Within.{within_erase}
use Rattle.lent_flash.proofs.places.erase_in.Goals as goal

pub returns-clause-within : goal.returns-clause-within
returns-clause-within c = within_erase _ _ _ _ c.fill_blank-places.ensures.done (omega (arith, c.requires.within, c.args.places.ok.0)) c.below_256.ensures
