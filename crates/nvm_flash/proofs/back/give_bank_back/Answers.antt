use Rattle.nvm_flash.proofs.Returning.{back}
use Rattle.nvm_flash.proofs.back.give_bank_back.Goals as goal

pub returns : goal.returns
returns g c = λ m inner cuts made_for over.
    back m inner cuts g.O.Origin.making g.O.Origin.entry (g.F.Flash.told c.into_inner.result) c.into_flash.result c.args.device made_for over c.into_inner.ensures.cuts c.into_inner.ensures.inner
    c.into_flash.ensures.told c.into_flash.ensures.changes c.into_flash.ensures.none c.into_flash.ensures.more c.into_flash.ensures.geometry c.into_flash.ensures.parts c.into_flash.ensures.bridge c.into_flash.ensures.wear c.into_flash.ensures.restarts
