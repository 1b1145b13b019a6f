use Rattle.nvm_flash.proofs.PairReturning.{pair_back}
use Rattle.nvm_flash.proofs.pair_stack.take_failed.Goals as goal

pub returns-clause-back : goal.returns-clause-back
returns-clause-back g c = λ x inner other cuts origins.
    pair_back x inner other cuts g.O.Origin.making g.O.Origin.entry g.P.Origin.making g.P.Origin.entry (g.F.Flash.told c.give_bank_back.result) (g.G.Flash.told c.give_slots_back.result) c.args.device c.into_pair-first.result.first c.into_pair-first.result.second
    origins c.into_pair-first.ensures.first c.into_pair-first.ensures.second c.into_pair-first.ensures.both c.give_bank_back.ensures c.give_slots_back.ensures
