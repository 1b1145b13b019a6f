use Rattle.std.proofs.Common.{sym, subst}
use Rattle.nvm_flash.specs.declared.pair.PairFault.{PairFault}
use Rattle.nvm_flash.specs.PairMade.{ComeBack}
use Rattle.nvm_flash.proofs.PairReturning.{failed_pair_back}
use Rattle.nvm_flash.proofs.pair_stack.start_pair_stack.Goals as goal

pub returns-in-Err-clause-stopped : goal.returns-in-Err-clause-stopped
returns-in-Err-clause-stopped g c = λ inner other cuts origins.
    let exit = g.F.Flash.told c.take_failed.result.1 in
    let exit_other = g.G.Flash.told c.take_failed.result.2 in
    subst (λ (f : PairFault). ComeBack c.args.stack.desk.config f inner exit other exit_other) (sym c.take_failed.ensures.fault)
    (failed_pair_back c.args.stack.desk.config inner other cuts g.O.Origin.making g.O.Origin.entry g.P.Origin.making g.P.Origin.entry exit exit_other c.args.stack.device c.in-Err.device origins c.requires.named c.requires.device c.requires.parts
    c.in-Err.ensures.failed (c.take_failed.ensures.back c.args.stack.desk.config inner other cuts origins))
