use Rattle.std.proofs.Common.{subst}
use Rattle.nvm_laws.specs.block_config.Rules.{IsLegalConfig}
use Rattle.nvm_core.proofs.TyingBehind.{tied_behind}
use Rattle.nvm_core.proofs.driver.Driver.second_half.Goals as goal

pub returns-clause-tied : goal.returns-clause-tied
returns-clause-tied g c =
    let legal = subst IsLegalConfig c.config.ensures c.blocks-blocks.ensures.legal in
    tied_behind c.args.desk.now c.take.new.desk
    c.args.self.now.hand c.take.new.hand c.requires.0 (g.D.MemDevice.told c.args.self.now.device) legal c.args.turned c.requires.1
    (c.take.ensures.adds c.requires.0 c.requires.1) (c.take.ensures.goes c.requires.0 c.requires.1)
