use Rattle.nvm_core.proofs.driver.Driver.first_half.Goals as goal

pub returns-in-Pick-clause-keeps : goal.returns-in-Pick-clause-keeps
returns-in-Pick-clause-keeps g c = c.pick.ensures.keeps c.args.self.now.hand
