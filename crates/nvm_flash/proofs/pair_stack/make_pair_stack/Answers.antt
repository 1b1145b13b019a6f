use Rattle.nvm_flash.proofs.PairReturning.{made_pair_back, made_pair_stack}
use Rattle.nvm_flash.proofs.pair_stack.make_pair_stack.Goals as goal

pub returns-in-Err-make-clause-stopped : goal.returns-in-Err-make-clause-stopped
returns-in-Err-make-clause-stopped g c =
    made_pair_back c.args.config (g.F.Flash.told c.args.flash) (g.G.Flash.told c.args.eeprom) c.args.cuts g.O.Origin.making g.O.Origin.entry g.P.Origin.making g.P.Origin.entry (g.F.Flash.told c.give_pair_back-flash.result.0) (g.G.Flash.told c.give_pair_back-flash.result.1)
    c.in-Ok.device c.in-Err-make.failed.value c.requires.origins c.in-Ok.ensures.two_devices c.in-Ok.ensures.made c.in-Ok.ensures.parts c.in-Err-make.ensures.handed_back
    (c.give_pair_back-flash.ensures c.args.config (g.F.Flash.told c.args.flash) (g.G.Flash.told c.args.eeprom) c.args.cuts c.requires.origins)

pub returns-in-Ok-make-clause-made : goal.returns-in-Ok-make-clause-made
returns-in-Ok-make-clause-made g c =
    made_pair_stack c.args.config c.args.cap g.O.Origin.making g.O.Origin.entry g.P.Origin.making g.P.Origin.entry c.args.copies c.in-Ok-make.stack c.in-Ok.device c.in-Ok-make.ensures.made c.in-Ok.ensures.made c.in-Ok.ensures.parts c.in-Ok.ensures.numbers c.in-Ok.ensures.figures c.in-Ok.ensures.two_devices c.requires.room
