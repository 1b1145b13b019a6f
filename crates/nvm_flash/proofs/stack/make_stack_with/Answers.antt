use Rattle.nvm_flash.proofs.Returning.{made_back, made_stack}
use Rattle.nvm_flash.proofs.stack.make_stack_with.Goals as goal

pub returns-in-Err-make-clause-stopped : goal.returns-in-Err-make-clause-stopped
returns-in-Err-make-clause-stopped g c =
    made_back c.args.config (g.F.Flash.told c.args.flash) c.args.cuts g.O.Origin.making g.O.Origin.entry (g.F.Flash.told c.give_back.result) c.in-Ok.device c.in-Err-make.failed.value c.requires.origin c.in-Ok.ensures.one_device c.in-Ok.ensures.made c.in-Err-make.ensures.handed_back
    (c.give_back.ensures c.args.config (g.F.Flash.told c.args.flash) c.args.cuts c.requires.origin)

pub returns-in-Ok-make-clause-made : goal.returns-in-Ok-make-clause-made
returns-in-Ok-make-clause-made g c =
    made_stack c.args.config c.args.cap g.O.Origin.making g.O.Origin.entry c.in-Ok-make.stack c.in-Ok.device c.args.copies c.in-Ok-make.ensures.made c.in-Ok.ensures.made c.in-Ok.ensures.parts c.in-Ok.ensures.fixed c.requires.room c.in-Ok.ensures.one_device
