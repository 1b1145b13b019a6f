use Rattle.std.proofs.lemmas.Result.{IfErr-weaker}
use Rattle.nvm_flash.proofs.pair.make_both.Goals as goal

pub returns-in-Ok-make-2-clause-stopped : goal.returns-in-Ok-make-2-clause-stopped
returns-in-Ok-make-2-clause-stopped g c =
    IfErr-weaker c.make_over.result _ _ (λ e back. back (g.F.Flash.told c.args.flash) (g.G.Flash.told c.args.eeprom) c.args.cuts c.in-Ok-make.ensures.made c.in-Ok-make-2.ensures.made c.requires.sized) c.make_over.ensures.stopped
