use Rattle.nvm_top.proofs.Dumps.{stopped-text, read-text, stopped-before, written-before}
use Rattle.nvm_top.proofs.dump.dump_flash.Goals as goal

pub returns-in-Ok-clause-text : goal.returns-in-Ok-clause-text
returns-in-Ok-clause-text g c = read-text c.args.geometry c.args.banks (g.F.Flash.told c.args.flash.now) (g.F.Flash.told c.read_image.new.flash) c.as_slice.result.now _ _ _ (rw c.as_slice.ensures.value c.in-Ok.ensures.image) c.write_dump.ensures.text

pub returns-in-Err-clause-text : goal.returns-in-Err-clause-text
returns-in-Err-clause-text g c =
    stopped-text c.args.geometry c.args.banks (g.F.Flash.told c.args.flash.now) (g.F.Flash.told c.read_image.new.flash) c.in-Err.stop _ _ _ c.in-Err.ensures.stop c.in-Err.ensures.end c.report.ensures.line

pub returns-in-Err-clause-untouched : goal.returns-in-Err-clause-untouched
returns-in-Err-clause-untouched g c = stopped-before _ (g.F.Flash.told c.args.flash.now) (g.F.Flash.told c.read_image.new.flash) c.in-Err.stop _ c.in-Err.ensures.end c.report.ensures.status

pub returns-in-Ok-clause-untouched : goal.returns-in-Ok-clause-untouched
returns-in-Ok-clause-untouched g c = written-before (g.F.Flash.told c.args.flash.now) (g.F.Flash.told c.read_image.new.flash) _ c.write_dump.ensures.status
