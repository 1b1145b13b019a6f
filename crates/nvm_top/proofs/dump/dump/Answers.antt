use Rattle.std.proofs.Common.{ℕ, Err, ap, subst}
use Rattle.nvm_flash.specs.nv_base.declared.geometry.Geometry.{Geometry}
use Rattle.nvm_top.specs.Dump.{DumpsFlash}
use Rattle.nvm_lines.specs.Output.{Writes}
use Rattle.nvm_top.proofs.Dumps.{configured-text, unread-text}
use Rattle.nvm_top.proofs.dump.dump.Goals as goal

pub returns-in-Ok-clause-by_input : goal.returns-in-Ok-clause-by_input
returns-in-Ok-clause-by_input g c =
    let s = g.F.Flash.told c.args.flash in
    let t = g.F.Flash.told c.dump_flash-status.new.flash in
    let text = subst (λ (shape : Geometry). Writes (DumpsFlash shape c.in-Ok.config.banks s t) (g.K.Sink.written c.args.output.now) (g.K.Sink.written c.dump_flash-status.new.output) c.dump_flash-status.result) c.geometry.ensures.value
    (subst (λ (banks : ℕ). Writes (DumpsFlash c.geometry.result banks s t) (g.K.Sink.written c.args.output.now) (g.K.Sink.written c.dump_flash-status.new.output) c.dump_flash-status.result) c.banks.ensures.value c.dump_flash-status.ensures.text) in
    configured-text (g.S.Source.left c.args.input.now) _ _ s t c.in-Ok.config _ _ _ c.in-Ok.ensures.ok text

pub returns-in-Err-clause-by_input : goal.returns-in-Err-clause-by_input
returns-in-Err-clause-by_input g c = unread-text (g.S.Source.left c.args.input.now) _ _ (g.F.Flash.told c.args.flash) (g.F.Flash.told c.args.flash) c.in-Err.stop _ _ _ (λ is. c.in-Err.ensures.read_fault (ap Err is)) c.in-Err.ensures.err c.report.ensures.line
