use Rattle.std.proofs.Common.{List, ℕ, ◌∙◌, sym, inl, subst, refl}
use Rattle.nvm_flash.specs.block_config.Config.{Configuration}
use Rattle.nvm_flash.specs.fee_told.Device.{told_of}
use Rattle.nvm_flash.specs.fee_core.Tells.{told_clock}
use Rattle.nvm_flash.specs.fee_laws.Made.{part_at}
use Rattle.nvm_flash.proofs.Composition.{halves_make_the_promise}
use Rattle.nvm_flash.specs.block_machine.Words.{Entry}
use Rattle.script_player.specs.script_walks.Texts.{AreValues}
use Rattle.script_player.specs.PlainTold.{told_by}
use Rattle.nvm_top.specs.Stack.{KeepsPlayed}
use Rattle.nvm_top.specs.Flashes.{one_flash}
use Rattle.nvm_flash.specs.Made.{one_part}
use Rattle.nvm_top.specs.Uds.{HasPieces, WritesLines, lines_of_history, line_served, status_served}
use Rattle.nvm_top.proofs.AnswerLines.{served_text}
use Rattle.nvm_top.proofs.Driven.{keeps_history, vouched}
use Rattle.nvm_top.proofs.WholeCalls.{stopped_late}
use Rattle.nvm_top.proofs.Serving.{served_late, served_pieces, serving_has, serving_none}
use Rattle.nvm_top.proofs.uds.serve_over.Goals as goal

pub history-history-requires : goal.history-history-requires
history-history-requires g c =
    let made = c.in-Ok.ensures.served in record { kept = keeps_history _ (made.most ∙ made.started.most) }

pub write_served-status-requires-clause-pieces : goal.write_served-status-requires-clause-pieces
write_served-status-requires-clause-pieces g c =
    let s = c.in-Ok.field-0.stack in
    let made = c.in-Ok.ensures.served in
    subst (λ (counts : List ℕ). HasPieces c.args.requests.now counts c.history-history.result.now.entries) (sym c.deref.ensures.value)
    (served_pieces c.args.requests.now c.in-Ok.field-0.counts.items c.in-Ok.field-0.end c.args.config (told_by told_of made.first) (told_by told_of s) (part_at g.O.Origin.entry) made.started made.served made.configuration c.history-history.result.now.entries
    c.history-history.ensures.entries)

pub returns-in-Ok-clause-promise : goal.returns-in-Ok-clause-promise
returns-in-Ok-clause-promise g c input =
    let s = c.in-Ok.field-0.stack in
    let made = c.in-Ok.ensures.served in
    let device = c.into_device-device.result in
    let requests = c.args.requests.now in
    let counts = c.in-Ok.field-0.counts.items in
    let end = c.in-Ok.field-0.end in
    let config = c.args.config in
    let h = c.history-history.result.now.entries in
    let is = c.history-history.ensures.entries in
    let values = subst (λ (es : List Entry). AreValues es) is c.history_values.ensures in
    let entry = g.F.Flash.told c.args.flash in
    let exit = g.F.Flash.told c.back-flash.result.flash in
    let x = c.write_served-status.result in
    let v = vouched config entry _ g.O.Origin.making g.O.Origin.entry exit s device c.into_device-device.ensures (halves_make_the_promise (told_clock device)) values c.requires.origin (made.configuration ∙ made.started.configuration) (made.most ∙ made.started.most) (c.back-flash.ensures config (one_flash entry) _ c.requires.origin) in
    inl (serving_has requests counts end config (told_by told_of made.first) (told_by told_of s) (part_at g.O.Origin.entry) made.started made.served made.configuration
    (KeepsPlayed s.ready (one_part (part_at g.O.Origin.entry)) s.desk s.hand (told_of s.device) (told_clock s.device)) entry exit x _ _ input h is made.keeps made.begins (record { entries = refl; configuration = refl; moment = refl; faults = refl }) v c.in-Ok.ensures.size
    (subst (λ (d : Configuration). WritesLines (status_served end) (lines_of_history d requests counts h) (line_served end h) (g.K.Sink.written c.args.output.now) (g.K.Sink.written c.write_served-status.new.output) x) c.requires.own
    (subst (λ (ns : List ℕ). WritesLines (status_served end) (lines_of_history c.args.own.now requests ns h) (line_served end h) (g.K.Sink.written c.args.output.now) (g.K.Sink.written c.write_served-status.new.output) x) c.deref.ensures.value
    (served_text end c.stopped_serving-run.result h _ _ _ x c.stopped_serving-run.ensures c.write_served-status.ensures.text))))

pub returns-in-Err-clause-promise : goal.returns-in-Err-clause-promise
returns-in-Err-clause-promise g c input =
    serving_none c.args.config c.args.requests.now (g.F.Flash.told c.args.flash) (g.F.Flash.told c.in-Err.field-0-1.flash) c.in-Err.stop c.report.result _ _ input c.in-Err.ensures.stopped c.report.ensures.line

pub returns-in-Ok-clause-late : goal.returns-in-Ok-clause-late
returns-in-Ok-clause-late g c early =
    served_late c.in-Ok.field-0.end _ _ _ _ c.write_served-status.result
    (served_text c.in-Ok.field-0.end c.stopped_serving-run.result c.history-history.result.now.entries _ _ _ c.write_served-status.result c.stopped_serving-run.ensures c.write_served-status.ensures.text) early

pub returns-in-Err-clause-late : goal.returns-in-Err-clause-late
returns-in-Err-clause-late g c early = stopped_late c.args.config _ c.in-Err.stop c.report.result c.in-Err.ensures.stopped.why c.report.ensures.status early
