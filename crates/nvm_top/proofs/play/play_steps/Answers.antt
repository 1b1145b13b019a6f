use Rattle.std.proofs.Common.{List, ◌∙◌, inl, subst, refl}
use Rattle.nvm_flash.specs.fee_told.Device.{told_of}
use Rattle.nvm_flash.specs.fee_core.Tells.{told_clock}
use Rattle.nvm_flash.specs.fee_laws.Made.{part_at}
use Rattle.nvm_flash.proofs.Composition.{halves_make_the_promise}
use Rattle.nvm_flash.specs.block_machine.Words.{Entry}
use Rattle.script_player.specs.script_walks.Texts.{AreValues}
use Rattle.script_player.specs.PlainPaying.{seen_by}
use Rattle.script_player.specs.PlainTold.{told_by}
use Rattle.nvm_top.specs.Stack.{KeepsPlayed}
use Rattle.nvm_top.specs.Flashes.{one_flash}
use Rattle.nvm_top.specs.Promised.{entries_in}
use Rattle.nvm_top.specs.Runs.{lines_written}
use Rattle.nvm_flash.specs.Made.{one_part}
use Rattle.nvm_top.proofs.Driven.{keeps_history, vouched}
use Rattle.nvm_script.specs.declared.script.Mode.TheVariants as mode
use Rattle.nvm_top.proofs.Early.{early_in}
use Rattle.nvm_top.proofs.Promised.{ran_in}
use Rattle.nvm_top.proofs.WholeCalls.{ran_late, stopped_late}
use Rattle.nvm_top.proofs.play.play_steps.Goals as goal

pub history-history-requires : goal.history-history-requires
history-history-requires g c =
    let made = c.in-Ok.ensures.made in record { kept = keeps_history _ (made.most ∙ made.started.most) }

pub returns-in-Ok-clause-promise : goal.returns-in-Ok-clause-promise
returns-in-Ok-clause-promise g c input =
    let s = c.in-Ok.field-0.stack in
    let made = c.in-Ok.ensures.made in
    let device = c.into_device-device.result in
    let values = subst (λ (h : List Entry). AreValues h) c.history-history.ensures.entries c.history_values.ensures in
    let v = vouched c.args.script.config (g.F.Flash.told c.args.flash) _ g.O.Origin.making g.O.Origin.entry (g.F.Flash.told c.back-flash.result.flash) s device c.into_device-device.ensures (halves_make_the_promise (told_clock device)) values c.requires.origin (made.configuration ∙ made.started.configuration) (made.most ∙ made.started.most) (c.back-flash.ensures c.args.script.config (one_flash (g.F.Flash.told c.args.flash)) _ c.requires.origin) in
    inl (ran_in c.args.text (KeepsPlayed s.ready (one_part (part_at g.O.Origin.entry)) s.desk s.hand (told_of s.device) (told_clock s.device)) (seen_by told_of told_clock made.first) (seen_by told_of told_clock s) c.args.script.config _ c.args.script.steps (part_at g.O.Origin.entry) (told_by told_of made.first) (told_by told_of s)
    (g.F.Flash.told c.args.flash) (g.F.Flash.told c.back-flash.result.flash) c.write_text-status.result _ _ input c.in-Ok.field-0.end c.stop_of.result c.history-history.result.now.entries made.started
    made.all made.some made.configuration made.keeps made.begins (record { entries = refl; configuration = refl; moment = refl; faults = refl }) v c.stop_of.ensures
    c.history-history.ensures.entries c.in-Ok.ensures.size c.write_text-status.ensures.text)

pub returns-in-Err-clause-promise : goal.returns-in-Err-clause-promise
returns-in-Err-clause-promise g c input =
    early_in c.args.text mode.Play c.args.script.config c.args.script.steps (g.F.Flash.told c.args.flash) (g.F.Flash.told c.in-Err.field-0-1.flash) c.in-Err.stop c.report.result _ _ input c.in-Err.ensures.stopped c.report.ensures.line

pub returns-in-Ok-clause-late : goal.returns-in-Ok-clause-late
returns-in-Ok-clause-late g c early =
    ran_late c.in-Ok.field-0.end c.stop_of.result c.write_text-status.result (entries_in c.args.text c.history-history.result.now.entries) (lines_written c.args.text c.stop_of.result c.history-history.result.now.entries) (g.K.Sink.written c.args.output.now) (g.K.Sink.written c.write_text-status.new.output) c.stop_of.ensures c.write_text-status.ensures.text early

pub returns-in-Err-clause-late : goal.returns-in-Err-clause-late
returns-in-Err-clause-late g c early = stopped_late c.args.script.config _ c.in-Err.stop c.report.result c.in-Err.ensures.stopped.why c.report.ensures.status early
