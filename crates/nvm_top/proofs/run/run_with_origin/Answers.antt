use Rattle.std.proofs.Common.{inl, ◌∙◌, subst}
use Rattle.nvm_flash.specs.fee_laws.Made.{part_at}
use Rattle.nvm_script.specs.declared.script.Mode.TheVariants as mode
use Rattle.script_player.specs.script_walks.Texts.{AreValues}
use Rattle.nvm_top.specs.Flashes.{one_flash}
use Rattle.nvm_top.specs.Runs.{lines_written}
use Rattle.nvm_flash.specs.Made.{one_part}
use Rattle.nvm_top.specs.declared.runs.RunText.TheVariants.{History}
use Rattle.nvm_top.proofs.Early.{early_in}
use Rattle.nvm_top.proofs.Driven.{keeps_history}
use Rattle.nvm_top.proofs.Running.{callers_came, callers_late, none_came, unwritten_run, written_run}
use Rattle.nvm_top.proofs.WholeCalls.{stopped_late}
use Rattle.nvm_top.proofs.run.run_with_origin.Goals as goal

pub history-requires : goal.history-requires
history-requires g c = record { kept = keeps_history _ c.in-Ok.ensures.started.most }

pub history-history-requires : goal.history-history-requires
history-history-requires g c = record { kept = keeps_history _ (c.in-Ok-play_callers.ensures.ran.cap ∙ c.in-Ok.ensures.started.most) }

pub returns-in-Ok-play_callers-clause-promise : goal.returns-in-Ok-play_callers-clause-promise
returns-in-Ok-play_callers-clause-promise g c input =
    let s = c.in-Ok.stack in
    let r = c.in-Ok-play_callers.field-0 in
    let ran = c.in-Ok-play_callers.ensures in
    let inner = g.F.Flash.told c.args.flash in
    inl (written_run c.args.config c.in-Ok.ensures.started.one_device c.args.steps.now r.ending c.stop_of_ending-run.result r.desk.entries c.history-history.result.now.entries inner (g.F.Flash.told c.back-flash.result.flash) g.O.Origin.entry r.device c.write_text-status.result _ _ input
    (c.back-flash.ensures c.args.config (one_flash inner) _ c.requires.origin)
    (callers_came (one_part (part_at g.O.Origin.entry)) c.args.config c.args.steps.now s r.ending r.desk r.device c.in-Ok.ensures.started c.in-Ok.ensures.kept.1 c.in-Ok.ensures.kept.0 ran.ran ran.order)
    c.history_values-in-Ok-play_callers.ensures c.in-Ok.ensures.size c.stop_of_ending-run.ensures c.history-history.ensures.entries c.write_text-status.ensures.text)

pub returns-in-Ok-play_callers-clause-late : goal.returns-in-Ok-play_callers-clause-late
returns-in-Ok-play_callers-clause-late g c early =
    let entries = c.history-history.result.now.entries in
    callers_late c.in-Ok-play_callers.field-0.ending c.stop_of_ending-run.result c.write_text-status.result entries (lines_written History c.stop_of_ending-run.result entries) (g.K.Sink.written c.args.output.now) (g.K.Sink.written c.write_text-status.new.output) c.stop_of_ending-run.ensures c.write_text-status.ensures.text early

pub returns-in-Err-play_callers-clause-promise : goal.returns-in-Err-play_callers-clause-promise
returns-in-Err-play_callers-clause-promise g c input =
    let s = c.in-Ok.stack in
    let device = c.in-Err-play_callers.device in
    let inner = g.F.Flash.told c.args.flash in
    inl (unwritten_run c.args.config c.in-Ok.ensures.started.one_device c.args.steps.now s.desk.entries inner (g.F.Flash.told c.back-flash-in-Err-play_callers.result.flash) g.O.Origin.entry device _ input
    (c.back-flash-in-Err-play_callers.ensures c.args.config (one_flash inner) _ c.requires.origin)
    (none_came (one_part (part_at g.O.Origin.entry)) c.args.config c.args.steps.now s device c.in-Err-play_callers.ensures.memory c.in-Ok.ensures.started c.in-Ok.ensures.kept.0)
    (subst AreValues c.history.ensures.entries c.history_values.ensures) c.in-Ok.ensures.size)

pub returns-in-Err-clause-promise : goal.returns-in-Err-clause-promise
returns-in-Err-clause-promise g c input =
    early_in History mode.Run c.args.config c.args.steps.now (g.F.Flash.told c.args.flash) (g.F.Flash.told c.in-Err.field-0-1.flash) c.in-Err.stop c.report.result _ _ input c.in-Err.ensures.stopped c.report.ensures.line

pub returns-in-Err-clause-late : goal.returns-in-Err-clause-late
returns-in-Err-clause-late g c early = stopped_late c.args.config _ c.in-Err.stop c.report.result c.in-Err.ensures.stopped.why c.report.ensures.status early
