use Rattle.std.proofs.Common.{sym, subst}
use Rattle.nvm_top.specs.declared.runs.RunText.{RunText}
use Rattle.nvm_top.specs.Promised.{WritesText, entries_in}
use Rattle.nvm_top.specs.Runs.{lines_written, status_of_run}
use Rattle.nvm_top.proofs.runs.write_text.Goals as goal

pub returns-in-History-clause-text : goal.returns-in-History-clause-text
returns-in-History-clause-text g c =
    subst (λ (t : RunText). WritesText (status_of_run c.args.run) (entries_in t c.args.history.now.entries) (lines_written t c.args.run c.args.history.now.entries) (g.K.Sink.written c.args.output.now) (g.K.Sink.written c.write_run.new.output) c.write_run.result) (sym c.in-History.is) c.write_run.ensures.text

pub returns-in-Summary-clause-text : goal.returns-in-Summary-clause-text
returns-in-Summary-clause-text g c =
    subst (λ (t : RunText). WritesText (status_of_run c.args.run) (entries_in t c.args.history.now.entries) (lines_written t c.args.run c.args.history.now.entries) (g.K.Sink.written c.args.output.now) (g.K.Sink.written c.write_summary.new.output) c.write_summary.result) (sym c.in-Summary.is) c.write_summary.ensures.text
