use Rattle.std.proofs.Common.{◌≡◌, [], Ok, sym, ap, ◌∙◌, subst}
use Rattle.nvm_top.specs.declared.runs.RunText.TheVariants.{Summary}
use Rattle.nvm_lines.specs.declared.status.Status.{Status}
use Rattle.nvm_lines.specs.Output.{fault_status}
use Rattle.nvm_top.specs.Promised.{WritesText}
use Rattle.nvm_top.specs.Runs.{lines_written, status_of_run}
use Rattle.nvm_top.proofs.Texts.{summary_broken}
use Rattle.nvm_top.proofs.runs.write_summary.Goals as goal

pub returns-clause-text : goal.returns-clause-text
returns-clause-text g c =
    let is : c.args.run ≡ Ok c.in_default.field-0 = c.in_default.is in
    let broken = summary_broken c.args.run c.in_default.field-0 c.args.history.now.entries (g.K.Sink.written c.args.output.now) (g.K.Sink.written c.put_lines.new.output) c.as_slice.result.now is (c.as_slice.ensures ∙ c.in-Ok.ensures) c.in-Err-put_lines.ensures.part in
    subst (λ (x : Status). WritesText (status_of_run c.args.run) [] (lines_written Summary c.args.run c.args.history.now.entries) (g.K.Sink.written c.args.output.now) (g.K.Sink.written c.put_lines.new.output) x)
    (sym (c.status.ensures ∙ ap fault_status c.in-Err-put_lines.ensures.failed.0)) broken
