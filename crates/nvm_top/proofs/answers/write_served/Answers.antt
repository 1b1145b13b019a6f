use Rattle.std.proofs.Common.{rules, ◌≢◌, Err}
use Rattle.nvm_lines.specs.declared.stop.Stop.TheVariants as stop
use Rattle.nvm_top.specs.Uds.{lines_of_history}
use Rattle.nvm_top.proofs.AnswerLines.{served_broken, served_ends, served_stops}
use Rattle.nvm_top.proofs.answers.write_served.Goals as goal

pub returns-in-Err-clause-text : goal.returns-in-Err-clause-text
returns-in-Err-clause-text g c =
    let differs : c.args.run ≢ Err stop.Memory = search rules in
    served_broken c.args.run c.in-Err.fault c.args.history.now.entries (lines_of_history c.args.config.now c.args.requests.now c.args.counts.now c.args.history.now.entries) _ _ _ differs c.status.ensures c.in-Err.ensures.part

pub returns-in-Ok-clause-text : goal.returns-in-Ok-clause-text
returns-in-Ok-clause-text g c =
    served_ends c.args.run c.in-Ok.field-0 c.args.history.now.entries (lines_of_history c.args.config.now c.args.requests.now c.args.counts.now c.args.history.now.entries) _ _ _ _ c.in-Ok.is c.in_default.ensures.lines c.write_end.ensures.line

pub returns-in-Err-run-clause-text : goal.returns-in-Err-run-clause-text
returns-in-Err-run-clause-text g c =
    served_stops c.args.run c.in-Err-run.stop c.args.history.now.entries (lines_of_history c.args.config.now c.args.requests.now c.args.counts.now c.args.history.now.entries) _ _ _ _ c.in-Err-run.is c.in_default.ensures.lines c.report.ensures.line
