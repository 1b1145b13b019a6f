use Rattle.std.proofs.Common.{rules, ◌≡◌, ◌≢◌, Ok, Err}
use Rattle.nvm_lines.specs.declared.stop.Stop.TheVariants as stop
use Rattle.nvm_top.specs.declared.runs.RunText.TheVariants.{History}
use Rattle.nvm_top.proofs.Texts.{broken_text, ended_text, stopped_text}
use Rattle.nvm_top.proofs.runs.write_run.Goals as goal

pub returns-in-Err-clause-text : goal.returns-in-Err-clause-text
returns-in-Err-clause-text g c =
    let differs : c.args.run ≢ Err stop.Memory = search rules in
    broken_text c.args.run _ c.in-Err.fault c.args.history.now.entries _ _ _ differs c.status.ensures c.in-Err.ensures.part

pub returns-in-Ok-clause-text : goal.returns-in-Ok-clause-text
returns-in-Ok-clause-text g c =
    let is : c.args.run ≡ Ok c.in-Ok.field-0 = cc c.in-Ok.is in
    ended_text c.args.run c.in-Ok.field-0 c.args.history.now.entries _ _ _ _ is c.in_default.ensures.lines c.write_end.ensures.line

pub returns-in-Err-run-clause-text : goal.returns-in-Err-run-clause-text
returns-in-Err-run-clause-text g c =
    let is : c.args.run ≡ Err c.in-Err-run.stop = cc c.in-Err-run.is in
    stopped_text History c.args.run c.in-Err-run.stop c.args.history.now.entries _ _ _ _ is c.in_default.ensures.lines c.report.ensures.line
