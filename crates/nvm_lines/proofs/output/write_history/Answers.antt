use Rattle.std.proofs.Common.{List, OnOk, IfErr, subst}
use Rattle.nv_streams.specs.Sink.{Puts}
use Rattle.nv_base.specs.declared.entry.Entry.{Entry}
use Rattle.nvm_script.specs.Printed.{history_lines}
use Rattle.nvm_lines.specs.Output.{BreaksOff}
use Rattle.nvm_lines.proofs.Printing.{piece-whole}
use Rattle.nvm_lines.proofs.output.write_history.Goals as goal

pub returns-clause-lines : goal.returns-clause-lines
returns-clause-lines g c =
    subst (λ (es : List Entry). OnOk c.write_entries.result (Puts (g.K.Sink.written c.args.output.now) (g.K.Sink.written c.write_entries.new.output) (history_lines es))) (piece-whole c.args.history.now.entries c.len.result c.len.ensures.count) c.write_entries.ensures.lines

pub returns-clause-part : goal.returns-clause-part
returns-clause-part g c =
    subst (λ (es : List Entry). IfErr c.write_entries.result (λ fault. BreaksOff fault es (g.K.Sink.written c.args.output.now) (g.K.Sink.written c.write_entries.new.output))) (piece-whole c.args.history.now.entries c.len.result c.len.ensures.count) c.write_entries.ensures.part
