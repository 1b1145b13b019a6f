use Rattle.std.proofs.Common.{◌∙◌, rules}
use Rattle.std.proofs.lemmas.List.{take_rest}
use Rattle.nvm_lines.proofs.Printing.{line-more, line-part}
use Rattle.nvm_lines.proofs.output.put_lines.Goals as goal

pub returns-in_default-clause-part : goal.returns-in_default-clause-part
returns-in_default-clause-part g c =
    line-part (g.K.Sink.written c.args.output.now) (g.K.Sink.written c.loop-at.output) (g.K.Sink.written c.put_line.new.output) c.args.text.now c.loop-at.at c.line_length.result (rw take_rest at c.line_length.ensures.first) c.loop-at.invariant.lines c.in_default.ensures.part

pub loop-at-preserved : goal.loop-at-preserved
loop-at-preserved g c = record {
  place = search rules;
  faults = c.in-Ok.ensures.ok ∙ c.loop-at.invariant.faults;
  lines = line-more (g.K.Sink.written c.args.output.now) (g.K.Sink.written c.loop-at.output) (g.K.Sink.written c.put_line.new.output) c.args.text.now c.loop-at.at c.line_length.result (rw take_rest at c.line_length.ensures.first) c.loop-at.invariant.lines c.in-Ok.ensures.line;
}
