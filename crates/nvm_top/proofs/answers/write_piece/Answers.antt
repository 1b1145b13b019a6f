use Rattle.std.proofs.Common.{◌-◌, drop, take, Some, sym, ap, ◌∙◌}
use Rattle.script_player.proofs.Making.{on_ok, if_err}
use Rattle.script_player.specs.uds_gateway.Answers.{uds}
use Rattle.nvm_top.specs.Uds.{answer_lines}
use Rattle.nvm_top.proofs.AnswerLines.{entries_first, answer_put, answer_broken, answer_wanting}
use Rattle.nvm_top.proofs.answers.write_piece.Goals as goal

pub returns-in-Err-clause-part : goal.returns-in-Err-clause-part
returns-in-Err-clause-part g c =
    let piece = take (c.args.to - c.args.from) (drop c.args.from c.args.history.now.entries) in
    entries_first c.in-Err.fault piece (answer_lines (uds c.args.config.now c.args.request.now piece)) (g.K.Sink.written c.args.output.now) (g.K.Sink.written c.write_entries.new.output) c.in-Err.ensures.part

pub returns-in-Ok-Some-clause-lines : goal.returns-in-Ok-Some-clause-lines
returns-in-Ok-Some-clause-lines g c =
    let piece = take (c.args.to - c.args.from) (drop c.args.from c.args.history.now.entries) in
    on_ok c.write_answer.result c.write_answer.ensures.lines
    (λ put. answer_put (g.K.Sink.written c.args.output.now) (g.K.Sink.written c.write_entries.new.output) (g.K.Sink.written c.write_answer.new.output) piece (uds c.args.config.now c.args.request.now piece) c.as_slice.result.now
    (ap Some c.as_slice.ensures ∙ sym c.in-Ok-Some.field-0-is ∙ c.in-Ok-Some.ensures) c.in_default.ensures.lines put)

pub returns-in-Ok-Some-clause-part : goal.returns-in-Ok-Some-clause-part
returns-in-Ok-Some-clause-part g c =
    let piece = take (c.args.to - c.args.from) (drop c.args.from c.args.history.now.entries) in
    if_err c.write_answer.result c.write_answer.ensures.part
    (λ fault part. answer_broken (g.K.Sink.written c.args.output.now) (g.K.Sink.written c.write_entries.new.output) (g.K.Sink.written c.write_answer.new.output) fault piece (uds c.args.config.now c.args.request.now piece) c.as_slice.result.now
    (ap Some c.as_slice.ensures ∙ sym c.in-Ok-Some.field-0-is ∙ c.in-Ok-Some.ensures) c.in_default.ensures.lines part)

pub returns-in-Err-piece_answer-clause-part : goal.returns-in-Err-piece_answer-clause-part
returns-in-Err-piece_answer-clause-part g c =
    let piece = take (c.args.to - c.args.from) (drop c.args.from c.args.history.now.entries) in
    answer_wanting (g.K.Sink.written c.args.output.now) (g.K.Sink.written c.write_entries.new.output) piece (answer_lines (uds c.args.config.now c.args.request.now piece)) c.in_default.ensures.lines
