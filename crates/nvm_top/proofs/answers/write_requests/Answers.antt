use Rattle.std.proofs.Common.{◌+◌, ◌-◌, ℕ, take, drop, slice_index_or, refl, ◌∙◌, subst, arith}
use Rattle.nvm_lines.specs.nv_streams.Sink.{Puts}
use Rattle.nvm_script.specs.Printed.{history_lines}
use Rattle.script_player.proofs.Making.{on_ok, if_err}
use Rattle.nvm_lines.specs.Output.{BreaksOff}
use Rattle.nvm_top.specs.Uds.{lines_by, lines_of_history}
use Rattle.nvm_top.proofs.AnswerLines.{entries_first, next_count, piece_put, piece_broken, rest_put, rest_broken}
use Rattle.nvm_top.proofs.answers.write_requests.Goals as goal

pub returns-in-Err-clause-part : goal.returns-in-Err-clause-part
returns-in-Err-clause-part g c =
    entries_first c.in-Err.fault (take 1 c.args.history.now.entries) (lines_by c.args.config.now c.args.requests.now c.args.counts.now (drop 1 c.args.history.now.entries)) (g.K.Sink.written c.args.output.now) (g.K.Sink.written c.write_entries.new.output) c.in-Err.ensures.part

pub overflow_add-to : goal.overflow_add-to
overflow_add-to g c =
    let more = next_count c.args.counts.now c.loop-i.i (slice_index_or c.args.counts.now c.loop-i.i 0) 0 c.loop-i-test.true refl in
    let within = c.loop-i.invariant.within in
    let all = c.len-end.ensures.count in
    omega (arith, more, within, all)

pub returns-in-Err-write_piece-clause-part : goal.returns-in-Err-write_piece-clause-part
returns-in-Err-write_piece-clause-part g c =
    let w = g.K.Sink.written c.args.output.now in
    let n = slice_index_or c.args.counts.now c.loop-i.i 0 in
    let fewer = c.requires.pieces.fewer in
    let before = c.loop-i-test.true in
    piece_broken w (g.K.Sink.written c.loop-i.output) (g.K.Sink.written c.write_piece.new.output) c.in-Err-write_piece.fault (lines_of_history c.args.config.now c.args.requests.now c.args.counts.now c.args.history.now.entries) c.args.config.now c.args.requests.now c.args.counts.now c.args.history.now.entries
    c.loop-i.i c.loop-i.from (c.loop-i.from + n) n c.as_slice.result.now c.index-requests-i.result 0 (omega (arith, fewer, before)) (c.as_slice.ensures ∙ c.index-requests-i.is) c.loop-i-test.true refl refl c.loop-i.invariant.put c.in-Err-write_piece.ensures.part

pub loop-i-preserved : goal.loop-i-preserved
loop-i-preserved g c =
    let w = g.K.Sink.written c.args.output.now in
    let n = slice_index_or c.args.counts.now c.loop-i.i 0 in
    let fewer = c.requires.pieces.fewer in
    let before = c.loop-i-test.true in
    record {
      same = c.in_default-write_piece.ensures.ok ∙ c.loop-i.invariant.same;
      within =
          let more = next_count c.args.counts.now c.loop-i.i n 0 c.loop-i-test.true refl in
          let within = c.loop-i.invariant.within in omega (arith, more, within);
      put =
          piece_put w (g.K.Sink.written c.loop-i.output) (g.K.Sink.written c.write_piece.new.output) (lines_of_history c.args.config.now c.args.requests.now c.args.counts.now c.args.history.now.entries) c.args.config.now c.args.requests.now c.args.counts.now c.args.history.now.entries
          c.loop-i.i c.loop-i.from (c.loop-i.from + n) n c.as_slice.result.now c.index-requests-i.result 0 (omega (arith, fewer, before)) (c.as_slice.ensures ∙ c.index-requests-i.is) c.loop-i-test.true refl refl c.loop-i.invariant.put c.in_default-write_piece.ensures.lines;
    }

pub returns-clause-lines : goal.returns-clause-lines
returns-clause-lines g c =
    let past = c.loop-i-test.false in
    on_ok c.write_entries-2.result c.write_entries-2.ensures.lines
    (λ put. rest_put (g.K.Sink.written c.args.output.now) (g.K.Sink.written c.loop-i.output) (g.K.Sink.written c.write_entries-2.new.output) (lines_of_history c.args.config.now c.args.requests.now c.args.counts.now c.args.history.now.entries) c.args.config.now c.args.requests.now c.args.counts.now c.args.history.now.entries
    c.loop-i.i c.loop-i.from (omega (arith, past)) c.loop-i.invariant.put
    (subst (λ (k : ℕ). Puts (g.K.Sink.written c.loop-i.output) (g.K.Sink.written c.write_entries-2.new.output) (history_lines (take (k - c.loop-i.from) (drop c.loop-i.from c.args.history.now.entries)))) c.len-end.ensures.count put))

pub returns-clause-part : goal.returns-clause-part
returns-clause-part g c =
    let past = c.loop-i-test.false in
    if_err c.write_entries-2.result c.write_entries-2.ensures.part
    (λ fault part. rest_broken (g.K.Sink.written c.args.output.now) (g.K.Sink.written c.loop-i.output) (g.K.Sink.written c.write_entries-2.new.output) fault (lines_of_history c.args.config.now c.args.requests.now c.args.counts.now c.args.history.now.entries) c.args.config.now c.args.requests.now c.args.counts.now c.args.history.now.entries
    c.loop-i.i c.loop-i.from (omega (arith, past)) c.loop-i.invariant.put
    (subst (λ (k : ℕ). BreaksOff fault (take (k - c.loop-i.from) (drop c.loop-i.from c.args.history.now.entries)) (g.K.Sink.written c.loop-i.output) (g.K.Sink.written c.write_entries-2.new.output)) c.len-end.ensures.count part))
