use Rattle.std.proofs.Common.{ℕ, ◌-◌, drop, take, List, ◌∙◌, arith, subst}
use Rattle.nv_streams.specs.Sink.{Puts}
use Rattle.nv_base.specs.declared.entry.Entry.{Entry}
use Rattle.nvm_script.specs.Printed.{history_lines}
use Rattle.nvm_lines.proofs.Printing.{entries-more, entries-part, entries-wanting, piece-at, piece-past}
use Rattle.nvm_lines.proofs.output.write_entries.Goals as goal
use Rattle.nvm_lines.proofs.output.write_entries.Goals.{in-Some+in_ok-line+in-Ok, in_default}

pub returns-in_default-put_line-clause-part : goal.returns-in_default-put_line-clause-part
returns-in_default-put_line-clause-part g c =
    entries-part _ _ _ _ (c.loop-i.i - c.args.from) _ _ (piece-at c.args.history.now.entries c.args.from c.loop-i.i c.args.to _ c.loop-i.invariant.1.0 (omega arith) c.in-Some.ensures) c.loop-i.invariant.1.1 (cc (c.as_slice.ensures.value, c.in_ok-line.ensures)) c.in_default-put_line.ensures.part

pub returns-in_err-line-clause-part : goal.returns-in_err-line-clause-part
returns-in_err-line-clause-part g c = entries-wanting _ _ (take (c.args.to - c.args.from) (drop c.args.from c.args.history.now.entries)) (c.loop-i.i - c.args.from) _ c.from_residual.ensures.1 c.loop-i.invariant.1.1

pub loop-i-preserved : goal.loop-i-preserved
loop-i-preserved g c = elim c.match-entry.branch [
  | in-Some+in_ok-line+in-Ok w ↦
      rw w.output-is (
        w.in-Ok.ensures.ok ∙ c.loop-i.invariant.0,
        (
          (let less = c.loop-i.invariant.1.0 in omega (arith, less)),
          subst (λ (n : ℕ). Puts (g.K.Sink.written c.args.output.now) (g.K.Sink.written w.put_line.new.output) (history_lines (take n (take (c.args.to - c.args.from) (drop c.args.from c.args.history.now.entries))))) (let less = c.loop-i.invariant.1.0 in omega (arith, less))
              (entries-more _ _ _ (take (c.args.to - c.args.from) (drop c.args.from c.args.history.now.entries)) (c.loop-i.i - c.args.from) _ _ (piece-at c.args.history.now.entries c.args.from c.loop-i.i c.args.to _ c.loop-i.invariant.1.0 (omega arith) w.in-Some.ensures) c.loop-i.invariant.1.1 (cc (w.as_slice.ensures.value, w.in_ok-line.ensures)) w.in-Ok.ensures.line),
        ),
      )
  | in_default w ↦
      rw w.output-is (
        c.loop-i.invariant.0,
        (
          (let less = c.loop-i.invariant.1.0 in omega (arith, less)),
          subst (λ (es : List Entry). Puts (g.K.Sink.written c.args.output.now) (g.K.Sink.written c.loop-i.output) (history_lines es)) (piece-past c.args.history.now.entries c.args.from c.loop-i.i c.args.to c.loop-i.invariant.1.0 w.in_default.ensures) c.loop-i.invariant.1.1,
        ),
      )
]
