use Rattle.std.proofs.Common.{◌≡◌, ◌+◌, ◌-◌, ◌∷◌, [], ◌++◌, take, drop, ap, ◌∙◌, rules}
use Rattle.nvm_script.specs.Lines.{entry_line}
use Rattle.nvm_script.specs.Printed.{history_text}
use Rattle.rows_histories.proofs.Reading.{line_of, one_more}
use Rattle.rows_histories.proofs.histories.read_history.Goals as goal

pub loop-at-preserved : goal.loop-at-preserved
loop-at-preserved c =
    let line : entry_line c.in-Some.entry ≡ take (c.loop-at.at + c.line_length.result - c.loop-at.at) (drop c.loop-at.at c.args.text.now) = line_of c.in_ok-entry.field-0 c.in-Some.entry _ c.in-Some.is c.in_ok-entry.ensures in
    record {
      place = search rules;
      cap = ap (λ h. h.cap) c.add.ensures ∙ ap (λ h. h.cap) c.reserve.ensures.same ∙ c.loop-at.invariant.cap;
      lines =
          ap (λ h. history_text h.entries) c.add.ensures ∙ ap (λ h. history_text (h.entries ++ c.in-Some.entry ∷ [])) c.reserve.ensures.same
          ∙ one_more c.args.text.now c.loop-at.history.entries c.in-Some.entry c.loop-at.at c.line_length.result c.loop-at.invariant.lines line;
    }
