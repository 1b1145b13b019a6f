-- What is left of the text that was printed is text.
use denote.Text.{Utf8}
use denote.Shadow.{shadow}
use Rattle.nvm_rows.proofs.plain.show_lines.Given as goal

abbrev pub invariant-loop-line : goal.invariant-loop-line
invariant-loop-line g l =
    (goal.iterator-loop-line g).can_next l.line-iterator ×
    (goal.iterator-loop-line g).is_finite l.line-iterator ×
    shadow (Utf8 l.printed)
