-- A text with the line of one more entry.
use Rattle.std.specs.Prelude.{IfSome}
use Rattle.std.proofs.Common.{◌≡◌, ◌+◌, ◌-◌, ℕ, List, [], ◌∷◌, ◌++◌, Option, Some, take, drop, ap, sym, ◌∙◌, subst, append-nil, arith}
use Rattle.std.proofs.Math.Seq.{take-add}
use Rattle.std.proofs.lemmas.List.Concat.{flat_map-append}
use Rattle.block_machine.specs.nv_base.declared.entry.Entry.{Entry}
use Rattle.nvm_script.specs.Lines.{entry_line}
use Rattle.nvm_script.specs.Printed.{history_text}

pub line_of : (read : Option Entry) (e : Entry) (line : List ℕ) → read ≡ Some e → IfSome read (λ x. entry_line x ≡ line) → entry_line e ≡ line
line_of read e line is reads = subst (λ (r : Option Entry). IfSome r (λ x. entry_line x ≡ line)) is reads

pub one_more : (text : List ℕ) (entries : List Entry) (e : Entry) (at n : ℕ) → history_text entries ≡ take at text → entry_line e ≡ take (at + n - at) (drop at text) → history_text (entries ++ e ∷ []) ≡ take (at + n) text
one_more text entries e at n before line =
    flat_map-append entry_line entries (e ∷ []) ∙ ap (λ (l : List ℕ). history_text entries ++ l) (append-nil (entry_line e)) ∙ ap (λ (l : List ℕ). l ++ entry_line e) before ∙ ap (λ (l : List ℕ). take at text ++ l) (line ∙ ap (λ (k : ℕ). take k (drop at text)) same) ∙ sym (take-add at n text)
  where
    same : at + n - at ≡ n
    same = omega arith
