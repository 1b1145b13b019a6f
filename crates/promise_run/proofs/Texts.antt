-- The text of a call tells its history.
use Rattle.std.specs.Prelude.{IfSome, ◌==◌, slice_index}
use Rattle.std.specs.Io.KnownBytes.{Appends}
use Rattle.std.proofs.Common.{◌≡◌, ◌≢◌, inl, inr, ℕ, true, false, List, [], ◌∷◌, ◌++◌, length, Option, Some, None, sym, ap, ◌∙◌, subst}
use Rattle.std.proofs.lemmas.List.{append_cancel_left, append-nil}
use Rattle.std.proofs.lemmas.List.Folds.{concat-append}
use Rattle.std.specs.List.{concat}
use Rattle.nv_streams.specs.Sink.{Puts}
use Rattle.nvm_script.specs.Printed.{BeginsNoEntry, history_lines, history_text}
use Rattle.nvm_script.proofs.EntryLaws.{ends_begin_no_entry, lines_joined}
use Rattle.block_machine.specs.Words.{Entry, Ask, Configuration}
use Rattle.block_machine.specs.Legal.{IsLegal}
use Rattle.script_walks.proofs.Texts.{texts_tell_legal_histories}
use Rattle.promise_run.specs.Call.{Call, Ends, IsInputOf, last_line, text_of}
use Rattle.promise_run.specs.Run.{Run, End, Whole, FlashFault, HistoryFull, Memory, cap}
use Rattle.promise_run.specs.Texts.{CallsTellHistories}

-- no last line begins as an entry
last_begins : (end : End) (h : List Entry) → BeginsNoEntry (last_line end h)
last_begins Whole h e rest is = ends_begin_no_entry.1 (length h) e rest is
last_begins Memory h e rest is = ends_begin_no_entry.0 e rest is
last_begins FlashFault h (Ask caller r p) rest e = let second : true ≡ false = ap (λ (l : List ℕ). slice_index l 1 == 108) e in cc second
last_begins FlashFault h _ rest e = let second : true ≡ false = ap (λ (l : List ℕ). slice_index l 1 == 108) e in cc second
last_begins HistoryFull h (Ask caller r p) rest e = let first : true ≡ false = ap (λ (l : List ℕ). slice_index l 0 == 104) e in cc first
last_begins HistoryFull h _ rest e = let first : true ≡ false = ap (λ (l : List ℕ). slice_index l 0 == 104) e in cc first

-- the whole text was written
whole : (call : Call) (r : Run) (end : End) → call.status ≢ 6 → call.status ≢ 8 → Ends call r end → Puts call.written call.written_after (text_of r)
whole call r Memory six eight (is, text) = absurd (eight is)
whole call r Whole six eight (inl (is, text)) = text
whole call r Whole six eight (inr (is, text)) = absurd (six is)
whole call r FlashFault six eight (inl (is, text)) = text
whole call r FlashFault six eight (inr (is, text)) = absurd (six is)
whole call r HistoryFull six eight (inl (is, text)) = text
whole call r HistoryFull six eight (inr (is, text)) = absurd (six is)

same_text : (w w' : Option (List ℕ)) (before a b : List ℕ) → w ≡ Some before → Appends w w' a → Appends w w' b → a ≡ b
same_text None w' before a b is one two = cc
same_text (Some xs) None before a b is one two = absurd one
same_text (Some xs) (Some ys) before a b is one two = append_cancel_left xs a b (sym one ∙ two)

if_read : (o : Option (List ℕ)) (input : List ℕ) (P : List ℕ → Type 0) → o ≡ Some input → IfSome o P → P input
if_read (Some x) input P is has = (let e : x ≡ input = cc is in subst P e has)
if_read None input P is has = cc is

same_configuration : (call : Call) (r s : Run) (input : List ℕ) → IsInputOf call.mode r input → IsInputOf call.mode s input → r.configuration ≡ s.configuration
same_configuration call r s input a b = (let both = sym a.configuration ∙ b.configuration in cc both)

-- the lines joined
joined : (r : Run) → concat (text_of r) ≡ history_text r.history ++ last_line r.end r.history
joined r =
    concat-append (history_lines r.history) (last_line r.end r.history ∷ [])
    ∙ ap (λ (l : List ℕ). concat (history_lines r.history) ++ l) (append-nil (last_line r.end r.history))
    ∙ ap (λ (l : List ℕ). l ++ last_line r.end r.history) (lines_joined r.history)

pub calls_tell_histories : CallsTellHistories
calls_tell_histories call r s printed a b =
    let same = same_configuration call r s printed.input (if_read call.input printed.input (IsInputOf call.mode r) printed.read a.run.input) (if_read call.input printed.input (IsInputOf call.mode s) printed.read b.run.input) in
    let text = same_text call.written.bytes call.written_after.bytes printed.before (concat (text_of r)) (concat (text_of s)) printed.written
    (whole call r r.end printed.no_fault printed.no_want a.run.ends).bytes (whole call s s.end printed.no_fault printed.no_want b.run.ends).bytes in
    (texts_tell_legal_histories s.configuration cap r.history s.history (last_line r.end r.history) (last_line s.end s.history)
    (subst (λ (c : Configuration). IsLegal c cap r.history) same (subst (λ (n : ℕ). IsLegal r.configuration n r.history) a.run.most a.legal))
    (subst (λ (n : ℕ). IsLegal s.configuration n s.history) b.run.most b.legal) a.values b.values (last_begins r.end r.history) (last_begins s.end s.history) (sym (joined r) ∙ text ∙ joined s)).0
