-- What is written of a run.
use Rattle.std.proofs.Common.{◌≡◌, ◌≢◌, ℕ, List, [], ◌∷◌, ◌++◌, length, take, Result, Ok, Err, refl, sym, ap, ◌∙◌, subst}
use Rattle.std.proofs.Math.Seq.{take-length}
use Rattle.nvm_lines.specs.nv_streams.Sink.{Written, Puts, PutsPart}
use Rattle.nvm_lines.proofs.nv_streams.Puts.{Puts-nil, Puts-trans, PutsPart-longer, PutsPart-behind}
use Rattle.nvm_flash.specs.nv_base.declared.entry.Entry.{Entry}
use Rattle.nvm_script.specs.Lines.{end_line}
use Rattle.nvm_script.specs.Cut.{cut_lines}
use Rattle.nvm_script.specs.Printed.{history_lines}
use Rattle.nvm_script.specs.Summary.{summary}
use Rattle.nvm_lines.specs.Output.{Writes, BreaksOff, IsEndOf, fault_status}
use Rattle.nvm_top.specs.Runs.{status_of_run, lines_written}
use Rattle.nvm_lines.specs.Stop.{status_of, line_of, IsStop}
use Rattle.nvm_lines.specs.declared.stop.Stop.{Stop}
use Rattle.nvm_lines.specs.declared.stop.Stop.TheVariants as stop
use Rattle.nvm_lines.specs.declared.output.OutputFault.{OutputFault}
use Rattle.nvm_lines.specs.declared.output.OutputFault.TheVariants.{Failed, Memory as OutOfMemory}
use Rattle.nvm_top.specs.declared.runs.RunText.{RunText}
use Rattle.nvm_top.specs.declared.runs.RunText.TheVariants.{History, Summary}
use Rattle.nvm_top.specs.Promised.{WritesText, entries_in}
use Rattle.nvm_lines.specs.declared.status.Status.{Status}
use Rattle.nvm_lines.specs.declared.status.Status.TheVariants as status
use Rattle.nvm_top.proofs.RunLines.{not_wanting}

-- a lines behind those of entries
text_behind : (P : Status → List (List ℕ) → Type 0) (meant : Status) (entries : List Entry) (lines : List (List ℕ)) (w w1 w2 : Written) (x : Status) → ((y : Status) (l : List (List ℕ)) → P y l → (meant ≢ status.Memory) × (y ≡ meant) × (l ≡ lines)) → Puts w w1 (history_lines entries) → Writes P w1 w2 x
    → WritesText meant entries lines w w2 x
text_behind P meant entries lines w w1 w2 status.Memory leads before is =
    (length entries, subst (λ (o : Written). Puts w o (history_lines (take (length entries) entries))) (sym is) (subst (λ (es : List Entry). Puts w w1 (history_lines es)) (sym (take-length entries)) before))
text_behind P meant entries lines w w1 w2 status.WriteFault leads before is =
    ((leads is.0 is.1 is.2).0, subst (λ (l : List (List ℕ)). PutsPart w w2 (history_lines entries ++ l)) (leads is.0 is.1 is.2).2 (PutsPart-behind w w1 w2 (history_lines entries) is.1 before is.3))
text_behind P meant entries lines w w1 w2 x leads before is =
    ((leads x is.0 is.1).1, subst (λ (l : List (List ℕ)). Puts w w2 (history_lines entries ++ l)) (leads x is.0 is.1).2 (Puts-trans w w1 w2 (history_lines entries) is.0 before is.2))

-- the lines of a stop
stop_behind : (why : Stop) (meant : Status) (entries : List Entry) (lines : List (List ℕ)) (w w1 w2 : Written) (x : Status) → meant ≡ status_of why → lines ≡ line_of why ∷ [] → Puts w w1 (history_lines entries) → Writes (IsStop why) w1 w2 x → WritesText meant entries lines w w2 x
stop_behind why meant entries lines w w1 w2 x one two before is =
    text_behind (IsStop why) meant entries lines w w1 w2 x (λ y l at. (λ e. not_wanting why at.0 (sym one ∙ e), at.1 ∙ sym one, at.2 ∙ sym two)) before is

-- alone
pub stop_alone : (why : Stop) (meant : Status) (lines : List (List ℕ)) (w w' : Written) (x : Status) → meant ≡ status_of why → lines ≡ line_of why ∷ [] → Writes (IsStop why) w w' x → WritesText meant [] lines w w' x
stop_alone why meant lines w w' x one two is = stop_behind why meant [] lines w w w' x one two (Puts-nil w) is

-- AN END

-- the lines of entries break off
broken_by : (meant : Status) (lines : List (List ℕ)) (fault : OutputFault) (entries : List Entry) (w w' : Written) → meant ≢ status.Memory → BreaksOff fault entries w w' → WritesText meant entries lines w w' (fault_status fault)
broken_by meant lines Failed entries w w' other is = (other, PutsPart-longer w w' (history_lines entries) lines is)
broken_by meant lines OutOfMemory entries w w' other is = is

wants_none : (run : Result (Unit {0}) Stop) → run ≢ Err stop.Memory → status_of_run run ≢ status.Memory
wants_none (Ok done) other e = cc
wants_none (Err why) other e = not_wanting why (λ is. other (ap (λ (w : Stop). Err w) is)) e

pub broken_text : (run : Result (Unit {0}) Stop) (lines : List (List ℕ)) (fault : OutputFault) (entries : List Entry) (w w' : Written) (x : Status) → run ≢ Err stop.Memory → x ≡ fault_status fault → BreaksOff fault entries w w' → WritesText (status_of_run run) entries lines w w' x
broken_text run lines fault entries w w' x other same is = subst (λ (y : Status). WritesText (status_of_run run) entries lines w w' y) (sym same) (broken_by (status_of_run run) lines fault entries w w' (wants_none run other) is)

-- a run that is over, and one that stops
pub ended_text : (run : Result (Unit {0}) Stop) (done : Unit {0}) (entries : List Entry) (w w1 w2 : Written) (x : Status) → run ≡ Ok done → Puts w w1 (history_lines entries) → Writes (IsEndOf entries) w1 w2 x
    → WritesText (status_of_run run) entries (lines_written History run entries) w w2 x
ended_text run done entries w w1 w2 x e before is =
    subst (λ (r : Result (Unit {0}) Stop). WritesText (status_of_run r) entries (lines_written History r entries) w w2 x) (sym e)
    (text_behind (IsEndOf entries) status.Ok entries (end_line (length entries) ∷ []) w w1 w2 x (λ y l at. (λ none. cc, at.0, at.1)) before is)

pub stopped_text : (text : RunText) (run : Result (Unit {0}) Stop) (why : Stop) (entries : List Entry) (w w1 w2 : Written) (x : Status) → run ≡ Err why → Puts w w1 (history_lines (entries_in text entries)) → Writes (IsStop why) w1 w2 x
    → WritesText (status_of_run run) (entries_in text entries) (lines_written text run entries) w w2 x
stopped_text text run why entries w w1 w2 x e before is =
    subst (λ (r : Result (Unit {0}) Stop). WritesText (status_of_run r) (entries_in text entries) (lines_written text r entries) w w2 x) (sym e)
    (stop_behind why (status_of why) (entries_in text entries) (lines_written text (Err why) entries) w w1 w2 x refl (its_line text) before is)
  where
    its_line : (t : RunText) → lines_written t (Err why) entries ≡ line_of why ∷ []
    its_line History = refl
    its_line Summary = refl

-- a summary that breaks off
pub summary_broken : (run : Result (Unit {0}) Stop) (done : Unit {0}) (entries : List Entry) (w w' : Written) (text : List ℕ) → run ≡ Ok done → text ≡ summary entries → PutsPart w w' (cut_lines text) → WritesText (status_of_run run) [] (lines_written Summary run entries) w w' status.WriteFault
summary_broken run done entries w w' text e is part =
    subst (λ (r : Result (Unit {0}) Stop). WritesText (status_of_run r) [] (lines_written Summary r entries) w w' status.WriteFault) (sym e) (λ none. cc, subst (λ (l : List ℕ). PutsPart w w' (cut_lines l)) is part)
