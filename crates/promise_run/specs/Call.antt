-- The call that a run belongs to.
use Rattle.std.specs.Prelude.{◌≡◌, ◌⊎◌, ℕ, List, [], ◌∷◌, ◌++◌, length, take, codes, Option, Some, None, IfSome, Ok}
use Rattle.nv_streams.specs.Sink.{Written, Puts, PutsPart}
use Rattle.block_machine.specs.block_config.Reading.{meaning_of}
use Rattle.fls_model.specs.Told.{Told}
use Rattle.nvm_script.specs.declared.script.Mode.{Mode}
use Rattle.nvm_script.specs.declared.script.Mode.TheVariants as mode
use Rattle.script_walks.specs.Words.{Step}
use Rattle.nvm_script.specs.Lines.{end_line}
use Rattle.nvm_script.specs.Printed.{history_lines}
use Rattle.nvm_script.specs.Script.{IsScript, first_line, later_lines}
use Rattle.block_machine.specs.Words.{Entry}
use Rattle.promise_run.specs.Beside.{Beside}
use Rattle.promise_run.specs.Run.{Run, cap, Course, Played, Ran, End, Whole, FlashFault, HistoryFull, Memory}

-- A call of `play` or `run` from the attach of its flash on: its input, its exit status, and what its flash and its output
-- tell before and behind it.
pub record Call : Type 0 where
  pub mode : Mode
  pub input : Option (List ℕ)
  pub status : ℕ
  pub entry : Told
  pub exit : Told
  pub written : Written
  pub written_after : Written

-- the steps of the script, made and left
abbrev pub IsCourseOf : Mode → List Step → Course → Type 0
IsCourseOf mode.Play steps (Played made pieces left) = made ++ left ≡ steps
IsCourseOf mode.Run steps (Ran all looks) = all ≡ steps
IsCourseOf m steps course = ⊥

-- the first line means the configuration, and the later lines are the steps
pub record IsInputOf (m : Mode) (r : Run) (input : List ℕ) : Type 0 where
  pub configuration : meaning_of (first_line input) ≡ Ok r.configuration
  pub steps : List Step
  pub script : IsScript r.configuration m 2 [] (later_lines input) steps
  pub course : IsCourseOf m steps r.course

-- the exit status of an end
abbrev pub status_of_end : End → ℕ
status_of_end Whole = 0
status_of_end FlashFault = 7
status_of_end Memory = 8
status_of_end HistoryFull = 11

-- the last line; none for want of memory
abbrev pub last_line : End → List Entry → List ℕ
last_line Whole h = end_line (length h)
last_line FlashFault h = codes "flash fault\n"
last_line HistoryFull h = codes "history full\n"
last_line Memory h = codes ""

-- the text of a run, line by line: that of its history, and its last line
abbrev pub text_of : Run → List (List ℕ)
text_of r = history_lines r.history ++ last_line r.end r.history ∷ []

-- The output is this text, the lines of these entries with a last one, and each line is one put; at want of memory some of the
-- entries' lines, from the first on, and where the output failed, with status 6 in place of another one, a beginning of the text.
abbrev pub EndsWith : List Entry → List (List ℕ) → Call → End → Type 0
EndsWith entries text call Memory = (call.status ≡ 8) × ((n : ℕ) × Puts call.written call.written_after (history_lines (take n entries)))
EndsWith entries text call end =
    ((call.status ≡ status_of_end end) × Puts call.written call.written_after text)
    ⊎ ((call.status ≡ 6) × PutsPart call.written call.written_after text)

-- the output of a run's call is that of the run
abbrev pub Ends : Call → Run → End → Type 0
Ends call r end = EndsWith r.history (text_of r) call end

-- the run is this call's: its configuration, its steps, the most entries of a program's history, its one flash, its status and its
-- output
pub record IsRunOf (call : Call) (r : Run) : Type 0 where
  pub input : IfSome call.input (IsInputOf call.mode r)
  pub most : r.most ≡ cap
  pub entry : r.flash.entry ≡ call.entry
  pub exit : r.flash.exit ≡ call.exit
  pub beside : r.beside ≡ None
  pub ends : Ends call r r.end

-- over two flashes: and the second one told this before and behind the call
pub record IsRunOfBoth (call : Call) (entry exit : Told) (r : Run) (b : Beside) : Type 0 where
  pub input : IfSome call.input (IsInputOf call.mode r)
  pub most : r.most ≡ cap
  pub entry_first : r.flash.entry ≡ call.entry
  pub exit_first : r.flash.exit ≡ call.exit
  pub beside : r.beside ≡ Some b
  pub entry_second : b.flash.entry ≡ entry
  pub exit_second : b.flash.exit ≡ exit
  pub ends : Ends call r r.end
