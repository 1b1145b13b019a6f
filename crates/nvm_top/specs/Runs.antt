-- How a run of steps ends, and its summary.
use Rattle.std.specs.Prelude.{ℕ, List, [], ◌∷◌, length, Result, Ok, Err}
use Rattle.nvm_flash.specs.nv_base.declared.entry.Entry.{Entry}
use Rattle.nvm_script.specs.Cut.{cut_lines}
use Rattle.nvm_script.specs.Lines.{end_line}
use Rattle.nvm_script.specs.Summary.{summary}
use Rattle.nvm_flash.specs.promise_run.Run.{End, FlashFault, HistoryFull, Memory}
use Rattle.script_player.specs.declared.steps.StepFault.{StepFault}
use Rattle.script_player.specs.declared.steps.StepFault.TheVariants as fault
use Rattle.nvm_lines.specs.declared.status.Status.{Status}
use Rattle.nvm_lines.specs.declared.status.Status.TheVariants as status
use Rattle.nvm_lines.specs.declared.stop.Stop.{Stop}
use Rattle.nvm_lines.specs.declared.stop.Stop.TheVariants as stop
use Rattle.nvm_top.specs.declared.runs.RunText.{RunText}
use Rattle.nvm_top.specs.declared.runs.RunText.TheVariants.{History, Summary}
use Rattle.nvm_lines.specs.Stop.{status_of, line_of}

-- a command stops where its steps stopped
abbrev pub stop_of_fault : StepFault → Stop
stop_of_fault fault.Flash = stop.FlashFault
stop_of_fault fault.HistoryFull = stop.HistoryFull
stop_of_fault fault.Memory = stop.Memory

-- so does the run of the promise
abbrev pub end_of : StepFault → End
end_of fault.Flash = FlashFault
end_of fault.HistoryFull = HistoryFull
end_of fault.Memory = Memory

abbrev pub run_of : Result (Unit {0}) StepFault → Result (Unit {0}) Stop
run_of (Ok done) = Ok done
run_of (Err x) = Err (stop_of_fault x)

-- the status of a run that is over, or that stops
abbrev pub status_of_run : Result (Unit {0}) Stop → Status
status_of_run (Ok done) = status.Ok
status_of_run (Err why) = status_of why

-- the lines that are written last of a run in one of these texts: how many entries it has, or the summary of its history; of
-- one that stops its line
abbrev pub lines_written : RunText → Result (Unit {0}) Stop → List Entry → List (List ℕ)
lines_written History (Ok done) entries = end_line (length entries) ∷ []
lines_written Summary (Ok done) entries = cut_lines (summary entries)
lines_written text (Err why) entries = line_of why ∷ []

-- so of requests that were served: how many entries there are, or why no more were
abbrev pub last_of : Result (Unit {0}) Stop → List Entry → List ℕ
last_of (Ok done) entries = end_line (length entries)
last_of (Err why) entries = line_of why
