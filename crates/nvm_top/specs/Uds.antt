-- `uds`: what its input holds, how its requests ended, and what it writes.
use Rattle.std.specs.Prelude.{◌≡◌, ◌⊎◌, ◌≢◌, ℕ, List, [], ◌∷◌, ◌++◌, ◌+◌, ◌≤◌, length, take, drop, sum_by, Option, Some, None, IfSome, Result, Ok, Err}
use Rattle.nvm_lines.specs.nv_streams.Sink.{Written, Puts, PutsPart}
use Rattle.nvm_flash.specs.nv_base.Count.{WereCounted}
use Rattle.nvm_flash.specs.block_config.Config.{Configuration}
use Rattle.nvm_flash.specs.block_machine.Words.{Instance, Mark, Entry, Found}
use Rattle.nvm_flash.specs.block_machine.Steps.{after}
use Rattle.nvm_flash.specs.fls_model.Told.{ToldBytes}
use Rattle.nvm_flash.specs.promise_run.Call.{Call, EndsWith, last_line}
use Rattle.nvm_flash.specs.promise_run.Run.{Run, End, Whole, HistoryFull, Memory, cap}
use Rattle.nvm_script.specs.Lines.{entry_line, end_line}
use Rattle.nvm_script.specs.Printed.{history_lines}
use Rattle.nvm_script.specs.Script.{later_lines}
use Rattle.nvm_script.specs.declared.script.Mode.TheVariants as mode
use Rattle.script_player.specs.Requests.{AreOfRequests, ServesRequests}
use Rattle.script_player.specs.uds_gateway.Answers.{uds}
use Rattle.script_player.specs.uds_gateway.declared.stop.ServeStop.{ServeStop}
use Rattle.script_player.specs.uds_gateway.declared.stop.ServeStop.TheVariants as serve
use Rattle.script_player.specs.script_walks.Words.{Step}
use Rattle.uds_script.specs.Lines.{uds_line}
use Rattle.uds_script.specs.Requests.{IsRequests, IsFirstWrongRequest}
use Rattle.nvm_lines.specs.declared.status.Status.{Status}
use Rattle.nvm_lines.specs.declared.status.Status.TheVariants as status
use Rattle.nvm_lines.specs.declared.output.OutputFault.{OutputFault}
use Rattle.nvm_lines.specs.declared.output.OutputFault.TheVariants as output
use Rattle.nvm_lines.specs.declared.stop.Stop.{Stop}
use Rattle.nvm_lines.specs.declared.stop.Stop.TheVariants as stop
use Rattle.nvm_lines.specs.Reading.{HasConfig, BreaksRule}
use Rattle.nvm_top.specs.Play.{StopsBy}
use Rattle.nvm_top.specs.Promised.{HasRun}
use Rattle.nvm_top.specs.Reading.{IsReadStop}
use Rattle.nvm_lines.specs.Stop.{status_of, line_of}

-- THE INPUT

-- the input isn't too long, its first line is this configuration, and its later lines have these requests
pub record HasRequests (bytes : List ℕ) (c : Configuration) (requests : List (List ℕ)) : Type 0 where
  pub config : HasConfig bytes c
  pub lines : IsRequests 2 (later_lines bytes) requests

-- of its later lines this is the first that is wrong
abbrev pub HasWrongRequest : List ℕ → ℕ → Type 0
HasWrongRequest bytes number = (c : Configuration) × HasConfig bytes c × IsFirstWrongRequest 2 (later_lines bytes) number

-- why later lines are no requests
abbrev pub IsRequestsStop : List (List ℕ) → Stop → Type 0
IsRequestsStop lines (stop.BadScript number) = IsFirstWrongRequest 2 lines number
IsRequestsStop lines stop.Memory = Unit {0}
IsRequestsStop lines _ = ⊥

-- why an input isn't served
abbrev pub IsGatewayStop : List ℕ → Stop → Type 0
IsGatewayStop bytes (stop.BadConfig rule block) = BreaksRule bytes rule block
IsGatewayStop bytes (stop.BadScript number) = HasWrongRequest bytes number
IsGatewayStop bytes stop.Memory = Unit {0}
IsGatewayStop bytes _ = ⊥

-- why it stops before its flash is attached, with the bytes of its input, where they are told
abbrev pub IsUdsStop : Option (List ℕ) → Stop → Type 0
IsUdsStop = IsReadStop HasWrongRequest

-- why it begins no run
abbrev pub UdsStopsBy : (left : Option (List ℕ)) (reads reads' : ℕ) → Option ToldBytes → Status → List (List ℕ) → Type 0
UdsStopsBy = StopsBy HasWrongRequest (λ c bytes. (requests : List (List ℕ)) × HasRequests bytes c requests)

-- THE OUTPUT

-- the line of an answer, if there is one
abbrev pub answer_lines : Option (List ℕ) → List (List ℕ)
answer_lines None = []
answer_lines (Some answer) = uds_line answer ∷ []

-- of each request the lines of its entries, and behind them that of its answer
abbrev pub served_lines : Configuration → List (List ℕ) → List (List Entry) → List (List ℕ)
served_lines c (request ∷ requests) (piece ∷ pieces) = history_lines piece ++ (answer_lines (uds c request piece) ++ served_lines c requests pieces)
served_lines c requests pieces = []

-- behind the start-up, with the entries of a request that was under way when the power went off
abbrev pub lines_served : Configuration → (start : Entry) → (requests : List (List ℕ)) → (pieces : List (List Entry)) → (rest : List Entry) → List (List ℕ)
lines_served c start requests pieces rest = entry_line start ∷ (served_lines c requests pieces ++ history_lines rest)

-- so they are written, where it is told how many entries each request has: what stands behind those of the last is written alone
abbrev pub lines_by : Configuration → List (List ℕ) → (counts : List ℕ) → List Entry → List (List ℕ)
lines_by c (request ∷ requests) (count ∷ counts) entries = history_lines (take count entries) ++ (answer_lines (uds c request (take count entries)) ++ lines_by c requests counts (drop count entries))
lines_by c requests counts entries = history_lines entries

-- behind the start-up
abbrev pub lines_of_history : Configuration → List (List ℕ) → (counts : List ℕ) → List Entry → List (List ℕ)
lines_of_history c requests counts entries = history_lines (take 1 entries) ++ lines_by c requests counts (drop 1 entries)

-- the lines broke off: within them where the output failed, and behind a line at want of memory
abbrev pub BreaksOffIn : OutputFault → List (List ℕ) → Written → Written → Type 0
BreaksOffIn output.Failed lines written written' = PutsPart written written' lines
BreaksOffIn output.Memory lines written written' = (n : ℕ) × Puts written written' (take n lines)

-- HOW REQUESTS END

-- the command stops where they stopped
abbrev pub stop_of_serving : ServeStop → Stop
stop_of_serving serve.Off = stop.PowerOff
stop_of_serving serve.NoRoom = stop.HistoryFull
stop_of_serving serve.Memory = stop.Memory

abbrev pub stopped_serving : Result (Unit {0}) ServeStop → Result (Unit {0}) Stop
stopped_serving (Ok done) = Ok done
stopped_serving (Err why) = Err (stop_of_serving why)

abbrev pub status_served : Result (Unit {0}) ServeStop → Status
status_served (Ok done) = status.Ok
status_served (Err why) = status_of (stop_of_serving why)

-- the line behind them: how many entries there are, or why no more requests were served
abbrev pub line_served : Result (Unit {0}) ServeStop → List Entry → List ℕ
line_served (Ok done) entries = end_line (length entries)
line_served (Err why) entries = line_of (stop_of_serving why)

-- so ends the run of the promise: the steps are made of the requests as they come, so where the power went off none is left
abbrev pub end_served : Result (Unit {0}) ServeStop → End
end_served (Ok done) = Whole
end_served (Err serve.Off) = Whole
end_served (Err serve.NoRoom) = HistoryFull
end_served (Err serve.Memory) = Memory

-- each count is of a request, and the entries behind the start-up suffice for all of them
pub record HasPieces (requests : List (List ℕ)) (counts : List ℕ) (entries : List Entry) : Type 0 where
  pub fewer : length counts ≤ length requests
  pub within : 1 + sum_by (λ n. n) counts ≤ length entries

-- what is written of lines with this status and last line: at want of memory the first ones, and where the output failed a beginning of all
abbrev pub WritesLines : Status → List (List ℕ) → List ℕ → Written → Written → Status → Type 0
WritesLines meant lines last written written' status.Memory = (n : ℕ) × Puts written written' (take n lines)
WritesLines meant lines last written written' status.WriteFault = (meant ≢ status.Memory) × PutsPart written written' (lines ++ last ∷ [])
WritesLines meant lines last written written' x = (x ≡ meant) × Puts written written' (lines ++ last ∷ [])

-- THE RUN

-- Requests were served in a run, and the call tells it: behind the start-up each of the first requests has its piece of the history, with its
-- answer in the output, and the end says why no more have. Where the power went off the flash counted a cut, or its count stands at its end.
pub record TellsServed (c : Configuration) (requests : List (List ℕ)) (call : Call) (x : Status) (r : Run) : Type 0 where
  pub marks : List (Instance × Mark)
  pub ops : ℕ
  pub more : List Entry
  pub history : r.history ≡ Found marks ops ∷ more
  pub end : Result (Unit {0}) ServeStop
  pub ends : r.end ≡ end_served end
  pub serves : ServesRequests c cap (after c r.history) requests end more
  pub cut : end ≡ Err serve.Off → WereCounted 1 call.entry.cuts call.exit.cuts
  pub writes : WritesLines (status_served end) (lines_served c (Found marks ops) serves.first serves.pieces serves.rest) (line_served end r.history) call.written call.written_after x

-- Or no start-up was made, for a fault or want of memory.
abbrev pub TellsRequests : Configuration → List (List ℕ) → Call → Status → Run → Type 0
TellsRequests c requests call x r = ((r.history ≡ []) × EndsWith [] (last_line r.end [] ∷ []) call r.end) ⊎ TellsServed c requests call x r

-- a run of steps that ask for requests and make turns, which the call tells
abbrev pub HasServing : Configuration → List (List ℕ) → Call → Status → Type 0
HasServing c requests call x = (steps : List Step) × AreOfRequests steps × HasRun mode.Play c steps (TellsRequests c requests call x) call.entry call.exit

-- THE WHOLE CALL

-- there is a run that is this call's, and it keeps the promise
abbrev pub HasAnswered : Option (List ℕ) → Status → Call → Type 0
HasAnswered left x call = (c : Configuration) × (requests : List (List ℕ)) × IfSome left (λ bytes. HasRequests bytes c requests) × HasServing c requests call x
