-- The promise of a whole run, as a command keeps it.
use Rattle.std.specs.Prelude.{◌≡◌, ◌≢◌, ◌⊎◌, ◌<◌, ◌++◌, ℕ, true, false, List, [], take, Option, None, IfSome, ◌∷◌}
use Rattle.nvm_lines.specs.nv_streams.Sink.{Written, Puts, PutsPart}
use Rattle.nvm_flash.specs.nv_base.Geometry.{size_of}
use Rattle.nvm_flash.specs.block_config.Config.{Configuration}
use Rattle.nvm_flash.specs.fls_model.Told.{Told}
use Rattle.nvm_script.specs.declared.script.Mode.{Mode}
use Rattle.nvm_script.specs.declared.script.Mode.TheVariants as mode
use Rattle.nvm_script.specs.Cut.{cut_lines}
use Rattle.nvm_script.specs.Printed.{history_lines}
use Rattle.nvm_script.specs.Summary.{summary}
use Rattle.script_player.specs.script_walks.Words.{Step}
use Rattle.script_player.specs.script_walks.Texts.{AreValues}
use Rattle.nvm_flash.specs.block_machine.Words.{Entry}
use Rattle.nvm_flash.specs.promise_blocks.OverDevice.{HasStarted}
use Rattle.nvm_flash.specs.promise_run.Run.{Run, End, Whole, cap, HasOrder, LeavesAlone, CutsExplain}
use Rattle.nvm_flash.specs.Made.{IsOnlyFaulty}
use Rattle.nvm_flash.specs.promise_run.Refusals.{RefusesAsAsked}
use Rattle.nvm_flash.specs.block_machine.Steps.{after}
use Rattle.nvm_flash.specs.promise_device.FlashRun.{TellsBytes, StartsSound, CountsAll}
use Rattle.nvm_flash.specs.promise_device.Generations.{IsUnused}
use Rattle.nvm_flash.specs.promise_device.Image.{attached}
use Rattle.nvm_flash.specs.promise_run.Promise.{BeginsWell, Promise, making_of}
use Rattle.nvm_flash.specs.promise_run.BankTurns.{HasCausedErases}
use Rattle.nvm_flash.specs.promise_run.Completeness.{Completeness}
use Rattle.nvm_flash.specs.promise_run.JobTurns.{job_turns}
use Rattle.nvm_flash.specs.promise_run.Turns.{KeepsTurns}
use Rattle.nvm_flash.specs.promise_run.Call.{Call, EndsWith, IsCourseOf, IsRunOf, last_line, text_of}
use Rattle.nvm_lines.specs.declared.status.Status.{Status}
use Rattle.nvm_lines.specs.declared.status.Status.TheVariants as status
use Rattle.nvm_top.specs.declared.runs.RunText.{RunText}
use Rattle.nvm_top.specs.declared.runs.RunText.TheVariants.{History, Summary}
use Rattle.nvm_lines.specs.declared.stop.Stop.TheVariants as stop
use Rattle.nvm_top.specs.Ends.{HasScript}
use Rattle.nvm_lines.specs.Output.{Writes}
use Rattle.nvm_top.specs.Play.{IsRightSize}
use Rattle.nvm_lines.specs.Status.{code_of_status}
use Rattle.nvm_lines.specs.Stop.{IsStop}

-- a call of `play`, or of `run`
abbrev pub call_by : Mode → Option (List ℕ) → Status → Told → Told → Written → Written → Call
call_by m input x entry exit written written' =
    record { mode = m; input = input; status = code_of_status x; entry = entry; exit = exit; written = written; written_after = written' }

-- of `play`
abbrev pub played_call : Option (List ℕ) → Status → Told → Told → Written → Written → Call
played_call = call_by mode.Play

-- A RUN

-- the flash at the exit: of the configuration's shape, off only where the history ends with the power off, and with no cut planned while on
pub record EndsAt (r : Run) : Type 0 where
  pub geometry : r.flash.exit.geometry ≡ r.configuration.geometry
  pub off : r.flash.exit.off ≡ true → (after r.configuration r.history).off ≡ true
  pub plan : r.flash.exit.off ≡ false → r.flash.exit.planning.plan ≡ None

-- What a run keeps over any flash: it follows its script, which explains its refused copies and power cuts; the flash counted its operations,
-- had a size that it may have, and ends as it should; and its turns keep what is said of turns. Over a flash that tells its bytes it begins
-- well, whatever its image; from a sound image on it keeps the promise, and from one without a bank the banks take turns in their erases.
pub record KeepsRun (r : Run) : Type 0 where
  pub order : HasOrder r r.history
  pub size : HasStarted r.history → IsRightSize (size_of r.configuration.geometry) r.flash.entry.bytes
  pub refusals : (id : ℕ) → RefusesAsAsked r.configuration r.course r.history id
  pub off : CutsExplain r.course r.history r.cuts r.flash.entry.cuts r.flash.exit.cuts
  pub counted : CountsAll r.flash r.cuts
  pub complete : Completeness r r.course
  pub exit : HasStarted r.history → EndsAt r
  pub turns : KeepsTurns (job_turns r.configuration) r r.course
  pub values : AreValues r.history
  pub early : TellsBytes r.flash → BeginsWell r
  pub promise : TellsBytes r.flash → StartsSound (making_of r.configuration) r.flash → Promise r
  pub erases : (tells : TellsBytes r.flash) (k : ℕ) → IsUnused (making_of r.configuration) (attached r.configuration.geometry tells.first) → HasStarted r.history
      → k < r.configuration.banks → HasCausedErases r tells k

-- THE WHOLE CALL

-- no run was begun: a stop's line was written, at want of memory none, and the flash is left alone; in use elsewhere its faults alone rose
pub record HasNoRun (IsEnd : Status → List (List ℕ) → Type 0) (written written' : Written) (x : Status) (entry exit : Told) : Type 0 where
  pub line : Writes IsEnd written written' x
  pub flash : (LeavesAlone entry exit × (x ≢ status.InUse)) ⊎ (Writes (IsStop stop.InUse) written written' x × IsOnlyFaulty entry exit)

-- FROM THE ATTACH ON

-- a run of these steps over one flash, from its attach on, which ends as a command tells it; the configuration names no second device
pub record HasRun (m : Mode) (c : Configuration) (steps : List Step) (Tells : Run → Type 0) (entry exit : Told) : Type 0 where
  pub run : Run
  pub configuration : run.configuration ≡ c
  pub one_device : c.eeprom ≡ None
  pub most : run.most ≡ cap
  pub course : IsCourseOf m steps run.course
  pub at_entry : run.flash.entry ≡ entry
  pub at_exit : run.flash.exit ≡ exit
  pub beside : run.beside ≡ None
  pub ends : Tells run
  pub keeps : KeepsRun run

-- `PLAY` AND `RUN`

-- there is a run of the input's steps that is this call's, and it keeps that
abbrev pub HasPromise : Call → Type 0
HasPromise call =
    (c : Configuration) × (steps : List Step) × IfSome call.input (λ bytes. HasScript call.mode bytes c steps)
    × HasRun call.mode c steps (λ r. EndsWith r.history (text_of r) call r.end) call.entry call.exit

-- so it is a run of the call
abbrev pub CallsHaveRuns : Type 0
CallsHaveRuns = (call : Call) → HasPromise call → (r : Run) × IsRunOf call r × KeepsRun r

-- THE OUTPUT OF A RUN

-- the entries whose lines are written in one of these texts
abbrev pub entries_in : RunText → List Entry → List Entry
entries_in History h = h
entries_in Summary h = []

-- the lines of a summary, which stand in place of the last line of a run that is over
abbrev pub soak_lines : End → List Entry → List (List ℕ)
soak_lines Whole h = cut_lines (summary h)
soak_lines end h = last_line end h ∷ []

-- and the lines that are written last
abbrev pub lines_in : RunText → End → List Entry → List (List ℕ)
lines_in Summary end h = soak_lines end h
lines_in History end h = last_line end h ∷ []

-- how a call ends whose output is that of its run
abbrev pub EndsIn : RunText → Call → Run → Type 0
EndsIn text call r = EndsWith (entries_in text r.history) (history_lines (entries_in text r.history) ++ lines_in text r.end r.history) call r.end

-- what is written of entries and these lines behind theirs: at want of memory the first entries' lines, where the output failed a beginning
abbrev pub WritesText : Status → List Entry → List (List ℕ) → Written → Written → Status → Type 0
WritesText meant entries lines written written' status.Memory = (n : ℕ) × Puts written written' (history_lines (take n entries))
WritesText meant entries lines written written' status.WriteFault = (meant ≢ status.Memory) × PutsPart written written' (history_lines entries ++ lines)
WritesText meant entries lines written written' x = (x ≡ meant) × Puts written written' (history_lines entries ++ lines)

-- `SOAK`

-- there is a run of these steps that is this call's, and it keeps the promise
abbrev pub HasSoaked : Option (List ℕ) → (Configuration → List Step) → Call → Type 0
HasSoaked left steps call =
    (c : Configuration) × IfSome left (λ bytes. HasScript mode.Play bytes c [])
    × HasRun mode.Play c (steps c) (λ r. EndsWith [] (soak_lines r.end r.history) call r.end) call.entry call.exit
