-- What a call of each command keeps; a call of the program keeps what the command keeps that its words name.
use Rattle.std.specs.Prelude.{◌≡◌, ◌⊎◌, ℕ, Bool, true, false, List, Option, Some, None, IfSome}
use Rattle.nvm_lines.specs.nv_streams.Sink.{Written}
use Rattle.nvm_flash.specs.block_config.Config.{Configuration}
use Rattle.nvm_flash.specs.fls_model.Told.{Told, ToldBytes}
use Rattle.nvm_flash.specs.promise_run.Call.{Call}
use Rattle.nvm_script.specs.declared.script.Mode.{Mode}
use Rattle.nvm_script.specs.declared.script.Mode.TheVariants as mode
use Rattle.nvm_script.specs.declared.step.Step.{Step}
use Rattle.nvm_words.specs.declared.words.CommandKind.{CommandKind}
use Rattle.nvm_words.specs.declared.words.CommandKind.TheVariants.{Play, Run, Dump, Check, Soak, Uds}
use Rattle.script_soak.specs.Soak.{soak}
use Rattle.nvm_lines.specs.declared.status.Status.{Status}
use Rattle.nvm_lines.specs.declared.stop.Stop.{Stop}
use Rattle.nvm_lines.specs.declared.stop.Stop.TheVariants as stop
use Rattle.nvm_top.specs.Causes.{HasCauses}
use Rattle.nvm_top.specs.Dump.{DumpsBy, KeepsFlash}
use Rattle.nvm_top.specs.Ends.{ChecksBy}
use Rattle.nvm_lines.specs.Output.{Writes}
use Rattle.nvm_lines.specs.Reading.{HasConfig}
use Rattle.nvm_top.specs.Play.{IsBeforeAttach, IsBeforeStart, StepsStopBy}
use Rattle.nvm_top.specs.Promised.{HasNoRun, HasPromise, HasSoaked, call_by}
use Rattle.nvm_top.specs.Soak.{SoakStopsBy}
use Rattle.nvm_lines.specs.Stop.{IsStop}
use Rattle.nvm_top.specs.Uds.{HasAnswered, UdsStopsBy}

-- a call that is over: before it and behind it what was left of its input, what was written, how often each had failed, and its flash
pub record Ended : Type 0 where
  pub status : Status
  pub left : Option (List ℕ)
  pub left_after : Option (List ℕ)
  pub read_faults : ℕ
  pub read_faults_after : ℕ
  pub written : Written
  pub written_after : Written
  pub write_faults : ℕ
  pub write_faults_after : ℕ
  pub entry : Told
  pub exit : Told

abbrev pub ended : Status → (left left' : Option (List ℕ)) (reads reads' : ℕ) (written written' : Written) (writes writes' : ℕ) (entry exit : Told) → Ended
ended x l l' r r' w w' f f' s t =
    record { status = x; left = l; left_after = l'; read_faults = r; read_faults_after = r'; written = w; written_after = w'; write_faults = f; write_faults_after = f'; entry = s; exit = t }

-- as a call of the promise
abbrev pub call_in : Mode → Ended → Call
call_in m e = call_by m e.left e.status e.entry e.exit e.written e.written_after

abbrev pub IsCaused : Ended → Type 0
IsCaused e = HasCauses e.status e.read_faults e.read_faults_after e.write_faults e.write_faults_after e.left_after

abbrev pub WritesBy : (Status → List (List ℕ) → Type 0) → Ended → Type 0
WritesBy IsEnd e = Writes IsEnd e.written e.written_after e.status

-- EACH COMMAND

-- a command that makes a run: what is promised of it; or none is begun, for one of these reasons, by what was read and by the flash
pub record MakesRun (Promised : Type 0) (IsEnd : Option (List ℕ) → ℕ → ℕ → Option ToldBytes → Status → List (List ℕ) → Type 0) (e : Ended) : Type 0 where
  pub promise : Promised ⊎ HasNoRun (IsEnd e.left e.read_faults e.read_faults_after e.entry.bytes) e.written e.written_after e.status e.entry e.exit
  pub untouched : IsBeforeAttach e.status → e.exit ≡ e.entry
  pub causes : IsCaused e

abbrev pub KeepsPlay : Ended → Type 0
KeepsPlay e = MakesRun (HasPromise (call_in mode.Play e)) (StepsStopBy mode.Play) e

abbrev pub KeepsRunCommand : Ended → Type 0
KeepsRunCommand e = MakesRun (HasPromise (call_in mode.Run e)) (StepsStopBy mode.Run) e

-- with the steps that are drawn for a configuration
abbrev pub KeepsSoak : (Configuration → List Step) → Ended → Type 0
KeepsSoak steps e = MakesRun (HasSoaked e.left steps (call_in mode.Play e)) SoakStopsBy e

-- with an answer to each request
abbrev pub KeepsUds : Ended → Type 0
KeepsUds e = MakesRun (HasAnswered e.left e.status (call_in mode.Play e)) UdsStopsBy e

pub record KeepsCheck (e : Ended) : Type 0 where
  pub by_input : WritesBy (ChecksBy e.left e.read_faults e.read_faults_after) e
  pub untouched : e.exit ≡ e.entry
  pub causes : IsCaused e

pub record KeepsDump (e : Ended) : Type 0 where
  pub by_input : WritesBy (DumpsBy e.left e.read_faults e.read_faults_after e.entry e.exit) e
  pub kept : (e.exit ≡ e.entry) ⊎ ((c : Configuration) × IfSome e.left (λ bytes. HasConfig bytes c) × KeepsFlash c.geometry e.entry e.exit)
  pub untouched : IsBeforeStart e.status → e.exit ≡ e.entry
  pub causes : IsCaused e

-- no command is called: nothing is read, the flash is as it was, and the line of this stop is written
pub record IsRefused (why : Stop) (e : Ended) : Type 0 where
  pub line : WritesBy (IsStop why) e
  pub unread : e.left_after ≡ e.left
  pub untouched : e.exit ≡ e.entry
  pub causes : IsCaused e

-- THE PROGRAM

-- words of no command call none
abbrev pub KeepsCommand : Option CommandKind → Ended → Type 0
KeepsCommand None e = IsRefused stop.BadWords e
KeepsCommand (Some Play) e = KeepsPlay e
KeepsCommand (Some Run) e = KeepsRunCommand e
KeepsCommand (Some (Soak seed count)) e = KeepsSoak (λ c. soak c seed count) e
KeepsCommand (Some Uds) e = KeepsUds e
KeepsCommand (Some Check) e = KeepsCheck e
KeepsCommand (Some Dump) e = KeepsDump e

-- A CALL OF ONE COMMAND

-- it serves these words alone, and refuses all others, as words of no command are
pub record KeepsOnly (is_served : Option CommandKind → Bool) (command : Option CommandKind) (e : Ended) : Type 0 where
  pub served : is_served command ≡ true → KeepsCommand command e
  pub refused : is_served command ≡ false → IsRefused stop.BadWords e
