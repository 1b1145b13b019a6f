-- How a whole call ends, and which run is its.
use Rattle.std.specs.Prelude.{IfSome}
use Rattle.std.proofs.Common.{◌≡◌, ◌≢◌, ◌⊎◌, ℕ, List, [], ◌∷◌, Option, Some, None, Result, Ok, Err, refl, sym, ap, ◌∙◌, subst, inl, inr}
use Rattle.nvm_lines.specs.nv_streams.Sink.{Written}
use Rattle.nvm_flash.specs.nv_base.Count.{Rose}
use Rattle.nvm_flash.specs.block_config.Config.{Configuration}
use Rattle.nvm_flash.specs.fls_model.Told.{Told, ToldBytes}
use Rattle.script_player.specs.script_walks.Words.{Step}
use Rattle.nvm_flash.specs.block_machine.Words.{Entry}
use Rattle.nvm_flash.specs.promise_run.Run.{Run}
use Rattle.nvm_flash.specs.promise_run.Run.{LeavesAlone}
use Rattle.nvm_flash.specs.promise_run.Call.{IsCourseOf, IsInputOf}
use Rattle.nvm_script.specs.Script.{IsScript, later_lines}
use Rattle.nvm_script.specs.declared.script.Mode.{Mode}
use Rattle.nvm_top.specs.Ends.{HasScript, HasWrongLine}
use Rattle.nvm_top.specs.Play.{IsStartStop, IsBeforeAttach, IsFlashStop, StepsStopBy, StopsBy}
use Rattle.nvm_top.specs.Reading.{IsReadStop}
use Rattle.script_player.specs.declared.steps.StepFault.{StepFault}
use Rattle.script_player.specs.declared.steps.StepFault.TheVariants as fault
use Rattle.nvm_lines.specs.declared.status.Status.{Status}
use Rattle.nvm_lines.specs.declared.status.Status.TheVariants as status
use Rattle.nvm_top.specs.declared.runs.RunText.TheVariants.{History}
use Rattle.nvm_lines.specs.declared.stop.Stop.{Stop}
use Rattle.nvm_lines.specs.declared.stop.Stop.TheVariants as stop
use Rattle.nvm_lines.specs.Output.{Writes, IsReport}
use Rattle.nvm_top.specs.Promised.{call_by, HasNoRun, HasRun, CallsHaveRuns, WritesText, HasPromise, EndsIn}
use Rattle.nvm_top.specs.Runs as ends
use Rattle.nvm_lines.specs.Stop.{status_of, line_of, IsStop}
use Rattle.nvm_top.proofs.PlayLemmas.{report-by}
use Rattle.nvm_top.proofs.RunLines.{Writes-as, by_stop, read_line}

-- HOW IT ENDS
-- at none of the statuses before the attach

run_late : (result : Result (Unit {0}) StepFault) → IsBeforeAttach (ends.status_of_run (ends.run_of result)) → ⊥
run_late (Ok done) is = is
run_late (Err fault.Flash) is = is
run_late (Err fault.HistoryFull) is = is
run_late (Err fault.Memory) is = is

pub written_late : (meant x : Status) (entries : List Entry) (lines : List (List ℕ)) (w w' : Written) → (IsBeforeAttach meant → ⊥) → WritesText meant entries lines w w' x → IsBeforeAttach x → ⊥
written_late meant status.Memory entries lines w w' late is early = early
written_late meant status.WriteFault entries lines w w' late is early = early
written_late meant x entries lines w w' late is early = late (subst (λ (y : Status). IsBeforeAttach y) is.0 early)

pub ran_late : (result : Result (Unit {0}) StepFault) (run : Result (Unit {0}) Stop) (x : Status) (entries : List Entry) (lines : List (List ℕ)) (w w' : Written) → run ≡ ends.run_of result → WritesText (ends.status_of_run run) entries lines w w' x → IsBeforeAttach x → ⊥
ran_late result run x entries lines w w' is_run is =
    written_late (ends.status_of_run run) x entries lines w w' (subst (λ (r : Result (Unit {0}) Stop). IsBeforeAttach (ends.status_of_run r) → ⊥) (sym is_run) (run_late result)) is

attach_late : (c : Configuration) (bytes : Option ToldBytes) (why : Stop) → IsStartStop c bytes why → IsBeforeAttach (status_of why) → ⊥
attach_late c bytes stop.NoSecond is early = early
attach_late c bytes (stop.WrongSize found needed) is early = early
attach_late c bytes stop.FlashFault is early = early
attach_late c bytes stop.InUse is early = early
attach_late c bytes stop.Memory is early = early
attach_late c bytes _ is early = absurd is

pub stopped_late : (c : Configuration) (bytes : Option ToldBytes) (why : Stop) (x : Status) → IsStartStop c bytes why → IsReport (status_of why) x → IsBeforeAttach x → ⊥
stopped_late c bytes why x is reports = report-by (λ y. IsBeforeAttach y → ⊥) (status_of why) x (attach_late c bytes why is) (λ early. early) (λ early. early) reports

-- OF THE WHOLE CALL

input_of : (m : Mode) (left : Option (List ℕ)) (c : Configuration) (steps : List Step) (r : Run) → r.configuration ≡ c → IsCourseOf m steps r.course → IfSome left (λ bytes. HasScript m bytes c steps) → IfSome left (IsInputOf m r)
input_of m None c steps r same course has = tt
input_of m (Some bytes) c steps r same course has = record {
  configuration = has.config.config ∙ ap Ok (sym same);
  steps = steps;
  script = subst (λ (x : Configuration). IsScript x m 2 [] (later_lines bytes) steps) (sym same) has.script;
  course = course;
}

pub calls_have_runs : CallsHaveRuns
calls_have_runs call (c, steps, has, run) = (
  run.run,
  record { input = input_of call.mode call.input c steps run.run run.configuration run.course has; most = run.most; entry = run.at_entry; exit = run.at_exit; beside = run.beside; ends = run.ends },
  run.keeps,
)

-- a call that stops early leaves the flash as it was
pub alone : (told : Told) → LeavesAlone told told
alone told = record { geometry = refl; off = λ off. off; bytes = refl; ops = refl; faults = refl; cuts = refl }

-- WHERE NO RUN IS BEGUN

-- the flash has a wrong size, or is in use, or a second device is missing
sized_line : (IsWrong : List ℕ → ℕ → Type 0) (Has : Configuration → List ℕ → Type 0) (left : Option (List ℕ)) (reads reads' : ℕ) (bytes : Option ToldBytes) (c : Configuration) (y : Status) (lines : List (List ℕ)) → IfSome left (Has c) → IsFlashStop c bytes y lines
    → StopsBy IsWrong Has left reads reads' bytes y lines
sized_line IsWrong Has left reads reads' bytes c status.WrongSize lines has is = (c, has, is)
sized_line IsWrong Has left reads reads' bytes c status.InUse lines has is = (c, has, is)
sized_line IsWrong Has left reads reads' bytes c status.NoSecond lines has is = (c, has, is)
sized_line IsWrong Has left reads reads' bytes c _ lines has is = absurd is

pub sized : (IsWrong : List ℕ → ℕ → Type 0) (Has : Configuration → List ℕ → Type 0) (left : Option (List ℕ)) (reads reads' : ℕ) (c : Configuration) (w w' : Written) (x : Status) (entry exit : Told) → IfSome left (Has c) → HasNoRun (IsFlashStop c entry.bytes) w w' x entry exit
    → HasNoRun (StopsBy IsWrong Has left reads reads' entry.bytes) w w' x entry exit
sized IsWrong Has left reads reads' c w w' x entry exit has none = record {
  line = Writes-as (IsFlashStop c entry.bytes) (StopsBy IsWrong Has left reads reads' entry.bytes) w w' x (λ y lines at. sized_line IsWrong Has left reads reads' entry.bytes c y lines has at) none.line;
  flash = none.flash;
}

-- the input isn't read, or a line of it is wrong
unread_line : (IsWrong : List ℕ → ℕ → Type 0) (Has : Configuration → List ℕ → Type 0) (left : Option (List ℕ)) (reads reads' : ℕ) (bytes : Option ToldBytes) (why : Stop) → (why ≡ stop.ReadFault → Rose reads reads') → IsReadStop IsWrong left why → why ≢ stop.Memory
    → StopsBy IsWrong Has left reads reads' bytes (status_of why) (line_of why ∷ [])
unread_line IsWrong Has left reads reads' bytes (stop.BadScript number) fault is other = (number, is, refl)
unread_line IsWrong Has left reads reads' bytes (stop.WrongSize found need) fault is other = absurd is
unread_line IsWrong Has left reads reads' bytes stop.InUse fault is other = absurd is
unread_line IsWrong Has left reads reads' bytes stop.NoSecond fault is other = absurd is
unread_line IsWrong Has left reads reads' bytes why fault is other = read_line left reads reads' why fault is other

-- no flash is in use before its attach
not_in_use : (IsWrong : List ℕ → ℕ → Type 0) (left : Option (List ℕ)) (why : Stop) → IsReadStop IsWrong left why → status_of why ≢ status.InUse
not_in_use IsWrong left stop.InUse is = absurd is
not_in_use IsWrong left _ is = λ e. cc e

unused : (IsWrong : List ℕ → ℕ → Type 0) (left : Option (List ℕ)) (why : Stop) (w w' : Written) (x : Status) → IsReadStop IsWrong left why → Writes (IsStop why) w w' x → x ≢ status.InUse
unused IsWrong left why w w' status.InUse stops is = λ e. not_in_use IsWrong left why stops (sym is.1.1)
unused IsWrong left why w w' _ stops is = λ e. cc e

pub unread : (IsWrong : List ℕ → ℕ → Type 0) (Has : Configuration → List ℕ → Type 0) (left : Option (List ℕ)) (reads reads' : ℕ) (why : Stop) (w w' : Written) (x : Status) (told : Told) → (why ≡ stop.ReadFault → Rose reads reads') → IsReadStop IsWrong left why → Writes (IsStop why) w w' x
    → HasNoRun (StopsBy IsWrong Has left reads reads' told.bytes) w w' x told told
unread IsWrong Has left reads reads' why w w' x told fault stops is = record {
  line = Writes-as (IsStop why) (StopsBy IsWrong Has left reads reads' told.bytes) w w' x (λ y lines at. by_stop (StopsBy IsWrong Has left reads reads' told.bytes) why y lines (unread_line IsWrong Has left reads reads' told.bytes why fault stops) at) is;
  flash = inl (alone told, unused IsWrong left why w w' x stops is);
}

-- `PLAY` AND `RUN`

-- the input has this configuration, and its later lines are steps of this mode
abbrev pub HasStepsOf : Mode → Configuration → List ℕ → Type 0
HasStepsOf m c bytes = (steps : List Step) × HasScript m bytes c steps

has_steps : (m : Mode) (left : Option (List ℕ)) (c : Configuration) (steps : List Step) → IfSome left (λ bytes. HasScript m bytes c steps) → IfSome left (HasStepsOf m c)
has_steps m None c steps has = tt
has_steps m (Some bytes) c steps has = (steps, has)

pub steps_made : (m : Mode) (left : Option (List ℕ)) (reads reads' : ℕ) (x : Status) (c : Configuration) (steps : List Step) (entry exit : Told) (w w' : Written) → IfSome left (λ bytes. HasScript m bytes c steps)
    → HasRun m c steps (EndsIn History (call_by m left x entry exit w w')) entry exit ⊎ HasNoRun (IsFlashStop c entry.bytes) w w' x entry exit
    → HasPromise (call_by m left x entry exit w w') ⊎ HasNoRun (StepsStopBy m left reads reads' entry.bytes) w w' x entry exit
steps_made m left reads reads' x c steps entry exit w w' has (inl run) = inl (c, steps, has, run)
steps_made m left reads reads' x c steps entry exit w w' has (inr none) = inr (sized (HasWrongLine m) (HasStepsOf m) left reads reads' c w w' x entry exit (has_steps m left c steps has) none)
