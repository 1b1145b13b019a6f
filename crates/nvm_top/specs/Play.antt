-- How a call that works on a flash stops before its start-up, each stop with its cause.
use Rattle.std.specs.Prelude.{◌≡◌, ◌≢◌, ◌⊎◌, ℕ, List, [], ◌∷◌, length, Option, None, IfSome}
use Rattle.nvm_flash.specs.nv_base.Count.{Rose}
use Rattle.nvm_flash.specs.nv_base.Geometry.{size_of}
use Rattle.nvm_flash.specs.block_config.Config.{Configuration}
use Rattle.nvm_flash.specs.fls_model.Told.{Told, ToldBytes}
use Rattle.nvm_flash.specs.promise_run.Run.{LeavesAlone}
use Rattle.nvm_flash.specs.Made.{IsOnlyFaulty}
use Rattle.nvm_script.specs.declared.script.Mode.{Mode}
use Rattle.nvm_script.specs.declared.step.Step.{Step}
use Rattle.nvm_lines.specs.declared.status.Status.{Status}
use Rattle.nvm_lines.specs.declared.status.Status.TheVariants as status
use Rattle.nvm_lines.specs.declared.stop.Stop.{Stop}
use Rattle.nvm_lines.specs.declared.stop.Stop.TheVariants as stop
use Rattle.nvm_top.specs.Ends.{HasScript, HasWrongLine, ReadsBy}
use Rattle.nvm_lines.specs.Stop.{line_of}

-- a flash, where it tells its bytes, has neither none nor so many
abbrev pub IsWrongSize : ℕ → Option ToldBytes → Type 0
IsWrongSize need bytes = IfSome bytes (λ b. (length b.now ≢ 0) × (length b.now ≢ need))

-- where it tells them, it has none or so many
abbrev pub IsRightSize : ℕ → Option ToldBytes → Type 0
IsRightSize need bytes = IfSome bytes (λ b. (b.now ≡ []) ⊎ (length b.now ≡ need))

-- why a flash isn't attached that is to have so many bytes, with its bytes, where they are told
abbrev pub IsAttachStop : ℕ → Option ToldBytes → Stop → Type 0
IsAttachStop need bytes (stop.WrongSize found needed) = IfSome bytes (λ b. length b.now ≡ found) × (needed ≡ need)
IsAttachStop need bytes stop.FlashFault = Unit {0}
IsAttachStop need bytes stop.InUse = Unit {0}
IsAttachStop need bytes stop.Memory = Unit {0}
IsAttachStop need bytes _ = ⊥

-- nor a stack of a configuration started: its second device is missing, or that
abbrev pub IsStartStop : Configuration → Option ToldBytes → Stop → Type 0
IsStartStop c bytes stop.NoSecond = Unit {0}
IsStartStop c bytes why = IsAttachStop (size_of c.geometry) bytes why

-- a second device is missing where the configuration names one, and no other reason is given then
abbrev pub MissesSecond : Configuration → Stop → Type 0
MissesSecond c stop.NoSecond = c.eeprom ≢ None
MissesSecond c _ = c.eeprom ≡ None

-- the statuses of a call that stops before its flash is attached
abbrev pub IsBeforeAttach : Status → Type 0
IsBeforeAttach status.BadWords = Unit {0}
IsBeforeAttach status.BadConfig = Unit {0}
IsBeforeAttach status.BadScript = Unit {0}
IsBeforeAttach status.ReadFault = Unit {0}
IsBeforeAttach status.TooLong = Unit {0}
IsBeforeAttach _ = ⊥

-- and before start-up
abbrev pub IsBeforeStart : Status → Type 0
IsBeforeStart status.WrongSize = Unit {0}
IsBeforeStart x = IsBeforeAttach x

-- HOW IT ENDS

-- at the attach of a flash that is to have so many bytes
abbrev pub IsPlayEnd : ℕ → Told → Told → Status → Type 0
IsPlayEnd need s t status.FlashFault = Rose s.faults t.faults
IsPlayEnd need s t status.InUse = Rose s.faults t.faults × (t ≡ record s { faults = t.faults })
IsPlayEnd need s t status.WrongSize = IsWrongSize need s.bytes × (t ≡ s)
IsPlayEnd need s t status.Memory = Unit {0}
IsPlayEnd need s t _ = ⊥

-- before the first step on a stack over it
abbrev pub IsStepsEnd : ℕ → Told → Told → Status → Type 0
IsStepsEnd need s t status.FlashFault = Rose s.faults t.faults
IsStepsEnd need s t status.InUse = IsOnlyFaulty s t
IsStepsEnd need s t status.NoSecond = t ≡ s
IsStepsEnd need s t status.WrongSize = IsWrongSize need s.bytes × LeavesAlone s t
IsStepsEnd need s t status.Memory = Unit {0}
IsStepsEnd need s t _ = ⊥

-- HOW IT IS PRINTED

-- the flash has a wrong size, and the line tells how many bytes it has, where they are told, and how many are needed
abbrev pub NamesSize : ℕ → Option ToldBytes → List (List ℕ) → Type 0
NamesSize need bytes lines =
    IsWrongSize need bytes × ((found : ℕ) × IfSome bytes (λ b. length b.now ≡ found) × (lines ≡ line_of (stop.WrongSize found need) ∷ []))

-- or another call has it in use; or, exactly where the configuration names a second device, that is missing; no other stop than these
abbrev pub IsFlashStop : Configuration → Option ToldBytes → Status → List (List ℕ) → Type 0
IsFlashStop c bytes status.WrongSize lines = (c.eeprom ≡ None) × NamesSize (size_of c.geometry) bytes lines
IsFlashStop c bytes status.InUse lines = (c.eeprom ≡ None) × (lines ≡ line_of stop.InUse ∷ [])
IsFlashStop c bytes status.NoSecond lines = (c.eeprom ≢ None) × (lines ≡ line_of stop.NoSecond ∷ [])
IsFlashStop c bytes _ lines = ⊥

-- why no run is begun, by what makes a later line of the input a wrong one and by which inputs have a configuration, with the line of it
abbrev pub StopsBy : (List ℕ → ℕ → Type 0) → (Configuration → List ℕ → Type 0) → (left : Option (List ℕ)) (reads reads' : ℕ) → Option ToldBytes → Status → List (List ℕ) → Type 0
StopsBy IsWrong Has left reads reads' bytes status.BadScript lines = (number : ℕ) × IfSome left (λ input. IsWrong input number) × (lines ≡ line_of (stop.BadScript number) ∷ [])
StopsBy IsWrong Has left reads reads' bytes status.WrongSize lines = (c : Configuration) × IfSome left (Has c) × IsFlashStop c bytes status.WrongSize lines
StopsBy IsWrong Has left reads reads' bytes status.InUse lines = (c : Configuration) × IfSome left (Has c) × IsFlashStop c bytes status.InUse lines
StopsBy IsWrong Has left reads reads' bytes status.NoSecond lines = (c : Configuration) × IfSome left (Has c) × IsFlashStop c bytes status.NoSecond lines
StopsBy IsWrong Has left reads reads' bytes x lines = ReadsBy left reads reads' x lines

-- of `play`, or of `run`
abbrev pub StepsStopBy : Mode → (left : Option (List ℕ)) (reads reads' : ℕ) → Option ToldBytes → Status → List (List ℕ) → Type 0
StepsStopBy m = StopsBy (HasWrongLine m) (λ c bytes. (steps : List Step) × HasScript m bytes c steps)
