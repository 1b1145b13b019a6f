-- Why the reading of a call stops.
use Rattle.std.specs.Prelude.{◌≡◌, ℕ, List, [], Option, IfSome}
use Rattle.nvm_flash.specs.nv_base.Count.{Rose}
use Rattle.nvm_flash.specs.block_config.Config.{Configuration}
use Rattle.nvm_flash.specs.fls_model.Told.{Told}
use Rattle.nvm_script.specs.Script.{IsFirstWrong}
use Rattle.nvm_script.specs.Played.{ArePlayed}
use Rattle.nvm_script.specs.declared.script.Mode.{Mode}
use Rattle.nvm_script.specs.declared.script.Mode.TheVariants as mode
use Rattle.nvm_script.specs.declared.step.Step.{Step}
use Rattle.nvm_callers.specs.script_callers.RunScripts.{AreRun}
use Rattle.nvm_top.specs.Ends.{HasWrongLine}
use Rattle.nvm_lines.specs.Reading.{BreaksRule, IsCheckStop}
use Rattle.nvm_lines.specs.declared.stop.Stop.{Stop}
use Rattle.nvm_lines.specs.declared.stop.Stop.TheVariants.{BadWords, BadConfig, BadScript, ReadFault, TooLong, FlashFault, Memory}

-- the steps of a script of this mode: one player can make them, or callers beside each other can
abbrev pub AreMadeIn : Mode → Configuration → List Step → Type 0
AreMadeIn mode.Play c steps = ArePlayed c steps
AreMadeIn mode.Run c steps = AreRun c steps

-- why the later lines are no steps of this mode: the first wrong line
abbrev pub IsLineStop : Mode → Configuration → List (List ℕ) → Stop → Type 0
IsLineStop m c lines (BadScript line) = IsFirstWrong c m 2 [] lines line
IsLineStop m c lines Memory = Unit {0}
IsLineStop m c lines _ = ⊥

-- why an input is no script of this mode
abbrev pub IsScriptStop : Mode → List ℕ → Stop → Type 0
IsScriptStop m bytes (BadConfig rule block) = BreaksRule bytes rule block
IsScriptStop m bytes (BadScript line) = HasWrongLine m bytes line
IsScriptStop m bytes Memory = Unit {0}
IsScriptStop m bytes _ = ⊥

-- why a call stops before its flash is attached, by what makes a later line a wrong one, with the bytes of its input, where
-- they are told
abbrev pub IsReadStop : (List ℕ → ℕ → Type 0) → Option (List ℕ) → Stop → Type 0
IsReadStop IsWrong left (BadScript line) = IfSome left (λ bytes. IsWrong bytes line)
IsReadStop IsWrong left why = IsCheckStop left why

-- of `play`, or of `run`
abbrev pub IsStepsStop : Mode → Option (List ℕ) → Stop → Type 0
IsStepsStop m = IsReadStop (HasWrongLine m)

-- a call stops before its flash is attached
abbrev pub IsEarly : Stop → Type 0
IsEarly BadWords = Unit {0}
IsEarly (BadConfig rule block) = Unit {0}
IsEarly (BadScript line) = Unit {0}
IsEarly ReadFault = Unit {0}
IsEarly TooLong = Unit {0}
IsEarly Memory = Unit {0}
IsEarly _ = ⊥

-- a sector isn't read: a counted fault, which alone changed, or want of memory
abbrev pub IsSectorStop : Told → Told → Stop → Type 0
IsSectorStop s t FlashFault = Rose s.faults t.faults × (t ≡ record s { faults = t.faults })
IsSectorStop s t Memory = t ≡ s
IsSectorStop s t _ = ⊥
