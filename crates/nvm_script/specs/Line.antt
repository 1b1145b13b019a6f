-- A line of a script: what it is, and how its caller is read.
use Rattle.std.specs.Prelude.{◌≡◌, ◌≤◌, ◌-◌, ℕ, ◌==◌, Bool, false, List, [], ◌∷◌, ◌++◌, length, take, slice_index, codes, Option, Some, None, option_and_then, is_some, unwrap_or, if◌then◌else◌}
use Rattle.std.specs.Char.{is_ascii_digit}
use Rattle.std.specs.Fmt.{decimal}
use Rattle.block_config.specs.Config.{Configuration}
use Rattle.nvm_script.specs.declared.step.StepKind.{StepKind}
use Rattle.nvm_script.specs.declared.script.Mode.{Mode}
use Rattle.nvm_script.specs.declared.script.Line.{Line}
use Rattle.nvm_script.specs.declared.script.Line.TheVariants.{Idle, Step, Wrong}
use Rattle.nvm_script.specs.Cut.{cut_at}
use Rattle.nv_base.specs.Decimal.{decimal_number_of}
use Rattle.nvm_script.specs.Step.{IsStep}

-- a carriage return at a line's end is dropped
abbrev pub without_return : List ℕ → List ℕ
without_return line = if slice_index line (length line - 1) == 13 then take (length line - 1) line else line

-- an empty line and a comment do nothing
abbrev pub IsIdle : List ℕ → Type 0
IsIdle [] = Unit {0}
IsIdle (b ∷ bs) = b ≡ 35

-- the line is this text, behind its caller where it names one
abbrev pub IsCalled : Option ℕ → List ℕ → List ℕ → Type 0
IsCalled None text line = line ≡ text
IsCalled (Some caller) text line = (caller ≤ 15) × (line ≡ decimal caller ++ (codes ": " ++ text))

-- the line is a step of this caller, who is 0 where it names none
abbrev pub IsStepLine : Configuration → Mode → List ℕ → ℕ → StepKind → Type 0
IsStepLine c mode line caller kind =
    (called : Option ℕ) × (text : List ℕ) × IsCalled called text line × IsStep c mode (is_some called) text kind × (caller ≡ unwrap_or called 0)

-- what was read is what the line is
abbrev pub IsRead : Configuration → Mode → List ℕ → Line → Type 0
IsRead c mode line Idle = IsIdle line
IsRead c mode line (Step caller kind) = IsStepLine c mode line caller kind
IsRead c mode line Wrong = ¬ IsIdle line × ((caller : ℕ) (kind : StepKind) → IsStepLine c mode line caller kind → ⊥)

abbrev pub begins_with_digit : List ℕ → Bool
begins_with_digit [] = false
begins_with_digit (b ∷ bs) = is_ascii_digit b

-- a caller and what stands behind its colon and a space
abbrev pub caller_before : ℕ → Option (List ℕ) → Option (Option ℕ × List ℕ)
caller_before caller None = None
caller_before caller (Some []) = None
caller_before caller (Some (b ∷ bs)) = if b == 32 then Some (Some caller, bs) else None

-- the caller, where the line names one, and the rest of the line
unfoldable pub called_of : List ℕ → Option (Option ℕ × List ℕ)
called_of line =
    if begins_with_digit line then option_and_then (λ caller. caller_before caller (cut_at 58 line).1) (decimal_number_of 0 15 (cut_at 58 line).0)
    else Some (None, line)
