-- How a step is read, field by field.
use Rattle.std.specs.Prelude.{ℕ, ◌==◌, List, Option, Some, None, option_map, option_and_then}
use Rattle.nv_base.specs.declared.request.Request.TheVariants as request
use Rattle.nvm_script.specs.declared.step.StepKind.{StepKind}
use Rattle.nvm_script.specs.declared.step.StepKind.TheVariants as step
use Rattle.nvm_script.specs.declared.word.Word.{Word}
use Rattle.nvm_script.specs.declared.word.Word.TheVariants.{Read, ReadRam, Write, WriteRam, Restore, RestoreRam, Erase, Invalidate, SetIndex, GetIndex, Protect, Lock, SetRam, Ram, Status, ReadAll, WriteAll, Cancel, Turn, Drain, Restart, Cut, CutSecond, Refuse, Await}
use Rattle.std.specs.Prelude.{true, false}
use Rattle.nvm_script.specs.Cut.{cut_at}
use Rattle.nv_base.specs.Decimal.{decimal_number_of}
use Rattle.block_config.specs.Content.{content_of}
use Rattle.nvm_script.specs.Word.{word_of}

-- a word alone
abbrev pub without_fields : Word → Option StepKind
without_fields ReadAll = Some (step.Ask request.ReadAll)
without_fields WriteAll = Some (step.Ask request.WriteAll)
without_fields Cancel = Some (step.Ask request.CancelWriteAll)
without_fields Drain = Some step.Drain
without_fields Restart = Some step.Restart
without_fields _ = None

-- a word with a block
abbrev pub of_block : Word → ℕ → Option StepKind
of_block Read block = Some (step.Ask (request.Read block false))
of_block ReadRam block = Some (step.Ask (request.Read block true))
of_block WriteRam block = Some (step.Ask (request.Write block None 0))
of_block Restore block = Some (step.Ask (request.Restore block false))
of_block RestoreRam block = Some (step.Ask (request.Restore block true))
of_block Erase block = Some (step.Ask (request.Erase block))
of_block Invalidate block = Some (step.Ask (request.Invalidate block))
of_block GetIndex block = Some (step.Ask (request.GetIndex block))
of_block Status block = Some (step.Ask (request.Status block))
of_block Await block = Some (step.Await block)
of_block _ block = None

-- a word with one field
abbrev pub with_one : Word → List ℕ → Option StepKind
with_one Turn field = option_map (λ n. step.Turn n) (decimal_number_of 1 100000 field)
with_one word field = option_and_then (of_block word) (decimal_number_of 0 65535 field)

abbrev pub with_number : Word → ℕ → List ℕ → Option StepKind
with_number SetIndex block field = option_map (λ i. step.Ask (request.SetIndex block i)) (decimal_number_of 0 255 field)
with_number Protect block field = option_map (λ n. step.Ask (request.SetProtection block (n == 1))) (decimal_number_of 0 1 field)
with_number Lock block field = option_map (λ n. step.Ask (request.SetLock block (n == 1))) (decimal_number_of 0 1 field)
with_number SetRam block field = option_map (λ n. step.Ask (request.SetRam block (n == 1))) (decimal_number_of 0 1 field)
with_number Refuse block field = option_map (λ n. step.Refuse block n) (decimal_number_of 1 1000 field)
with_number _ block field = None

abbrev pub with_content : Word → ℕ → List ℕ → Option StepKind
with_content Ram block field = option_map (λ content. step.Ask (request.PutRam block content)) (content_of field)
with_content word block field = option_map (λ content. step.Ask (request.Write block (Some content) 0)) (content_of field)

-- where the power is cut: at which operation, and how many of its bytes are done
abbrev pub cut_place : List ℕ → List ℕ → Option (ℕ × ℕ)
cut_place first second = option_and_then (λ nth. option_map (λ keep. (nth, keep)) (decimal_number_of 0 256 second)) (decimal_number_of 1 1000000 first)

-- a word with a block and one field more
abbrev pub of_block_with : Word → ℕ → List ℕ → Option StepKind
of_block_with Write block field = with_content Write block field
of_block_with Ram block field = with_content Ram block field
of_block_with word block field = with_number word block field

abbrev pub with_two : Word → List ℕ → List ℕ → Option StepKind
with_two Cut first second = option_map (λ at. step.Cut at.0 at.1) (cut_place first second)
with_two CutSecond first second = option_map (λ at. step.CutSecond at.0 at.1) (cut_place first second)
with_two word first second = option_and_then (λ block. of_block_with word block second) (decimal_number_of 0 65535 first)

-- a word with its first field, and the second where there is one
abbrev pub with_field : Word → List ℕ → Option (List ℕ) → Option StepKind
with_field word first None = with_one word first
with_field word first (Some second) = with_two word first second

-- a word with its fields
abbrev pub with_fields : Word → Option (List ℕ) → Option StepKind
with_fields word None = without_fields word
with_fields word (Some fields) = with_field word (cut_at 32 fields).0 (cut_at 32 fields).1

-- the step that a text spells
unfoldable pub spelled : List ℕ → Option StepKind
spelled text = option_and_then (λ word. with_fields word (cut_at 32 text).1) (word_of (cut_at 32 text).0)
