-- What a command writes last, and the statuses of outputs that fail.
use Rattle.std.specs.Prelude.{◌≡◌, ◌⊎◌, ℕ, List, [], ◌∷◌, length, take}
use Rattle.nv_streams.specs.Sink.{Written, Puts, PutsPart}
use Rattle.nv_base.specs.declared.entry.Entry.{Entry}
use Rattle.nvm_script.specs.Lines.{end_line}
use Rattle.nvm_script.specs.Printed.{history_lines}
use Rattle.nvm_lines.specs.declared.status.Status.{Status}
use Rattle.nvm_lines.specs.declared.status.Status.TheVariants as status
use Rattle.nvm_lines.specs.declared.output.OutputFault.{OutputFault}
use Rattle.nvm_lines.specs.declared.output.OutputFault.TheVariants.{Failed, Memory}

abbrev pub fault_status : OutputFault → Status
fault_status Failed = status.WriteFault
fault_status Memory = status.Memory

-- a status, or in its place a fault of the output or want of memory
abbrev pub IsReport : Status → Status → Type 0
IsReport meant x = (x ≡ meant) ⊎ (x ≡ status.Memory) ⊎ (x ≡ status.WriteFault)

-- A command ends by a status and its lines, mostly one, and these are all that it appended to the output, each by one put. At
-- want of memory it wrote nothing. Where the output failed, a beginning was appended of the lines of the status in whose place
-- this one stands.
abbrev pub Writes : (Status → List (List ℕ) → Type 0) → Written → Written → Status → Type 0
Writes IsEnd written written' status.Memory = written' ≡ written
Writes IsEnd written written' status.WriteFault = (meant : Status) × (lines : List (List ℕ)) × IsEnd meant lines × PutsPart written written' lines
Writes IsEnd written written' x = (lines : List (List ℕ)) × IsEnd x lines × Puts written written' lines

-- `end` and the number of entries, where the run ended well
abbrev pub IsEndOf : List Entry → Status → List (List ℕ) → Type 0
IsEndOf entries x lines = (x ≡ status.Ok) × (lines ≡ end_line (length entries) ∷ [])

-- the lines of entries broke off: within them where the output failed, and behind a line at want of memory
abbrev pub BreaksOff : OutputFault → List Entry → Written → Written → Type 0
BreaksOff Failed entries written written' = PutsPart written written' (history_lines entries)
BreaksOff Memory entries written written' = (n : ℕ) × Puts written written' (history_lines (take n entries))
