-- The programs of a script's callers.
use Rattle.std.specs.Prelude.{ℕ, ◌==◌, not, Bool, List, length, filter, map}
use Rattle.std.specs.List.{range_with_len}
use Rattle.script_walks.specs.Words.{Step}
use Rattle.script_walks.specs.Callers.{program_of}
use Rattle.block_machine.specs.Words.{Configuration}
use Rattle.script_callers.specs.declared.program.Program.{Program}
use Rattle.script_callers.specs.Deeds.{deeds_of}

-- a caller, and what its steps have it do
abbrev pub program_by : Configuration → List Step → ℕ → Program
program_by c steps caller = record { caller = caller; deeds = deeds_of c (program_of caller steps) }

abbrev pub does_something : Program → Bool
does_something p = not (length p.deeds == 0)

-- the programs of the callers 0 to 15, by number
abbrev pub all_programs : Configuration → List Step → List Program
all_programs c steps = map (program_by c steps) (range_with_len 0 16)

-- those of the callers that do something
abbrev pub programs_of : Configuration → List Step → List Program
programs_of c steps = filter does_something (all_programs c steps)
