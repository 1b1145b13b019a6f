-- Scripts of the worked cases, and their programs.
use Rattle.std.specs.Prelude.{ℕ, List, [], ◌∷◌, None}
use Rattle.block_machine.specs.Words.{Write}
use Rattle.block_machine.specs.Cases.{bytes_1, bytes_2}
use Rattle.script_walks.specs.Words.{Step, AskStep, Store, Await}
use Rattle.script_walks.specs.Cases.{by}
use Rattle.script_callers.specs.declared.deed.Deed.{Deed}
use Rattle.script_callers.specs.declared.program.Program.{Program}

abbrev pub program : ℕ → List Deed → Program
program caller deeds = record { caller = caller; deeds = deeds }

-- caller 1 stores and writes twice, and caller 3 waits
abbrev pub both_script : List Step
both_script =
    by 1 (Store 2 bytes_1) ∷ by 1 (AskStep (Write 2 None 0)) ∷ by 3 (Await 2) ∷ by 1 (Store 2 bytes_2) ∷ by 1 (AskStep (Write 2 None 0)) ∷ []
