-- The fields of a program.
use Rattle.std.specs.Prelude.{ℕ, List, [], ◌∷◌}
use Rattle.block_machine.specs.Words.{Outcome}
use Rattle.job_programs.specs.Program.{Program, program_at}
use Rattle.redundant_blocks.specs.declared.program.Stand.{Stand}
use Rattle.redundant_blocks.specs.declared.program.Stand.TheVariants.{Needless, AtFirst, AtSecond, Done}
use Rattle.redundant_blocks.specs.declared.program.RedundantProgram.TheInside.{Inside}

abbrev pub indices_at : Stand → List ℕ
indices_at Needless = []
indices_at stand = 0 ∷ 1 ∷ []

abbrev pub done_at : Stand → List Outcome
done_at (AtSecond copy_0 failures) = copy_0 ∷ []
done_at (Done copy_0 copy_1) = copy_0 ∷ copy_1 ∷ []
done_at stand = []

abbrev pub failures_at : Stand → ℕ
failures_at (AtFirst failures) = failures
failures_at (AtSecond copy_0 failures) = failures
failures_at stand = 0

abbrev pub shown : Inside → Program
shown p = program_at p.job (indices_at p.stand) (done_at p.stand) (failures_at p.stand)
