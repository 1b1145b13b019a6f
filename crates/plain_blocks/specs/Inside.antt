-- The fields of a program.
use Rattle.std.specs.Prelude.{ℕ, List, [], ◌∷◌}
use Rattle.block_machine.specs.Words.{Outcome}
use Rattle.job_programs.specs.Program.{Program, program_at}
use Rattle.plain_blocks.specs.declared.program.Stand.{Stand}
use Rattle.plain_blocks.specs.declared.program.Stand.TheVariants.{Needless, At, Done}
use Rattle.plain_blocks.specs.declared.program.PlainProgram.TheInside.{Inside}

abbrev pub indices_at : Stand → List ℕ
indices_at Needless = []
indices_at (At index failures) = index ∷ []
indices_at (Done index outcome) = index ∷ []

abbrev pub done_at : Stand → List Outcome
done_at (Done index outcome) = outcome ∷ []
done_at stand = []

abbrev pub failures_at : Stand → ℕ
failures_at (At index failures) = failures
failures_at stand = 0

abbrev pub shown : Inside → Program
shown p = program_at p.job (indices_at p.stand) (done_at p.stand) (failures_at p.stand)
