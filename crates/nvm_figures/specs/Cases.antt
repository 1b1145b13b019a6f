-- Worked cases: a device that takes one turn for a read, nine for a write of block 2 and seven for a write of block 3, and
-- twelve at most for work of its own.
use Rattle.std.specs.Prelude.{ℕ, true, false, List, [], ◌∷◌, Some, None}
use Rattle.memif.specs.declared.answer.JobResult.TheVariants.{JobOk}
use Rattle.memif.specs.Told.{DeviceTold, Figures, Fixed, First, Open, Ended, no_part}
use Rattle.block_machine.specs.Words.{JobKind, WriteJob, Outcome, Content}
use Rattle.job_programs.specs.Program.{Program}

abbrev pub figures : ℕ → ℕ → Figures
figures pages write = record { part = First; pages = pages; read = 1; write = write; invalidate = 6; erase = 6 }

-- block 2 has one instance, block 3 two copies
abbrev pub fixed : Fixed
fixed = record {
  numbers = (record { 0 = 128 }, 4) ∷ (record { 0 = 192 }, 2) ∷ (record { 0 = 193 }, 2) ∷ [];
  figures = figures 4 9 ∷ figures 4 7 ∷ figures 4 7 ∷ [];
  reserve = 8;
  own = 12;
  two = false;
}

-- nothing is open but so many turns of the device's own work
abbrev pub at_rest : ℕ → DeviceTold
at_rest left = record {
  fixed = fixed;
  slots = None;
  tells = false;
  started = true;
  stand = Ended JobOk [];
  switching = false;
  ops = 0;
  starts = 1;
  first = no_part;
  second = no_part;
  left = left;
  ready = 8;
  wait = Some 2;
}

-- a write of a number is open, with so many turns left
abbrev pub writing : ℕ → ℕ → DeviceTold
writing number left = record (at_rest left) { stand = Open (record { number = number; mark = Some (Content []); urgent = false }) }

-- a job on block 2 or 3 with one retry
abbrev pub program : ℕ → JobKind → List ℕ → List Outcome → ℕ → Program
program block kind indices done failures = record { block = block; kind = kind; defaults = false; indices = indices; retries = 1; done = done; failures = failures }

abbrev pub plain_write : ℕ → Program
plain_write failures = program 2 WriteJob (0 ∷ []) [] failures

abbrev pub copies : JobKind → List Outcome → ℕ → Program
copies kind done failures = program 3 kind (0 ∷ 1 ∷ []) done failures
