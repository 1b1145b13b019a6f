-- A device that was just made.
use Rattle.std.specs.Prelude.{◌≡◌, ◌<◌, ℕ, false, List, [], length, replicate, None}
use Rattle.std.specs.List.{All}
use Rattle.memif.specs.declared.answer.JobResult.TheVariants.{JobOk}
use Rattle.fls_model.specs.Attach.{IsAttached}
use Rattle.fls_model.specs.Told.{Told}
use Rattle.fls_jobs.specs.Start.{IsIdle}
use Rattle.fls_jobs.specs.State.{FlsState}
use Rattle.ea_told.specs.Making.{Making, HasSlots}
use Rattle.ea_told.specs.Parts.{Parts}
use Rattle.ea_told.specs.States.{no_state}

-- it did nothing yet
abbrev pub fresh : Making → FlsState → List ℕ → Parts
fresh m f content = record {
  fls = f;
  geometry = m.geometry;
  numbers = m.numbers;
  states = replicate (length m.numbers) no_state;
  content = content;
  job = None;
  last = JobOk;
  given = 0;
  starts = 0;
  started = false;
  off = false;
  ops = 0;
  faults = 0;
  operations = [];
}

pub record IsNew (m : Making) (entry : Told) (f : FlsState) (content : List ℕ) : Type 0 where
  pub slots : HasSlots m
  pub attached : IsAttached m.geometry entry f.flash
  pub driver : f.geometry ≡ m.geometry
  pub idle : IsIdle f
  pub room : length content ≡ m.geometry.sector
  pub small : All (λ x. x < 256) content
