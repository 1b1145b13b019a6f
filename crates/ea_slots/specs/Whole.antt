-- A device as a memory device.
use Rattle.std.specs.Prelude.{◌≡◌, false, []}
use Rattle.nv_base.specs.Plan.{listed_anew}
use Rattle.memif.specs.declared.answer.JobResult.TheVariants.{JobOk}
use Rattle.memif.specs.Told.{DeviceTold, PartTold, Ended}
use Rattle.memif.specs.Clock.{Clock}
use Rattle.fls_model.specs.Told.{Told}
use Rattle.ea_told.specs.Making.{Making}
use Rattle.ea_told.specs.Parts.{Parts}
use Rattle.ea_told.specs.Device.{fixed_for, told_of, clock_of}

-- its fields, with what it was made for, and what its flash told then
pub record Device : Type 0 where
  pub making : Making
  pub entry : Told
  pub parts : Parts

abbrev pub told_in : Device → DeviceTold
told_in d = told_of d.making d.entry d.parts

abbrev pub clock_in : Device → Clock
clock_in d = clock_of d.making d.entry d.parts

-- its part before
abbrev pub part_at : Told → PartTold
part_at entry = record { faults = 0; flash_faults = entry.faults; off = entry.off; planning = listed_anew entry.planning }

-- it was just made: nothing is open, and it did nothing yet
pub record IsMadeOf (m : Making) (d : DeviceTold) : Type 0 where
  pub fixed : d.fixed ≡ fixed_for m
  pub started : d.started ≡ false
  pub stand : d.stand ≡ Ended JobOk []
  pub starts : d.starts ≡ 0
  pub ops : d.ops ≡ 0
  pub faults : d.first.faults ≡ 0
