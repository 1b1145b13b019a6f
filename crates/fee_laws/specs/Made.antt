-- A device that was made.
use Rattle.std.specs.Prelude.{◌≡◌, [], false, true}
use Rattle.nv_base.specs.Plan.{listed_anew}
use Rattle.memif.specs.declared.answer.JobResult.TheVariants.{JobOk}
use Rattle.memif.specs.Told.{PartTold, Ended, nothing_open}
use Rattle.fls_model.specs.Told.{Told}
use Rattle.promise_device.specs.Making.{Making}
use Rattle.fee_told.specs.fls_told.Runs.{IsMade}
use Rattle.fee_told.specs.Device.{Device, told_of, flash_device}

-- the part of a device over a flash that told this, before its first call
abbrev pub part_at : Told → PartTold
part_at entry = record { faults = 0; flash_faults = entry.faults; off = entry.off; planning = listed_anew entry.planning }

-- of this, over a flash that told this: it asked for no operation yet, wasn't started, and has nothing open
pub record IsMadeOf (m : Making) (entry : Told) (d : Device) : Type 0 where
  pub making : d.making ≡ m
  pub told_entry : d.entry ≡ entry
  pub made : IsMade (flash_device d)
  pub started : d.started ≡ false
  pub starts : d.starts ≡ 0
  pub stand : (told_of d).stand ≡ Ended JobOk []
  pub ops : (told_of d).ops ≡ 0
  pub part : (told_of d).first ≡ part_at entry
  pub rests : nothing_open (told_of d) ≡ true
