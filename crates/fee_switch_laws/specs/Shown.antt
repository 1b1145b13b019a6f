-- The banks in memory, as the laws of banks speak of them.
use Rattle.std.specs.Prelude.{◌*◌, ℕ, List, Option, Some, None}
use Rattle.nv_base.specs.Geometry.{pages_of_sector}
use Rattle.fee_image.specs.Image.{Layout, layout_of}
use Rattle.fee_image.specs.May.{May}
use Rattle.fee_image.specs.Banks.{Old, NoBank, OldBank, Phase, Idle, Erasing, Copying, Sealing, Banks, Holds}
use Rattle.fee_log.specs.Log.{LogState, log_of}
use Rattle.fee_switch.specs.declared.active.ActiveBank.{ActiveBank}
use Rattle.fee_course.specs.declared.course.Course.{Course}
use Rattle.fee_course.specs.declared.course.Course.TheVariants.{Erase, Copy, Head, Gate}
use Rattle.fee_switch.specs.Banks.{BanksState}

-- a record that is in work has a content, of an append and of a copy, which isn't kept
pub record Bodies : Type 0 where
  pub append : List ℕ
  pub copy : List ℕ

abbrev pub old_shown : Option ActiveBank → LogState → List ℕ → Old
old_shown None log body = NoBank
old_shown (Some a) log body = OldBank a.bank a.head (log_of log body)

abbrev pub phase_at : Course → BanksState → List ℕ → Phase
phase_at (Erase done) s body = Erasing (done * pages_of_sector s.geometry)
phase_at (Copy work) s body = Copying (log_of s.copies body)
phase_at Head s body = Copying (log_of s.copies body)
phase_at (Gate failed) s body = Sealing (log_of s.copies body)

abbrev pub phase_shown : Option Course → BanksState → List ℕ → Phase
phase_shown None s body = Idle
phase_shown (Some course) s body = phase_at course s body

-- the banks, with the marks that may be found and those that the target may show
abbrev pub banks_shown : BanksState → Bodies → May → May → Banks
banks_shown s bodies may copied = record {
  old = old_shown s.active s.log bodies.append;
  target = s.target;
  phase = phase_shown s.course s bodies.copy;
  may = may;
  copied = copied;
}

abbrev pub layout_in : BanksState → Layout
layout_in s = layout_of s.geometry s.banks

-- the bytes of a flash hold them
abbrev pub HoldsBanks : BanksState → Bodies → List ℕ → May → May → Type 0
HoldsBanks s bodies bytes may copied = Holds (layout_in s) s.log.numbers bytes (banks_shown s bodies may copied)
