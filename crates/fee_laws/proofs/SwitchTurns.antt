-- The turns of a switch, by the step that was made.
use Rattle.std.proofs.Common.{Some, None, ℕ, List}
use Rattle.nv_base.specs.declared.instance.DeviceNumber.{DeviceNumber}
use Rattle.fls_model.specs.declared.flash.FlashAnswer.TheVariants.{Done, Failed, Off}
use Rattle.fls_model.specs.Told.{Told}
use Rattle.fls_jobs.specs.State.{FlsState}
use Rattle.fee_course.specs.declared.course.Course.{Course}
use Rattle.fee_course.specs.declared.course.Course.TheVariants.{Erase, Copy, Head, Gate}
use Rattle.fee_switch_laws.specs.fee_switch.Banks.{BanksState}
use Rattle.promise_device.specs.Making.{Making}
use Rattle.fee_laws.specs.Inside.{Parts}
use Rattle.fee_laws.specs.Switches.{IsStepping, IsWithin, StepTurned, SwitchesTurn}
use Rattle.fee_laws.proofs.SwitchErased.{erase_done, erase_failed, erase_cut}
use Rattle.fee_laws.proofs.SwitchCopied.{copy_done, copy_failed, copy_cut}
use Rattle.fee_laws.proofs.SwitchHead.{head_done, head_failed, head_cut}
use Rattle.fee_laws.proofs.SwitchGate.{gate_failed, gate_cut}
use Rattle.fee_laws.proofs.SwitchEnded.{gate_done}

module _ (m : Making) (entry : Told) (s : Parts) (listed : List (DeviceNumber × ℕ)) (kept count : ℕ) (made : BanksState) (f : FlsState) where
  -- done, failed and cut
  turns_by : (c : Course) → IsWithin c
      → (IsStepping m entry s listed kept count c made Done f → StepTurned Done m entry s listed kept count c made f)
      × (IsStepping m entry s listed kept count c made Failed f → StepTurned Failed m entry s listed kept count c made f)
      × (IsStepping m entry s listed kept count c made Off f → StepTurned Off m entry s listed kept count c made f)
  turns_by (Erase n) within = (erase_done m entry s listed kept count n made f, erase_failed m entry s listed kept count n made f, erase_cut m entry s listed kept count n made f)
  turns_by (Copy None) within = absurd within
  turns_by (Copy (Some w)) within = (copy_done m entry s listed kept count w made f, copy_failed m entry s listed kept count w made f, copy_cut m entry s listed kept count w made f)
  turns_by Head within = (head_done m entry s listed kept count made f, head_failed m entry s listed kept count made f, head_cut m entry s listed kept count made f)
  turns_by (Gate doubtful) within = (gate_done m entry s listed kept count doubtful made f, gate_failed m entry s listed kept count doubtful made f, gate_cut m entry s listed kept count doubtful made f)

pub switches_go_on : SwitchesTurn Done
switches_go_on m entry s listed kept count c made f is within = (turns_by m entry s listed kept count made f c within).0 is

pub switches_fail : SwitchesTurn Failed
switches_fail m entry s listed kept count c made f is within = (turns_by m entry s listed kept count made f c within).1 is

pub switches_are_cut : SwitchesTurn Off
switches_are_cut m entry s listed kept count c made f is within = (turns_by m entry s listed kept count made f c within).2 is
