-- The job in hand goes on: the device takes the operation that the hand's step names.
use Rattle.std.proofs.Common.{◌≡◌, ◌≤◌, ◌-◌, false, true, length, Some, Ok, refl, sym, ap, subst, inr}
use Rattle.nvm_laws.specs.nv_base.declared.instance.Instance.{Instance}
use Rattle.nvm_laws.specs.nv_base.declared.job.DeviceOp.{DeviceOp}
use Rattle.nvm_laws.specs.nv_base.declared.job.JobStep.TheVariants as step
use Rattle.nvm_laws.specs.memif.Told.{DeviceTold, is_open}
use Rattle.nvm_laws.specs.memif.Clock.{Clock}
use Rattle.nvm_laws.specs.memif.Calls.{Wish, AcceptsAs, InOrder}
use Rattle.nvm_laws.specs.block_config.Rules.{IsLegalConfig}
use Rattle.nvm_laws.specs.nvm_figures.Job.{IsOperation}
use Rattle.nvm_laws.specs.nvm_figures.Left.{stack_left}
use Rattle.nvm_laws.specs.nv_desk.Desk.{DeskState, state_of}
use Rattle.nvm_laws.specs.job_progress.Hand.{HandState, is_finished, with_start}
use Rattle.nvm_laws.specs.job_progress.JobInHand.{IsInHand, IsWorking, job_for}
use Rattle.nvm_laws.specs.job_progress.Goes.{Names}
use Rattle.nvm_laws.specs.AtDevice.{GoesOn}
use Rattle.nvm_laws.specs.Keeps.{StaysKept}
use Rattle.nvm_laws.specs.Turns.{wish_for}
use Rattle.nvm_laws.specs.Work.{stack_work}
use Rattle.nvm_laws.proofs.Going.{steps_name, starts_go_on}
use Rattle.nvm_laws.proofs.nvm_figures.DrainWork.{starts_dont_add}
use Rattle.nvm_laws.proofs.nvm_figures.Figures.{starts_dont_raise}
use Rattle.nvm_core.specs.OperationStart.{IsStarted, LeavesDevice, StartKeeps}
use Rattle.nvm_core.proofs.Starting.{operation_is}
use Rattle.nvm_core.proofs.WorkingBefore.{working_of, leaves}

-- what becomes of the hand and its device
pub record HasGoneOn (desk : DeskState) (h h_new : HandState) (old : DeviceTold) (clock : Clock) (new : DeviceTold) (clock_new : Clock) : Type 0 where
  pub opens : is_open new.stand ≡ true
  pub paired : IsInHand desk.config (state_of desk) h_new new
  pub started : h_new.started ≡ true
  pub device : LeavesDevice old new
  pub keeps : StaysKept desk (Some h) old clock desk (Some h_new) new clock_new
  pub lowers : stack_work desk (Some h_new) new ≤ stack_work desk (Some h) old
  pub left : stack_left (Some h_new.program) new ≤ stack_left (Some h.program) old
  pub goes : GoesOn (Some h) old (Some h_new) new

module _ (desk : DeskState) (h : HandState) (old : DeviceTold) (o : DeviceOp) (i : Instance) (legal : IsLegalConfig desk.config) (paired : IsInHand desk.config (state_of desk) h old)
    (at : h.step ≡ step.Device o i) (new : DeviceTold) (started : IsStarted (Ok tt) desk o i old new) where
  names : Names desk.config (state_of desk) h o i
  names = steps_name desk.config (state_of desk) h old o i legal paired at

  working : IsWorking desk.config (state_of desk) names.job h.program
  working = working_of desk.config (state_of desk) h old names.job paired names.hand

  abbrev wish : Wish
  wish = wish_for desk.config h names.job names.index

  takes : AcceptsAs wish (Ok tt) old new
  takes = started h names working

  operation : IsOperation h.program names.index (job_for desk.config names.job h.program names.index)
  operation = operation_is desk.config (state_of desk) names.job h.program names.index working names.next names.content

  pub goes_on : (h_new : HandState) (clock clock_new : Clock) → h_new ≡ with_start h → StartKeeps desk o i old clock new clock_new → InOrder new clock_new → is_finished h.step ≡ false
      → HasGoneOn desk h h_new old clock new clock_new
  goes_on h_new clock clock_new begun keeps order unfinished = subst (λ (x : HandState). HasGoneOn desk h x old clock new clock_new) (sym begun) (record {
    opens = ap (λ (x : DeviceTold). is_open x.stand) takes.1.only;
    paired = starts_go_on desk.config (state_of desk) h old new o i names.job names.index paired at names.hand names.next (ap (λ (x : DeviceTold). x.stand) takes.1.only);
    started = refl;
    device = leaves wish (Ok tt) old new takes;
    keeps = keeps h names at paired;
    lowers = starts_dont_add new clock_new old wish (desk.cap - length desk.entries) h.program names.index order working.tries operation takes;
    left = starts_dont_raise old new wish h.program names.index working.tries operation takes;
    goes = (unfinished, refl, inr (record { wish = wish; index = names.index; operation = operation; accepts = takes }));
  })
