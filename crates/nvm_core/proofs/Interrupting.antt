-- A Pick over the job in hand.
use Rattle.std.specs.Prelude.{IsTrue, not}
use Rattle.std.proofs.Common.{◌≡◌, ℕ, ◌≤◌, Bool, true, false, Option, Some, refl, sym, ap, ◌∙◌, subst}
use Rattle.nvm_laws.specs.memif.Told as device
use Rattle.nvm_laws.specs.memif.Told.{DeviceTold, Stand, Open, is_open, is_urgent, IfElse}
use Rattle.nvm_laws.specs.memif.Clock.{Clock}
use Rattle.nvm_laws.specs.memif.Calls.{Cancels, IsCanceled}
use Rattle.nvm_laws.specs.block_machine.Words.{Configuration}
use Rattle.nvm_laws.specs.block_machine.State.{Job}
use Rattle.nvm_laws.specs.block_machine.Blocks.{rank_of}
use Rattle.nvm_laws.specs.block_machine.Next.{Next}
use Rattle.nvm_laws.specs.block_machine.Legal.{HandIsFree}
use Rattle.nvm_laws.specs.nv_desk.Desk.{DeskState, state_of}
use Rattle.nvm_laws.specs.nv_desk.Picks.{IsInterruption}
use Rattle.nvm_laws.specs.nv_desk_copies.Picks.{IsFree, IsPickNext}
use Rattle.nvm_laws.specs.job_programs.Program.{Program}
use Rattle.nvm_laws.specs.job_progress.Hand.{HandState}
use Rattle.nvm_laws.specs.job_progress.JobInHand.{IsInHand, IsAt}
use Rattle.nvm_laws.specs.Ties.{IsTied}
use Rattle.nvm_laws.proofs.DueTurning.{next_is}
use Rattle.nvm_core.specs.Choice.{IsPickable}
use Rattle.nvm_core.specs.OperationStart.{LeavesDevice}
use Rattle.nvm_core.proofs.WorkingBefore.{cancel_leaves}

-- a standard job isn't urgent at the device
standard_by : (t : Bool) → IsTrue (not t) → t ≡ false
standard_by true is = cc
standard_by false is = refl

urgent_closed : (stand : Stand) → is_open stand ≡ false → is_urgent stand ≡ false
urgent_closed (Open j) closed = cc
urgent_closed (device.Ended r given) closed = refl

urgent_by : (c : Configuration) (j : Job) (p : Program) (stand : Stand) (t : Bool) → (rank_of c j).immediate ≡ false
    → IfElse t (IsAt c j p stand) (is_open stand ≡ false) → is_urgent stand ≡ false
urgent_by c j p stand true standard at = ap is_urgent at.stands ∙ standard
urgent_by c j p stand false standard at = urgent_closed stand at

pub not_urgent : (desk : DeskState) (h : HandState) (d : DeviceTold) → IsInHand desk.config (state_of desk) h d → IsInterruption desk → is_urgent d.stand ≡ false
not_urgent desk h d is may =
    let same : may.job ≡ is.job = let both : Some may.job ≡ Some is.job = sym may.held ∙ is.hand in cc in
    urgent_by desk.config is.job h.program d.stand h.started
    (ap (λ (j : Job). (rank_of desk.config j).immediate) (sym same) ∙ standard_by (rank_of desk.config may.job).immediate may.may.standard) is.at

-- a cancel leaves nothing open
closed_by : (old new : DeviceTold) (t : Bool) → is_open old.stand ≡ t → IfElse t (IsCanceled old new) (new ≡ old) → is_open new.stand ≡ false
closed_by old new true on is = ap (λ (x : DeviceTold). is_open x.stand) is.only
closed_by old new false off is = ap (λ (x : DeviceTold). is_open x.stand) is ∙ off

-- then the Pick may come
pub interrupts : (desk : DeskState) (hand : Option HandState) (old : DeviceTold) (clock : Clock) (new : DeviceTold) (clock_new : Clock) → IsTied desk hand old
    → (state_of desk).off ≡ false → IsInterruption desk → Cancels old clock new clock_new → IsPickable desk new
interrupts desk hand old clock new clock_new tied on may cancels =
    let leaves : LeavesDevice old new = cancel_leaves old clock new clock_new cancels in
    let c = desk.config in
    let s = state_of desk in
    let next = next_is c s may.next may.first in
    record {
      started = tied.started;
      on = on;
      later = subst (λ (n : ℕ). s.ops ≤ n) (sym (ap device.ops_of leaves)) tied.later;
      up = ap (λ (x : DeviceTold). x.started) leaves ∙ tied.up;
      numbers = ap (λ (x : DeviceTold). x.fixed.numbers) leaves ∙ tied.numbers;
      closed = closed_by old new (is_open old.stand) refl cancels.0;
      picks = subst IsPickNext (sym next) tt;
      free = subst (λ (n : Next). IsFree c s n) (sym next) (subst (λ (o : Option Job). HandIsFree c o may.next) (sym may.held) may.may);
    }
