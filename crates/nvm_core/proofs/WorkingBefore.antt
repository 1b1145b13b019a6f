-- The job in hand at the device.
use Rattle.std.proofs.Common.{◌≡◌, Bool, true, false, [], Some, None, Result, Ok, Err, refl, sym, ap, ◌∙◌, subst}
use Rattle.nvm_laws.specs.memif.Told as device
use Rattle.nvm_laws.specs.memif.Told.{DeviceTold, Stand, is_open, IfElse}
use Rattle.nvm_laws.specs.memif.Calls.{Wish, AcceptsAs, Cancels, IsCanceled}
use Rattle.nvm_laws.specs.memif.Clock.{Clock}
use Rattle.nvm_laws.specs.memif.declared.answer.JobResult.TheVariants.{JobCanceled}
use Rattle.nvm_laws.specs.memif.declared.answer.DeviceRefusal.{DeviceRefusal}
use Rattle.nvm_laws.specs.block_machine.Words.{Configuration}
use Rattle.nvm_laws.specs.block_machine.State.{State, Job}
use Rattle.nvm_laws.specs.job_programs.Program.{Program}
use Rattle.nvm_laws.specs.job_progress.Hand.{HandState}
use Rattle.nvm_laws.specs.job_progress.JobInHand.{IsInHand, IsWorking, IsAt}
use Rattle.nvm_core.specs.OperationStart.{LeavesDevice}

-- its program is that of any job that is in hand
pub working_of : (c : Configuration) (s : State) (h : HandState) (d : DeviceTold) (j : Job) → IsInHand c s h d → s.hand ≡ Some j → IsWorking c s j h.program
working_of c s h d j is hand =
    let same : is.job ≡ j = let both : Some is.job ≡ Some j = sym is.hand ∙ hand in cc in
    subst (λ (x : Job). IsWorking c s x h.program) same is.working

-- where the device is at the hand's step it is open, and else it isn't
open_by : (c : Configuration) (j : Job) (p : Program) (stand : Stand) (t : Bool) → IfElse t (IsAt c j p stand) (is_open stand ≡ false) → is_open stand ≡ t
open_by c j p stand true at = ap is_open at.stands
open_by c j p stand false at = at

pub open_of : (c : Configuration) (s : State) (h : HandState) (d : DeviceTold) → IsInHand c s h d → is_open d.stand ≡ h.started
open_of c s h d is = open_by c is.job h.program d.stand h.started is.at

-- what is all that changes, is
leaves_by : (old new : DeviceTold) (stand : Stand) → new ≡ record old { slots = new.slots; stand = stand; left = new.left; ready = new.ready; wait = new.wait } → LeavesDevice old new
leaves_by old new stand only =
    only ∙ ap (λ (s : Stand). record old { slots = new.slots; stand = s; left = new.left; ready = new.ready; wait = new.wait }) (sym (ap (λ (x : DeviceTold). x.stand) only))

-- a start, and a cancel, changes no more
pub leaves : (w : Wish) (answer : Result (Unit {0}) DeviceRefusal) (old new : DeviceTold) → AcceptsAs w answer old new → LeavesDevice old new
leaves w (Ok u) old new is = leaves_by old new (device.Open w.job) is.1.only
leaves w (Err refusal) old new is = subst (λ (x : DeviceTold). LeavesDevice old x) (sym is.1) refl

canceled_by : (old new : DeviceTold) (t : Bool) → IfElse t (IsCanceled old new) (new ≡ old) → LeavesDevice old new
canceled_by old new true is = leaves_by old new (device.Ended JobCanceled []) is.only
canceled_by old new false is = subst (λ (x : DeviceTold). LeavesDevice old x) (sym is) refl

pub cancel_leaves : (old : DeviceTold) (clock : Clock) (new : DeviceTold) (clock_new : Clock) → Cancels old clock new clock_new → LeavesDevice old new
cancel_leaves old clock new clock_new cancels = canceled_by old new (is_open old.stand) cancels.0

pub not_both : (refusal : DeviceRefusal) → None ≡ Some refusal → ⊥
not_both refusal is = cc
