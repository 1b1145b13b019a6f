-- A Pick, with the hand of the job that it takes.
use Rattle.std.specs.Prelude.{option_map, IfSome}
use Rattle.std.proofs.Common.{◌≡◌, ℕ, Bool, true, false, List, [], ◌∷◌, ◌++◌, Option, Some, None, refl, sym, subst}
use Rattle.block_machine.specs.nv_base.declared.job.JobStep.TheVariants as step
use Rattle.memif.specs.Told.{DeviceTold, Stand, ops_of, Part, part_at, PartTold}
use Rattle.memif.specs.Clock.{Clock}
use Rattle.block_machine.specs.Words.{Entry, Pick, JobKind, Taken, ReadJob, ReqResult, FromDevice, Configuration}
use Rattle.block_machine.specs.State.{State, Job}
use Rattle.block_machine.specs.Results.{took_none}
use Rattle.block_machine.specs.Steps.{after}
use Rattle.block_machine.specs.Legal.{IsAllowed}
use Rattle.promise_blocks.specs.OverDevice.{is_of}
use Rattle.promise_blocks.specs.Payment.{IsPaid}
use Rattle.nvm_device_laws.specs.Turn.{Keeps}
use Rattle.nvm_device_laws.specs.Tries.{TriesArePaid, is_hand_urgent}
use Rattle.job_programs.specs.Program.{step_of}
use Rattle.nv_desk_copies.specs.nv_desk.Desk.{DeskState, state_of}
use Rattle.job_progress.specs.Hand.{HandState}
use Rattle.job_progress.specs.JobInHand.{FitsMarks, HandFits, program_for}
use Rattle.job_progress.specs.Begins.{hand_by, hand_for}
use Rattle.nvm_device_laws.proofs.Called.{entries_keep}
use Rattle.nvm_device_laws.proofs.PaidTries.{tries_begin}
use Rattle.nvm_device_laws.proofs.Pushed.{started_push}
use Rattle.nvm_laws.specs.Halves.{Adds}
use Rattle.nvm_laws.specs.Turns.{hand_in}
use Rattle.nvm_laws.specs.Keeps.{StackKeeps}
use Rattle.nvm_laws.specs.Entries.{PicksKeep}
use Rattle.nvm_laws.proofs.Keeping.{keeps_with, timed_at}
use Rattle.nvm_laws.proofs.Ordering.{order_push, starts_push}

-- THE HAND OF A JOB ON WHICH NOTHING WAS DONE
-- it gives nothing that the device read
none_read : (block : ℕ) (kind : JobKind) (defaults : Bool) (indices : List ℕ) (retries : ℕ) (r : ReqResult)
    → step_of (record { block = block; kind = kind; defaults = defaults; indices = indices; retries = retries; done = []; failures = 0 }) ≡ step.Ended r FromDevice → ⊥
none_read block kind defaults (x ∷ xs) retries r is = cc
none_read block ReadJob defaults [] retries r is = cc
none_read block kind defaults [] retries r is = cc

fresh_fits : (c : Configuration) (s : State) (j k : Job) (stand : Stand) (t : Bool) → FitsMarks c s k (hand_by t c s j) stand
fresh_fits c s j k stand true = record { fit = tt; last = λ r bytes is stands. cc }
fresh_fits c s j k stand false = record {
  fit = tt;
  last = λ r bytes is stands. absurd (none_read (program_for c s j).block (program_for c s j).kind (program_for c s j).defaults (program_for c s j).indices (program_for c s j).retries r is);
}

fits_by : (c : Configuration) (s : State) (d : DeviceTold) (o : Option Job) → HandFits c s (option_map (hand_for c s) o) d
fits_by c s d None = tt
fits_by c s d (Some j) = λ k held. fresh_fits c s j k d.stand (took_none j.taken)

pub done_is : (c : Configuration) (s : State) (j : Job) (t : Bool) → (hand_by t c s j).program.done ≡ []
done_is c s j true = refl
done_is c s j false = refl

pub failures_are : (c : Configuration) (s : State) (j : Job) (t : Bool) → (hand_by t c s j).program.failures ≡ 0
failures_are c s j true = refl
failures_are c s j false = refl

paid_by : (d : DeviceTold) (clock : Clock) (c : Configuration) (s : State) (h : List Entry) (before : Part → PartTold)
    → ((p : Part) → IsPaid (is_of p d.fixed) c clock.worn (before p).faults (part_at p d).faults h) → (o : Option Job)
    → IfSome (option_map (hand_for c s) o) (λ x. TriesArePaid c clock.worn (is_hand_urgent c s) before d h x.program)
paid_by d clock c s h before paid None = tt
paid_by d clock c s h before paid (Some j) = tries_begin d clock c (is_hand_urgent c s) h before (hand_for c s j).program (done_is c s j (took_none j.taken)) (failures_are c s j (took_none j.taken)) paid

-- THE PICK
picked_keeps : (d : DeviceTold) (clock : Clock) (old new : DeskState) (hand : Option HandState) (block : ℕ) (kind : JobKind) (taken : Taken)
    → Adds (Pick block kind taken (ops_of d)) old new → IsAllowed old.config old.cap (state_of old) (Pick block kind taken (ops_of d)) → (before : Part → PartTold)
    → StackKeeps before old hand d clock → StackKeeps before new (hand_in new) d clock
picked_keeps d clock old new hand block kind taken adds allowed before kept =
    subst (λ (x : DeskState). StackKeeps before x (hand_in x) d clock) (sym adds) (record {
      started = started_push old.entries e;
      keeps = keeps_now;
      fits = fits_by old.config behind d behind.hand;
      paid = paid_by d clock old.config behind (old.entries ++ e ∷ []) before keeps_now.over.paid behind.hand;
      order = order_push d clock old.config old.entries e refl kept.order;
      starts = starts_push d old.entries e refl kept.starts;
    })
  where
    e : Entry
    e = Pick block kind taken (ops_of d)

    behind : State
    behind = after old.config (old.entries ++ e ∷ [])

    keeps_now : Keeps old.config old.cap (old.entries ++ e ∷ []) before d clock
    keeps_now = entries_keep d clock old.config old.cap old.entries before e kept.started kept.keeps refl allowed refl tt

pub picks_keep : (d : DeviceTold) (clock : Clock) → PicksKeep d clock
picks_keep d clock old new hand block kind taken adds allowed =
    keeps_with old new hand (hand_in new) (Pick block kind taken (ops_of d)) d clock adds (timed_at (Pick block kind taken (ops_of d)) d.ops refl)
    (picked_keeps d clock old new hand block kind taken adds allowed)
