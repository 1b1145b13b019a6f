-- The start of an operation that the job in hand names, and the calls that drop or leave the job in hand.
use Rattle.std.specs.Prelude.{slice_get, nat_le, if◌then◌else◌}
use Rattle.std.specs.List.{Contains}
use Rattle.std.proofs.Common.{◌≡◌, ◌≢◌, ℕ, ◌+◌, ◌*◌, Bool, true, false, List, [], ◌∷◌, length, Option, Some, None, Result, Ok, Err, refl, sym, ap, ◌∙◌, subst, arith}
use Rattle.block_machine.specs.nv_base.Marks.{instance_of}
use Rattle.block_machine.specs.nv_base.declared.instance.DeviceNumber.{DeviceNumber}
use Rattle.block_machine.specs.nv_base.declared.instance.Instance.{Instance}
use Rattle.block_machine.specs.nv_base.declared.job.DeviceOp.{DeviceOp}
use Rattle.block_machine.specs.nv_base.declared.job.JobStep.TheVariants as step
use Rattle.memif.specs.Told as device
use Rattle.memif.specs.Told.{DeviceTold, Slot, Part, PartTold, IfElse, is_open}
use Rattle.memif.specs.Clock.{Clock}
use Rattle.memif.specs.Calls.{Wish, Accepts, Cancels, IsCanceled}
use Rattle.memif.specs.declared.answer.DeviceRefusal.{DeviceRefusal}
use Rattle.block_machine.specs.block_config.Lengths.{lengths_of}
use Rattle.block_machine.specs.Words.{Mark, JobKind, ReadJob, Outcome, BlockKind, Native, Redundant, Dataset, Configuration}
use Rattle.block_machine.specs.State.{State, InstanceState, Job}
use Rattle.block_machine.specs.Blocks.{desc_of, instance_at, indices_by, indices_of, is_in, job_block, kind_of, mark_by, mark_of}
use Rattle.block_machine.specs.History.{MayStandIn}
use Rattle.job_programs.specs.Program.{Program, is_failed}
use Rattle.job_programs.specs.Failures.{served_of}
use Rattle.nvm_device_laws.specs.Pairing.{Allows, HasDoubt, Pairs, IsStaged}
use Rattle.promise_blocks.specs.Counts.{count_due}
use Rattle.nvm_device_laws.specs.Tries.{is_hand_urgent}
use Rattle.nv_desk_copies.specs.nv_desk.Desk.{DeskState, state_of}
use Rattle.job_progress.specs.Hand.{HandState, with_start}
use Rattle.job_progress.specs.JobInHand.{HandFits, IsInHand, job_for, program_for}
use Rattle.job_progress.specs.Goes.{Names}
use Rattle.block_laws.proofs.InstanceIndices.{is_in_at}
use Rattle.block_laws.proofs.HandMarks.{marks_in_hand_stand, marks_in_hand_are_doubts}
use Rattle.nvm_device_laws.proofs.DeviceCalls.{cancel_stays, goes_canceled, goes_opened, goes_same, read_stays, start_stays}
use Rattle.nvm_device_laws.proofs.DeviceTries.{start_tries}
use Rattle.nvm_device_laws.proofs.Pushed.{Goes}
use Rattle.nvm_laws.specs.Keeps.{StackKeeps}
use Rattle.nvm_laws.specs.Calls.{StartsKeep, CancelsKeep}
use Rattle.nvm_laws.proofs.Operations.{own, same_job}
use Rattle.nvm_laws.proofs.Keeping.{keeps_at}
use Rattle.nvm_laws.proofs.Telling.{accepts_tell, cancels_tell}
use Rattle.nvm_laws.proofs.Ordering.{order_stays, starts_stay}

-- THE MARK OF THE JOB
-- the machine has each instance that the device has
instance_in : (c : Configuration) (s : State) (due : ℕ → ℕ) (numbers : List (DeviceNumber × ℕ)) (o : Option (List Slot)) → Pairs Allows c s due numbers o
    → (x : DeviceNumber × ℕ) → Contains (lengths_of c) x → (y : InstanceState) × (instance_at s (instance_of x.0) ≡ Some y)
instance_in c s due numbers None pairs x has = absurd pairs
instance_in c s due numbers (Some slots) pairs x has = let (y, at, allows) = pairs x has in (y, at)

-- it is none of those that the program served before
unserved_if : (t : Bool) (at index : ℕ) (os : List Outcome) → slice_get (if t then [] else at ∷ []) (length os) ≡ Some index
    → is_in (served_of (if t then [] else at ∷ []) os) index ≡ false
unserved_if true at index os has = cc
unserved_if false at index [] has = refl
unserved_if false at index (o ∷ os) has = cc

unserved : (kind : BlockKind) (nv at index : ℕ) (os : List Outcome) → slice_get (indices_by kind nv at) (length os) ≡ Some index
    → is_in (served_of (indices_by kind nv at) os) index ≡ false
unserved Native nv at index [] has = refl
unserved Native nv at index (o ∷ os) has = cc
unserved Redundant nv at index [] has = refl
unserved Redundant nv at index (o ∷ []) has = let same : 1 ≡ index = cc in subst (λ (k : ℕ). is_in (served_of (0 ∷ 1 ∷ []) (o ∷ [])) k ≡ false) same (by (is_failed o))
  where
    by : (b : Bool) → is_in (if b then [] else 0 ∷ []) 1 ≡ false
    by true = refl
    by false = refl
unserved Redundant nv at index (o ∷ p ∷ os) has = cc
unserved Dataset nv at index os has = unserved_if (nat_le nv at) at index os has

-- a job with a mark doesn't read
no_read : (kind : JobKind) (content : Option (List ℕ × ℕ)) (m : Mark) → mark_by kind content ≡ Some m → kind ≢ ReadJob
no_read ReadJob content m has = λ is. cc
no_read kind content m has = λ is. cc

some_doubt : (xs : List Mark) (m : Mark) → Contains xs m → xs ≢ []
some_doubt [] m has = absurd (omega (arith, has.1))
some_doubt (x ∷ xs) m has = λ is. cc

module _ (before : Part → PartTold) (desk : DeskState) (h : HandState) (op : DeviceOp) (i : Instance)
    (names : Names desk.config (state_of desk) h op i) (d : DeviceTold) (clock : Clock) (is : IsInHand desk.config (state_of desk) h d)
    (kept : StackKeeps before desk (Some h) d clock) where
  job_is : is.job ≡ names.job
  job_is = same_job is.job names.job (state_of desk).hand is.hand names.hand

  left : (m : Mark) → mark_of names.job ≡ Some m → is_in names.job.written names.index ≡ false
  left m marks =
      let writes : kind_of is.job ≢ ReadJob = subst (λ (j : Job). kind_of j ≢ ReadJob) (sym job_is) (no_read (kind_of names.job) names.job.content m marks) in
      let o = own desk.config (state_of desk) h d is names.job names.hand names.index names.next in
      let indices : h.program.indices ≡ indices_of desk.config (state_of desk) (job_block names.job) =
      ap (λ (q : Program). q.indices) is.working.is ∙ (ap (λ (j : Job). (program_for desk.config (state_of desk) j).indices) job_is ∙ rw o.0 refl) in
      ap (λ (ws : List ℕ). is_in ws names.index) (ap (λ (j : Job). j.written) (sym job_is) ∙ is.working.written writes)
      ∙ (ap (λ (xs : List ℕ). is_in (served_of xs h.program.done) names.index) indices
      ∙ unserved (desc_of desk.config (job_block names.job)).kind (desc_of desk.config (job_block names.job)).nv _ names.index h.program.done o.1)

  staged_at : (m : Mark) → mark_of names.job ≡ Some m → (x : DeviceNumber × ℕ) → Contains (lengths_of desk.config) x
      → x.0.0 ≡ h.program.block * 64 + names.index
      → MayStandIn (instance_at (state_of desk) (instance_of x.0)) m × HasDoubt (instance_at (state_of desk) (instance_of x.0))
  staged_at m marks x has number =
      let (y, at) = instance_in desk.config (state_of desk) (count_due desk.entries kept.keeps.base) d.fixed.numbers d.slots (kept.keeps.marks kept.started) x has in
      let small = names.small in
      let block : (instance_of x.0).block ≡ h.program.block = omega (arith, number, small) in
      let index : (instance_of x.0).index ≡ names.index = omega (arith, number, small) in
      let in_it : is_in (indices_of desk.config (state_of desk) (job_block names.job)) (instance_of x.0).index ≡ true =
      ap (is_in (indices_of desk.config (state_of desk) (job_block names.job))) index
      ∙ is_in_at (indices_of desk.config (state_of desk) (job_block names.job)) (length h.program.done) names.index
      (own desk.config (state_of desk) h d is names.job names.hand names.index names.next).1 in
      let doubt : Contains y.cell.doubts m =
      marks_in_hand_are_doubts desk.config desk.cap desk.entries names.job m (instance_of x.0) y kept.keeps.over.legal names.hand marks (block ∙ names.same_block) in_it
      (ap (is_in names.job.written) index ∙ left m marks) at in (
        subst (λ (o : Option InstanceState). MayStandIn o m) (sym at)
            (marks_in_hand_stand desk.config desk.cap desk.entries names.job m (instance_of x.0) y kept.keeps.over.legal names.hand marks (block ∙ names.same_block) in_it at),
        subst HasDoubt (sym at) (some_doubt y.cell.doubts m doubt),
      )

  staged_by : (mark : Option Mark) → mark_of names.job ≡ mark → IsStaged desk.config (state_of desk) (h.program.block * 64 + names.index) mark
  staged_by None marks = tt
  staged_by (Some m) marks = λ x has number. staged_at m marks x has number

  pub staged : IsStaged desk.config (state_of desk) (job_for desk.config names.job h.program names.index).number (job_for desk.config names.job h.program names.index).mark
  staged = staged_by (mark_of names.job) refl

-- a hand that isn't finished has read nothing last
pub fits_on : (c : Configuration) (s : State) (h : HandState) (old new : DeviceTold) (op : DeviceOp) (i : Instance) → h.step ≡ step.Device op i
    → HandFits c s (Some h) old → HandFits c s (Some (with_start h)) new
fits_on c s h old new op i at fits j held = record { fit = (fits j held).fit; last = λ r bytes ends stands. cc }

-- THE START
-- it makes no operation and is no start-up
accepted_goes : (old : DeviceTold) (clock : Clock) (new : DeviceTold) (clock_new : Clock) (w : Wish) (answer : Result (Unit {0}) DeviceRefusal)
    → Accepts w answer old clock new clock_new → Goes old clock new clock_new
accepted_goes old clock new clock_new w (Ok u) accepts = goes_opened old clock new clock_new w.job accepts.0.1 accepts.1
accepted_goes old clock new clock_new w (Err refusal) accepts = goes_same old clock new clock_new accepts.0.1 accepts.1.same (λ held. accepts.1.order.now held)

accepted_same : (old : DeviceTold) (clock : Clock) (new : DeviceTold) (clock_new : Clock) (w : Wish) (answer : Result (Unit {0}) DeviceRefusal)
    → Accepts w answer old clock new clock_new → (new.ops ≡ old.ops) × (new.starts ≡ old.starts)
accepted_same old clock new clock_new w (Ok u) accepts = (ap (λ (d : DeviceTold). d.ops) accepts.0.1.only, ap (λ (d : DeviceTold). d.starts) accepts.0.1.only)
accepted_same old clock new clock_new w (Err refusal) accepts = (ap (λ (d : DeviceTold). d.ops) accepts.0.1, ap (λ (d : DeviceTold). d.starts) accepts.0.1)

pub starts_keep : (old : DeviceTold) (clock : Clock) (new : DeviceTold) (clock_new : Clock) (w : Wish) (answer : Result (Unit {0}) DeviceRefusal)
    → Accepts w answer old clock new clock_new → StartsKeep w old clock new clock_new
starts_keep old clock new clock_new w answer accepts desk h op i names at is asked = keeps_at desk desk (Some h) (Some (with_start h)) old clock new clock_new refl (accepts_tell old clock new clock_new w answer accepts) (λ before kept told. record {
  started = kept.started;
  keeps = start_stays old clock new clock_new w answer accepts desk.config desk.cap desk.entries before kept.started
      (subst (λ (j : device.Job). IsStaged desk.config (state_of desk) j.number j.mark) (sym asked) (staged before desk h op i names old clock is kept)) kept.keeps told;
  fits = fits_on desk.config (state_of desk) h old new op i at kept.fits;
  paid = start_tries old clock new clock_new w answer accepts desk.config desk.cap (is_hand_urgent desk.config (state_of desk)) desk.entries before h.program kept.keeps kept.paid;
  order = order_stays old clock new clock_new (accepted_goes old clock new clock_new w answer accepts).fixed (accepted_goes old clock new clock_new w answer accepts).past.of_second desk.config desk.entries
      (accepted_same old clock new clock_new w answer accepts).0 kept.order;
  starts = starts_stay old new (accepted_goes old clock new clock_new w answer accepts).faults desk.entries kept.starts (accepted_same old clock new clock_new w answer accepts).1;
})

-- a read has no mark
pub reads_keep : (old : DeviceTold) (clock : Clock) (new : DeviceTold) (clock_new : Clock) (w : Wish) (answer : Result (Unit {0}) DeviceRefusal)
    → w.job.mark ≡ None → Accepts w answer old clock new clock_new → StartsKeep w old clock new clock_new
reads_keep old clock new clock_new w answer none accepts desk h op i names at is asked = keeps_at desk desk (Some h) (Some (with_start h)) old clock new clock_new refl (accepts_tell old clock new clock_new w answer accepts) (λ before kept told. record {
  started = kept.started;
  keeps = read_stays old clock new clock_new w answer none accepts desk.config desk.cap desk.entries before kept.started kept.keeps told;
  fits = fits_on desk.config (state_of desk) h old new op i at kept.fits;
  paid = start_tries old clock new clock_new w answer accepts desk.config desk.cap (is_hand_urgent desk.config (state_of desk)) desk.entries before h.program kept.keeps kept.paid;
  order = order_stays old clock new clock_new (accepted_goes old clock new clock_new w answer accepts).fixed (accepted_goes old clock new clock_new w answer accepts).past.of_second desk.config desk.entries
      (accepted_same old clock new clock_new w answer accepts).0 kept.order;
  starts = starts_stay old new (accepted_goes old clock new clock_new w answer accepts).faults desk.entries kept.starts (accepted_same old clock new clock_new w answer accepts).1;
})

-- A CANCEL
canceled_same : (old : DeviceTold) (clock : Clock) (new : DeviceTold) (clock_new : Clock) → Cancels old clock new clock_new → (new.ops ≡ old.ops) × (new.starts ≡ old.starts)
canceled_same old clock new clock_new cancels = by (is_open old.stand) cancels.0
  where
    by : (t : Bool) → IfElse t (IsCanceled old new) (new ≡ old) → (new.ops ≡ old.ops) × (new.starts ≡ old.starts)
    by true is = (ap (λ (d : DeviceTold). d.ops) is.only, ap (λ (d : DeviceTold). d.starts) is.only)
    by false is = (ap (λ (d : DeviceTold). d.ops) is, ap (λ (d : DeviceTold). d.starts) is)

pub cancels_keep : (old : DeviceTold) (clock : Clock) (new : DeviceTold) (clock_new : Clock) → Cancels old clock new clock_new → CancelsKeep old clock new clock_new
cancels_keep old clock new clock_new cancels desk hand = keeps_at desk desk hand None old clock new clock_new refl (cancels_tell old clock new clock_new cancels) (λ before kept told. record {
  started = kept.started;
  keeps = cancel_stays old clock new clock_new cancels desk.config desk.cap desk.entries before kept.started kept.keeps told;
  fits = tt;
  paid = tt;
  order = order_stays old clock new clock_new (goes_canceled old clock new clock_new cancels).fixed (goes_canceled old clock new clock_new cancels).past.of_second desk.config desk.entries
      (canceled_same old clock new clock_new cancels).0 kept.order;
  starts = starts_stay old new (goes_canceled old clock new clock_new cancels).faults desk.entries kept.starts (canceled_same old clock new clock_new cancels).1;
})
