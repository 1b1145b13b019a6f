-- A turn of a job in hand: the start of its next operation, where none is open, and a turn of the device.
use Rattle.std.specs.Prelude.{slice_get}
use Rattle.std.proofs.lemmas.Option.{slice_get_within, get_or_from_slice_get}
use Rattle.std.proofs.Common.{◌^◌, ◌<◌, ◌⊎◌, length, ◌≡◌, ◌≢◌, inl, inr, ℕ, ◌≤◌, Bool, true, false, List, refl, sym, ap, ◌∙◌, subst, Option, Some, None, Ok, arith}
use Rattle.block_machine.specs.nv_base.Count.{Rose}
use Rattle.block_machine.specs.nv_base.Marks.{number_of}
use Rattle.block_machine.specs.nv_base.declared.instance.Instance.{Instance}
use Rattle.block_machine.specs.nv_base.declared.mark.Mark.{Mark}
use Rattle.block_machine.specs.nv_base.declared.job.DeviceOp.{DeviceOp}
use Rattle.block_machine.specs.nv_base.declared.job.DeviceOp.TheVariants as op
use Rattle.block_machine.specs.nv_base.declared.job.JobStep.{JobStep}
use Rattle.block_machine.specs.nv_base.declared.job.JobStep.TheVariants.{Device}
use Rattle.memif.specs.declared.answer.JobResult.{JobResult}
use Rattle.memif.specs.declared.answer.JobResult.TheVariants.{JobPending}
use Rattle.memif.specs.Told.{DeviceTold, PartTold, Fixed, Part, First, Second, part_at, with_part, Stand, Open, Ended, Job, is_open, figures_at, part_of, op_of, result_of}
use Rattle.memif.specs.Clock.{Clock}
use Rattle.memif.specs.Calls.{AcceptsAs, Wish, Opens, Works, JobTurns, urgent_first}
use Rattle.block_machine.specs.Words.{JobKind, Outcome}
use Rattle.job_programs.specs.Program.{Program, operation, next_in, step_by, step_of, after}
use Rattle.nvm_device_laws.specs.Outcomes.{outcome_by}
use Rattle.job_programs.proofs.Failures.{tries_are_counted}
use Rattle.memif.proofs.Turning.{works_rest, works_fixed}
use Rattle.nvm_figures.specs.Left.{stack_left}
use Rattle.nvm_figures.specs.Job.{IsOperation, job_at, program_next, wish_for}
use Rattle.nvm_figures.specs.Drain.{hand_work}
use Rattle.nvm_figures.specs.Urgent.{IsOnTime}
use Rattle.nvm_figures.specs.Run.{JobTurnsKeep, IsStarted, IsUrgentWrite, IsInWork, Comes, IsTurnOf, IsJobTurned}
use Rattle.nvm_figures.specs.Finish.{IsPlaced, Begins, GoesOn, TurnsJob}
use Rattle.nvm_figures.proofs.Programs.{program_same}
use Rattle.nvm_figures.proofs.Tries.{next_ahead}
use Rattle.nvm_figures.proofs.Figures.{was_closed, turns_lower, starts_dont_raise, opens_stand, opens_fixed}
use Rattle.nvm_figures.proofs.DrainWork.{left_fits, hand_work_less, start_adds_none}
use Rattle.nvm_figures.proofs.OnTime.{starts_stay_on_time, turns_stay_on_time}

-- STEPS
pub record IsStepOf (p : Program) (o : DeviceOp) (instance : Instance) : Type 0 where
  pub next : next_in p ≡ Some instance.index
  pub operation : o ≡ operation p.kind
  pub number : number_of instance ≡ number_of (record { block = p.block; index = instance.index })

pub step_is : (p : Program) (o : DeviceOp) (instance : Instance) → step_of p ≡ Device o instance → IsStepOf p o instance
step_is p o instance e = by (next_in p) refl e
  where
    by : (n : Option ℕ) → next_in p ≡ n → step_by p n ≡ Device o instance → IsStepOf p o instance
    by None is e = cc
    by (Some i) is e =
        let same : instance ≡ record { block = p.block; index = i } = cc in
        let index : instance.index ≡ i = ap (λ (x : Instance). x.index) same in
        let block : instance.block ≡ p.block = ap (λ (x : Instance). x.block) same in
        record { next = is ∙ ap Some (sym index); operation = cc; number = omega (arith, block) }

-- what it asks for
wish_number : (o : DeviceOp) (n length : ℕ) (content : List ℕ) (urgent : Bool) → (wish_for o n length content urgent).job.number ≡ n
wish_number op.Read n length content urgent = refl
wish_number op.Write n length content urgent = refl
wish_number op.Invalidate n length content urgent = refl
wish_number op.Erase n length content urgent = refl

wish_op : (o : DeviceOp) (n length : ℕ) (content : List ℕ) (urgent : Bool) → op_of (wish_for o n length content urgent).job.mark ≡ o
wish_op op.Read n length content urgent = refl
wish_op op.Write n length content urgent = refl
wish_op op.Invalidate n length content urgent = refl
wish_op op.Erase n length content urgent = refl

wish_job : (o : DeviceOp) (n length : ℕ) (content : List ℕ) (urgent : Bool) → (wish_for o n length content urgent).job ≡ (wish_for o n 0 content urgent).job
wish_job op.Read n length content urgent = refl
wish_job op.Write n length content urgent = refl
wish_job op.Invalidate n length content urgent = refl
wish_job op.Erase n length content urgent = refl

wish_is : (p : Program) (o : DeviceOp) (instance : Instance) (length : ℕ) (content : List ℕ) (urgent : Bool) → IsStepOf p o instance
    → (wish_for o (number_of instance) length content urgent).job ≡ job_at p instance.index content urgent
wish_is p o instance length content urgent is =
    wish_job o (number_of instance) length content urgent ∙ ap (λ (n : ℕ). (wish_for o n 0 content urgent).job) is.number
    ∙ ap (λ (x : DeviceOp). (wish_for x (number_of (record { block = p.block; index = instance.index })) 0 content urgent).job) is.operation

job_is : (p : Program) (index : ℕ) (content : List ℕ) (urgent : Bool) → next_in p ≡ Some index → IsOperation p index (job_at p index content urgent)
job_is p index content urgent next = record {
  next = next;
  number = wish_number (operation p.kind) (number_of (record { block = p.block; index = index })) 0 content urgent;
  operation = wish_op (operation p.kind) (number_of (record { block = p.block; index = index })) 0 content urgent;
}

work_is : (content : List ℕ) (urgent : Bool) (p : Program) (j : Job) → IsInWork content urgent p (Open j) → (index : ℕ) × IsOperation p index j
work_is content urgent p j (index, next, is) = (index, subst (IsOperation p index) (sym is) (job_is p index content urgent next))

-- an urgent write's job is open
urgent_open : (f : Fixed) (content : List ℕ) (urgent : Bool) (p : Program) (index : ℕ) → next_in p ≡ Some index → IsUrgentWrite f urgent p.block p.kind
    → urgent_first f (Open (job_at p index content urgent)) ≡ true
urgent_open f content urgent p index next is =
    let j : Job = job_at p index content urgent in
    let now : j.urgent ≡ true =
    ap (λ (k : JobKind). (wish_for (operation k) (number_of (record { block = p.block; index = index })) 0 content urgent).job.urgent) is.is_write ∙ is.is_urgent in
    let part : part_of f j ≡ First = ap (λ (n : ℕ). (figures_at f n).part) (job_is p index content urgent next).number ∙ is.of_first index in
    rw (now, part) refl

-- THE START
pub record IsReady (content : List ℕ) (urgent : Bool) (p : Program) (old mid : DeviceTold) : Type 0 where
  pub index : ℕ
  pub next : next_in p ≡ Some index
  pub stand : mid.stand ≡ Open (job_at p index content urgent)
  pub begins : ((mid ≡ old) × (old.stand ≡ Open (job_at p index content urgent)))
      ⊎ ((is_open old.stand ≡ false) × Opens (job_at p index content urgent) old mid)
  pub parts : (part : Part) → part_at part mid ≡ part_at part old
  pub fixed : mid.fixed ≡ old.fixed
  pub left : stack_left (Some p) mid ≤ stack_left (Some p) old
  pub less : hand_work (Some p) mid ≤ hand_work (Some p) old
  pub soon : (pages turns : ℕ) → IsUrgentWrite old.fixed urgent p.block p.kind → IsOnTime pages turns p old → IsOnTime pages turns p mid

opens_parts : (old new : DeviceTold) (j : Job) → Opens j old new → (part : Part) → part_at part new ≡ part_at part old
opens_parts old new j opens First = ap (λ (d : DeviceTold). d.first) opens.only
opens_parts old new j opens Second = ap (λ (d : DeviceTold). d.second) opens.only

open_work : (content : List ℕ) (urgent : Bool) (p : Program) (s : Stand) → IsInWork content urgent p s → is_open s ≡ true
    → (index : ℕ) × (next_in p ≡ Some index) × (s ≡ Open (job_at p index content urgent))
open_work content urgent p (Open j) (index, next, is) on = (index, next, ap Open is)
open_work content urgent p (Ended r given) work on = cc

still_ready : (content : List ℕ) (urgent : Bool) (p : Program) (old : DeviceTold) → IsInWork content urgent p old.stand → is_open old.stand ≡ true
    → IsReady content urgent p old old
still_ready content urgent p old work on =
    let (index, next, stand) = open_work content urgent p old.stand work on in
    record {
      index = index;
      next = next;
      stand = stand;
      begins = inl (refl, stand);
      parts = λ part. refl;
      fixed = refl;
      left = omega arith;
      less = omega arith;
      soon = λ pages turns urgently on_time. on_time;
    }

opened_ready : (content : List ℕ) (urgent : Bool) (p : Program) (old mid : DeviceTold) (w : Wish) (index : ℕ) → next_in p ≡ Some index
    → w.job ≡ job_at p index content urgent → p.failures ≤ p.retries → AcceptsAs w (Ok tt) old mid → mid.left < 2 ^ 64 → IsReady content urgent p old mid
opened_ready content urgent p old mid w index next same few accepts fits =
    let is : IsOperation p index w.job = subst (IsOperation p index) (sym same) (job_is p index content urgent next) in
    record {
      index = index;
      next = next;
      stand = opens_stand old mid w.job accepts.1 ∙ ap Open same;
      begins = inr (was_closed old mid w accepts, subst (λ (j : Job). Opens j old mid) same accepts.1);
      parts = opens_parts old mid w.job accepts.1;
      fixed = opens_fixed old mid w.job accepts.1;
      left = starts_dont_raise old mid w p index few is accepts;
      less = start_adds_none old mid w p index fits few is accepts;
      soon = λ pages turns urgently on_time.
          let now = urgent_open old.fixed content urgent p index next urgently in
          starts_stay_on_time pages turns old mid w p index is (subst (λ (j : Job). urgent_first old.fixed (Open j) ≡ true) (sym same) now) accepts on_time;
    }

pub begins_ready : (content : List ℕ) (urgent : Bool) (p : Program) (o : DeviceOp) (instance : Instance) (length : ℕ) (old mid : DeviceTold) (clock : Clock)
    → IsStepOf p o instance → p.failures ≤ p.retries → IsInWork content urgent p old.stand
    → Begins (wish_for o (number_of instance) length content urgent) (Ok tt) old mid clock → IsReady content urgent p old mid
begins_ready content urgent p o instance length old mid clock is few work (inl (on, same)) =
    subst (λ (d : DeviceTold). IsReady content urgent p old d) (sym same) (still_ready content urgent p old work on)
begins_ready content urgent p o instance length old mid clock is few work (inr (accepts, order)) =
    opened_ready content urgent p old mid (wish_for o (number_of instance) length content urgent) instance.index is.next
    (wish_is p o instance length content urgent is) few accepts (left_fits mid clock order)

pub ready_open : (content : List ℕ) (urgent : Bool) (p : Program) (old mid : DeviceTold) → IsReady content urgent p old mid → is_open mid.stand ≡ true
ready_open content urgent p old mid ready = ap is_open ready.stand

-- THE TURN
on_parts : (q : Part) (old new : DeviceTold) → (part_at q old).faults ≤ (part_at q new).faults
    → ((r : Part) → part_at r new ≡ part_at r (with_part q (part_at q new) old)) → (r : Part) → (part_at r old).faults ≤ (part_at r new).faults
on_parts First old new here rest First = here
on_parts First old new here rest Second = omega (arith, ap (λ (t : PartTold). t.faults) (rest Second))
on_parts Second old new here rest First = omega (arith, ap (λ (t : PartTold). t.faults) (rest First))
on_parts Second old new here rest Second = here

faults_grow : (q : Part) (old new : DeviceTold) (clock : Clock) → Works q old new clock → (r : Part) → (part_at r old).faults ≤ (part_at r new).faults
faults_grow q old new clock works = on_parts q old new works.part.faults.faults (works_rest q old new clock works)

comes_to : (q : Part) (p : Program) (j : Job) (b : Stand) (mid new : DeviceTold) (clock : Clock) → JobTurns q (Open j) b mid new clock
    → Comes p j mid (program_next p (Open j) b) new b
comes_to q p j (Open k) mid new clock turns = (turns.0, refl, turns.1)
comes_to q p j (Ended r given) mid new clock turns = (refl, turns.0)

next_tries : (p : Program) (a b : Stand) → p.failures ≤ p.retries → (program_next p a b).failures ≤ (program_next p a b).retries
next_tries p (Open j) (Open k) few = few
next_tries p (Open j) (Ended r given) few = omega (arith, (tries_are_counted p (outcome_by j.mark r) few).0, (program_same p (Open j) (Ended r given)).retries)
next_tries p (Ended r given) b few = few

turn_made : (content : List ℕ) (urgent : Bool) (p : Program) (old mid : DeviceTold) (q : Part) (new : DeviceTold) (clock : Clock)
    → IsReady content urgent p old mid → Works q mid new clock → IsTurnOf content urgent p old (program_next p mid.stand new.stand) new
turn_made content urgent p old mid q new clock ready works =
    let j : Job = job_at p ready.index content urgent in
    let job : JobTurns q (Open j) new.stand mid new clock = subst (λ (s : Stand). JobTurns q s new.stand mid new clock) ready.stand works.job in
    record {
      index = ready.index;
      next = ready.next;
      begun = mid;
      begins = ready.begins;
      turn = (q, works.part);
      comes = subst (λ (s : Stand). Comes p j mid (program_next p s new.stand) new new.stand) (sym ready.stand) (comes_to q p j new.stand mid new clock job);
    }

pub job_turned : (content : List ℕ) (urgent : Bool) (p : Program) (old mid : DeviceTold) (q : Part) (new : DeviceTold) (clock : Clock)
    → p.failures ≤ p.retries → IsReady content urgent p old mid → Works q mid new clock → IsJobTurned content urgent p old (program_next p mid.stand new.stand) new
job_turned content urgent p old mid q new clock few ready works = record {
  made = turn_made content urgent p old mid q new clock ready works;
  faults = λ part. omega (arith, ap (λ (t : PartTold). t.faults) (ready.parts part), faults_grow q mid new clock works part);
  fixed = works_fixed q mid new clock works ∙ ready.fixed;
  same = program_same p mid.stand new.stand;
  tries = next_tries p mid.stand new.stand few;
  left = elim (turns_lower new clock mid q (Some p) works) [
    | inl less ↦ inl (omega (arith, less, ready.left))
    | inr rose ↦ inr (q, subst (λ (t : PartTold). Rose t.faults (part_at q new).faults) (ready.parts q) rose)
  ];
  less = let falls = hand_work_less q p mid new clock works (ready_open content urgent p old mid ready) in omega (arith, falls, ready.less);
  soon = λ pages turns calm urgently on_time.
      let still : ¬ Rose mid.first.faults new.first.faults = subst (λ (t : PartTold). ¬ Rose t.faults new.first.faults) (sym (ready.parts First)) calm in
      let write = subst (λ (f : Fixed). IsUrgentWrite f urgent p.block p.kind) (sym ready.fixed) urgently in
      let open_now = urgent_open mid.fixed content urgent p ready.index ready.next write in
      let now : urgent_first mid.fixed mid.stand ≡ true = ap (urgent_first mid.fixed) ready.stand ∙ open_now in
      (turns_stay_on_time new clock pages turns mid q p works still now (ready.soon pages turns urgently on_time)).0;
}

-- as a law of any turn of a device
pub job_turns_keep : (new : DeviceTold) (clock : Clock) → JobTurnsKeep new clock
job_turns_keep new clock content urgent p index old begun q few next is works =
    job_turned content urgent p old begun q new clock few (ready is) works
  where
    ready : IsStarted (job_at p index content urgent) old begun → IsReady content urgent p old begun
    ready (inl (same, stand)) = subst (λ (d : DeviceTold). IsReady content urgent p old d) (sym same)
        (still_ready content urgent p old (subst (IsInWork content urgent p) (sym stand) (index, next, refl)) (ap is_open stand))
    ready (inr (w, job, accepts, fits)) = opened_ready content urgent p old begun w index next job few accepts fits

-- THE PROGRAM
pub program_turned : (content : List ℕ) (urgent : Bool) (p : Program) (o : DeviceOp) (instance : Instance) (a b : Stand) (came : JobResult) (outcome : Outcome)
    → IsStepOf p o instance → IsInWork content urgent p a → is_open a ≡ true → came ≡ result_of b → came ≢ JobPending
    → ((mark : Option Mark) → op_of mark ≡ o → outcome ≡ outcome_by mark came) → after p outcome ≡ program_next p a b
program_turned content urgent p o instance (Open j) (Open k) came outcome is work on result ended comes = absurd (ended result)
program_turned content urgent p o instance (Open j) (Ended r given) came outcome is work on result ended comes =
    let from : outcome ≡ outcome_by j.mark came = comes j.mark ((work_is content urgent p j work).1.operation ∙ sym is.operation) in
    ap (after p) (from ∙ ap (outcome_by j.mark) result)
program_turned content urgent p o instance (Ended r given) b came outcome is work on result ended comes = cc

-- an instance that is next has a device number
pub placed_at : (p : Program) (o : DeviceOp) (instance : Instance) → IsStepOf p o instance → IsPlaced p → instance.index ≤ 63
placed_at p o instance is placed =
    let next = next_ahead p instance.index is.next in
    let got : slice_get p.indices (length p.done) ≡ Some instance.index = rw next.here at next.next in
    placed.indices instance.index (
      length p.done,
      slice_get_within p.indices (length p.done) instance.index got,
      get_or_from_slice_get p.indices (length p.done) instance.index instance.index got,
    )

-- the start and the turn
pub turns_job : (next : Option JobStep) (content : List ℕ) (urgent : Bool) (p q : Program) (old mid new : DeviceTold) (clock : Clock)
    → p.failures ≤ p.retries → IsReady content urgent p old mid → GoesOn next p mid q new clock → TurnsJob content urgent next p old q new
turns_job None content urgent p q old mid new clock few ready (off, same, faults) = (
  off,
  same,
  λ part. omega (arith, ap (λ (t : PartTold). t.faults) (ready.parts part), faults part),
)
turns_job (Some step) content urgent p q old mid new clock few ready (is, same, (part, works)) = (
  is,
  subst (λ (x : Program). IsJobTurned content urgent p old x new) (sym same) (job_turned content urgent p old mid part new clock few ready works),
)
