-- The end of an operation of the job in hand.
use Rattle.std.specs.Prelude.{◌&&◌, not, unwrap_or, ◌%◌, ◌*◌}
use Rattle.std.specs.Option.{option_and_then}
use Rattle.std.proofs.Common.{◌≡◌, ◌≢◌, ◌⊎◌, inl, inr, ℕ, ◌+◌, ◌≤◌, Bool, true, false, List, Option, Some, None, refl, sym, ap, ◌∙◌, subst, arith}
use Rattle.nvm_laws.specs.nv_base.Marks.{number_of, instance_of}
use Rattle.nvm_laws.specs.nv_base.declared.instance.Instance.{Instance}
use Rattle.nvm_laws.specs.nv_base.declared.job.DeviceOp.{DeviceOp}
use Rattle.nvm_laws.specs.memif.declared.answer.JobResult.{JobResult}
use Rattle.nvm_laws.specs.memif.declared.answer.JobResult.TheVariants.{JobOk}
use Rattle.nvm_laws.specs.memif.Told.{DeviceTold, Stand, Open, Ended, is_open, op_of, ops_of, result_of, IfElse}
use Rattle.nvm_laws.specs.block_machine.Words.{Mark, Erased, Outcome, WroteMark, Entry, Wrote, Configuration}
use Rattle.nvm_laws.specs.block_machine.State.{State, Job}
use Rattle.nvm_laws.specs.block_machine.Blocks.{kind_of, mark_of}
use Rattle.nvm_laws.specs.block_machine.Results.{took_none}
use Rattle.nvm_laws.specs.block_machine.Legal.{IsAllowed}
use Rattle.nvm_laws.specs.job_programs.Program.{operation, next_in}
use Rattle.nvm_laws.specs.nvm_device_laws.Outcomes.{outcome_by}
use Rattle.nvm_laws.specs.nvm_device_laws.Turn.{settled_by}
use Rattle.nvm_laws.specs.nv_desk.Driver.{mark_now}
use Rattle.nvm_laws.specs.job_progress.Hand.{HandState, ended}
use Rattle.nvm_laws.specs.job_progress.JobInHand.{IsAt, IsInHand, job_for}
use Rattle.nvm_laws.specs.job_progress.Goes.{Names}
use Rattle.nvm_laws.specs.nv_desk.Desk.{DeskState, state_of}
use Rattle.nvm_laws.specs.block_config.Rules.{IsLegalConfig}
use Rattle.nvm_laws.specs.Halves.{Adds}
use Rattle.nvm_laws.proofs.Going.{steps_name}
use Rattle.nvm_laws.proofs.Writing.{writes_are_allowed, same_block, same_index}
use Rattle.nvm_core.specs.BehindDevice.{IsAtWork}
use Rattle.nvm_core.proofs.Starting.{op_by, works_on}
use Rattle.nvm_laws.specs.nv_base.declared.job.JobStep.TheVariants as step
use Rattle.nvm_laws.specs.Turns.{AddsBy, hand_by}

-- WHERE IT STANDS
-- none ended
pub record IsStill (h : HandState) (old new : Stand) (ops : ℕ) : Type 0 where
  pub entry : settled_by old new ops ≡ None
  pub hand : hand_by old new (Some h) ≡ Some h

-- the operation of the job in hand ended
pub record IsOver (c : Configuration) (j : Job) (h : HandState) (old new : Stand) : Type 0 where
  pub index : ℕ
  pub next : next_in h.program ≡ Some index
  pub was : old ≡ Open (job_for c j h.program index)
  pub result : JobResult
  pub given : List ℕ
  pub is : new ≡ Ended result given

module _ (c : Configuration) (j : Job) (h : HandState) where
  still_by : (t : Bool) (old new : Stand) (ops : ℕ) → IfElse t (IsAt c j h.program old) (is_open old ≡ false) → (t && not (is_open new)) ≡ false → IsStill h old new ops
  still_by t (Ended r given) new ops at none = record { entry = refl; hand = refl }
  still_by t (Open k) (Open k') ops at none = record { entry = refl; hand = refl }
  still_by true (Open k) (Ended r given) ops at none = cc
  still_by false (Open k) (Ended r given) ops at none = cc

  over_by : (t : Bool) (old new : Stand) → IfElse t (IsAt c j h.program old) (is_open old ≡ false) → (t && not (is_open new)) ≡ true → IsOver c j h old new
  over_by true old (Ended r given) at over = record { index = at.index; next = at.next; was = at.stands; result = r; given = given; is = refl }
  over_by true old (Open k) at over = cc
  over_by false old new at over = cc

pub still : (c : Configuration) (s : State) (h : HandState) (old new : DeviceTold) (ops : ℕ) → IsInHand c s h old
    → (h.started && not (is_open new.stand)) ≡ false → IsStill h old.stand new.stand ops
still c s h old new ops is none = still_by c is.job h h.started old.stand new.stand ops is.at none

pub over : (c : Configuration) (s : State) (h : HandState) (old new : DeviceTold) (is : IsInHand c s h old)
    → (h.started && not (is_open new.stand)) ≡ true → IsOver c is.job h old.stand new.stand
over c s h old new is ended = over_by c is.job h h.started old.stand new.stand is.at ended

-- THE OPERATION
job_is : (s : State) (j k : Job) → s.hand ≡ Some j → s.hand ≡ Some k → k ≡ j
job_is s j k one other = cc

module _ (c : Configuration) (s : State) (h : HandState) (old : DeviceTold) (op : DeviceOp) (i : Instance) (is : IsInHand c s h old) (names : Names c s h op i) where
  pub same_job : names.job ≡ is.job
  same_job = job_is s is.job names.job is.hand names.hand

  -- its mark is that of its operation
  pub op_is : op_of (mark_of is.job) ≡ op
  op_is =
      op_by (kind_of is.job) is.job.content (works_on c s is.job h.program names.index is.working names.next)
      (λ writes. is.working.content writes (ap (λ (j : Job). took_none j.taken) (sym same_job) ∙ names.content)) ∙ sym (names.op_is ∙ ap (λ (j : Job). operation (kind_of j)) same_job)

-- THE ENTRY
-- a Wrote of the mark where it was written
wrote_by_outcome : (number ops : ℕ) (urgent : Bool) (mark : Option Mark) (r : JobResult) (given : List ℕ) → outcome_by mark r ≡ WroteMark
    → settled_by (Open (record { number = number; mark = mark; urgent = urgent })) (Ended r given) ops
    ≡ Some (Wrote (instance_of (record { 0 = number })) (unwrap_or mark Erased) ops)
wrote_by_outcome number ops urgent (Some m) JobOk given is = refl
wrote_by_outcome number ops urgent None JobOk given is = cc
wrote_by_outcome number ops urgent mark r given is = cc

-- and none else
none_by_outcome : (number ops : ℕ) (urgent : Bool) (mark : Option Mark) (r : JobResult) (given : List ℕ) → outcome_by mark r ≢ WroteMark
    → settled_by (Open (record { number = number; mark = mark; urgent = urgent })) (Ended r given) ops ≡ None
none_by_outcome number ops urgent (Some m) JobOk given isnt = absurd (isnt refl)
none_by_outcome number ops urgent None JobOk given isnt = refl
none_by_outcome number ops urgent mark r given isnt = refl

instance_is : (b n : ℕ) (i : Instance) → n ≤ 63 → i.block ≡ b → i.index ≡ n → instance_of (record { 0 = number_of (record { block = b; index = n }) }) ≡ i
instance_is b n i small block index =
    ap (λ (x : ℕ). record { block = x; index = (b * 64 + n) % 64 }) (same_block b n small ∙ sym block)
    ∙ ap (λ (x : ℕ). record { block = i.block; index = x }) (same_index b n small ∙ sym index)

some_is : (n m : ℕ) → Some n ≡ Some m → n ≡ m
some_is n m is = cc

module _ (c : Configuration) (s : State) (h : HandState) (old new : DeviceTold) (op : DeviceOp) (i : Instance) (outcome : Outcome)
    (is : IsInHand c s h old) (names : Names c s h op i) (over : IsOver c is.job h old.stand new.stand)
    (came : outcome ≡ outcome_by (mark_of is.job) over.result) where
  mark_is : unwrap_or (mark_of is.job) Erased ≡ mark_now s
  mark_is = ap (λ (x : Option Job). unwrap_or (option_and_then mark_of x) Erased) (sym is.hand)

  instance_at : instance_of (record { 0 = number_of (record { block = h.program.block; index = over.index }) }) ≡ i
  instance_at =
      let index : over.index ≡ names.index = some_is over.index names.index (sym over.next ∙ names.next) in
      instance_is h.program.block over.index i (omega (arith, index, names.small)) (names.block ∙ sym names.same_block) (names.index_is ∙ sym index)

  stands_at : (ops : ℕ) → settled_by old.stand new.stand ops ≡ settled_by (Open (job_for c is.job h.program over.index)) (Ended over.result over.given) ops
  stands_at ops = ap (λ (x : Stand). settled_by x new.stand ops) over.was ∙ ap (λ (x : Stand). settled_by (Open (job_for c is.job h.program over.index)) x ops) over.is

  pub wrote_is : (ops : ℕ) → outcome ≡ WroteMark → settled_by old.stand new.stand ops ≡ Some (Wrote i (mark_now s) ops)
  wrote_is ops wrote =
      let job = job_for c is.job h.program over.index in
      stands_at ops ∙ wrote_by_outcome job.number ops job.urgent job.mark over.result over.given (sym came ∙ wrote)
      ∙ ap (λ (x : Instance). Some (Wrote x (unwrap_or (mark_of is.job) Erased) ops)) instance_at
      ∙ ap (λ (m : Mark). Some (Wrote i m ops)) mark_is

  pub none_is : (ops : ℕ) → outcome ≢ WroteMark → settled_by old.stand new.stand ops ≡ None
  none_is ops isnt =
      let job = job_for c is.job h.program over.index in
      stands_at ops ∙ none_by_outcome job.number ops job.urgent job.mark over.result over.given (λ wrote. isnt (came ∙ wrote))

  pub hand_is : Some (ended outcome h) ≡ hand_by old.stand new.stand (Some h)
  hand_is = ap (λ (o : Outcome). Some (ended o h)) came
      ∙ sym (ap (λ (x : Stand). hand_by x new.stand (Some h)) over.was ∙ ap (λ (x : Stand). hand_by (Open (job_for c is.job h.program over.index)) x (Some h)) over.is)

-- ALL OF IT
-- what the end of an operation with this outcome comes to
pub record Ends (s : State) (h : HandState) (old new : Stand) (i : Instance) (outcome : Outcome) : Type 0 where
  pub wrote : (ops : ℕ) → outcome ≡ WroteMark → settled_by old new ops ≡ Some (Wrote i (mark_now s) ops)
  pub none : (ops : ℕ) → outcome ≢ WroteMark → settled_by old new ops ≡ None
  pub hand : Some (ended outcome h) ≡ hand_by old new (Some h)

pub ends : (desk : DeskState) (h : HandState) (old new : DeviceTold) (op : DeviceOp) (i : Instance) (outcome : Outcome) (came : JobResult)
    → IsLegalConfig desk.config → IsInHand desk.config (state_of desk) h old → (h.started && not (is_open new.stand)) ≡ true → h.step ≡ step.Device op i
    → ((mark : Option Mark) → op_of mark ≡ op → outcome ≡ outcome_by mark came) → came ≡ result_of new.stand → Ends (state_of desk) h old.stand new.stand i outcome
ends desk h old new op i outcome came legal is ended at outcomes came_is =
    let c = desk.config in
    let s = state_of desk in
    let named = steps_name c s h old op i legal is at in
    let over_now = over c s h old new is ended in
    let mark = op_is c s h old op i is named in
    let outcome_is = outcomes (mark_of is.job) mark ∙ ap (outcome_by (mark_of is.job)) (came_is ∙ ap result_of over_now.is) in record {
      wrote = wrote_is c s h old new op i outcome is named over_now outcome_is;
      none = none_is c s h old new op i outcome is named over_now outcome_is;
      hand = hand_is c s h old new op i outcome is named over_now outcome_is;
    }

-- the desk behind it
wrote_or_not : (o : Outcome) → (o ≡ WroteMark) ⊎ (o ≢ WroteMark)
wrote_or_not WroteMark = inl refl
wrote_or_not o = inr (λ is. cc)

-- a Wrote of it is allowed
pub may_write : (desk : DeskState) (h : HandState) (old d : DeviceTold) (i : Instance) (outcome : Outcome) → IsLegalConfig desk.config → IsAtWork desk h old d
    → Ends (state_of desk) h old.stand d.stand i outcome → outcome ≡ WroteMark → IsAllowed desk.config desk.cap (state_of desk) (Wrote i (mark_now (state_of desk)) (ops_of d))
may_write desk h old d i outcome legal work ends wrote =
    writes_are_allowed desk.config desk.cap (state_of desk) h old d (Wrote i (mark_now (state_of desk)) (ops_of d)) (ops_of d) legal work.in_hand work.driving (ends.wrote (ops_of d) wrote)

pub adds_by : (desk new : DeskState) (h : HandState) (old d : DeviceTold) (i : Instance) (outcome : Outcome) → IsLegalConfig desk.config
    → IsAtWork desk h old d → Ends (state_of desk) h old.stand d.stand i outcome
    → (outcome ≡ WroteMark → Adds (Wrote i (mark_now (state_of desk)) (ops_of d)) desk new) → (outcome ≢ WroteMark → new ≡ desk)
    → AddsBy (settled_by old.stand d.stand (ops_of d)) desk new
adds_by desk new h old d i outcome legal work ends wrote other = elim (wrote_or_not outcome) [
  | inl is ↦ subst (λ (e : Option Entry). AddsBy e desk new) (sym (ends.wrote (ops_of d) is)) (wrote is, may_write desk h old d i outcome legal work ends is)
  | inr isnt ↦ subst (λ (e : Option Entry). AddsBy e desk new) (sym (ends.none (ops_of d) isnt)) (other isnt)
]
