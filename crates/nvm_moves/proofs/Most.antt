-- The turns that are left of the job in hand, and its most.
use Rattle.nvm_moves.proofs.Common.{option_map, ◌≡◌, ◌≤◌, ◌<◌, ◌+◌, ℕ, suc, Bool, true, false, if◌then◌else◌, List, length, Option, Some, None, refl, sym, ap, ◌∙◌, subst, arith, DeviceTold, Fixed, Stand, Open, is_open, most_open, Clock, InOrder, JobKind, ReadAllJob, WriteAllJob, Configuration, State, Job, stack_left, most_turns, HandState, is_finished, IsInHand, IsPaired, program_for, GoesOn, hand_by, left_with, IsWithin, IsSome, drop, number_of, First, figures_at, most_of, op_of, WriteJob, RestoreJob, Outcome, kind_of, mark_by, Program, after_by, is_again, operation, tried, works, ahead, most_at, over_tries, over_unstarted, few_ahead, next_ahead, start_takes, outcome_by, at_operation}
use Rattle.nvm_core.specs.memif.Told.{Ended}
use Rattle.nvm_core.specs.job_programs.Program.{next_in}

-- those of the program in hand are those of the machine's job
pub most_of_job : (c : Configuration) (s : State) (h : HandState) (d : DeviceTold) (f : Fixed) (j : Job) → IsInHand c s h d → s.hand ≡ Some j
    → most_turns f (program_for c s j) ≡ most_turns f h.program
most_of_job c s h d f j is hand =
    let same : is.job ≡ j = let both : Some is.job ≡ Some j = sym is.hand ∙ hand in cc in
    subst (λ (k : Job). most_turns f (program_for c s k) ≡ most_turns f h.program) same (sym (ap (most_turns f) is.working.is))

abbrev pub Within : Configuration → State → ℕ → Fixed → Type 0
Within c s left f = (j : Job) → s.hand ≡ Some j → (0 < left) × (left ≤ most_turns f (program_for c s j))

some_by : (t : Bool) (p : Program) (d : DeviceTold) → 0 < (if t then stack_left None d + 1 else stack_left (Some p) d)
some_by true p d = omega arith
some_by false p d = omega arith

pub within_of : (c : Configuration) (s : State) (hand : Option HandState) (d : DeviceTold) → IsPaired c s hand d → IsWithin hand d → Within c s (left_with hand d) d.fixed
within_of c s None d paired within = λ j is. absurd (none_some (sym paired.0 ∙ is))
  where
    none_some : {j : Job} → None ≡ Some j → ⊥
    none_some e = cc
within_of c s (Some h) d paired within = λ j is.
    (some_by (is_finished h.step) h.program d, (let most = most_of_job c s h d d.fixed j paired is in omega (arith, within, most)))

-- THE SAME MOST
-- by the hand as by the machine's job
pub most_is : (c : Configuration) (s : State) (hand : Option HandState) (d : DeviceTold) (j : Job) → IsPaired c s hand d → s.hand ≡ Some j
    → option_map (λ h. most_turns d.fixed h.program) hand ≡ Some (most_turns d.fixed (program_for c s j))
most_is c s None d j paired is = absurd (let none : None ≡ Some j = sym paired.0 ∙ is in cc none)
most_is c s (Some h) d j paired is = ap (λ (n : ℕ). Some n) (sym (most_of_job c s h d d.fixed j paired is))

-- what is done of a job doesn't change them
tried_most : (t : Bool) (f : Fixed) (p : Program) (outcome : Outcome) → is_again outcome p.failures p.retries ≡ t → most_turns f (tried p outcome) ≡ most_turns f p
tried_most true f p outcome is = rw is refl
tried_most false f p outcome is = rw is refl

after_most : (f : Fixed) (p : Program) (next : Option ℕ) (outcome : Outcome) → most_turns f (after_by p next outcome) ≡ most_turns f p
after_most f p None outcome = refl
after_most f p (Some i) First = refl
after_most f p (Some i) outcome = tried_most (is_again outcome p.failures p.retries) f p outcome refl

abbrev MostOf : Fixed → Option HandState → Option ℕ
MostOf f o = option_map (λ h. most_turns f h.program) o

-- nor do the device's turn and what begins at it
pub turned_most : (f : Fixed) (old new : Stand) (hand : Option HandState) → MostOf f (hand_by old new hand) ≡ MostOf f hand
turned_most f (Open j) (Ended r given) (Some h) = ap (λ (n : ℕ). Some n) (after_most f h.program (next_in h.program) (outcome_by j.mark r))
turned_most f old new hand = refl

pub begun_most : (f : Fixed) (hand behind : Option HandState) (old new : DeviceTold) → GoesOn hand old behind new → MostOf f behind ≡ MostOf f hand
begun_most f None behind old new goes = ap (MostOf f) goes.0
begun_most f (Some h) behind old new goes = ap (MostOf f) goes.1

-- AT ANY TIME
-- the operation of a job by its mark
op_is : (kind : JobKind) (content : Option (List ℕ × ℕ)) → works kind ≡ true → (kind ≡ WriteJob → IsSome content) → op_of (mark_by kind content) ≡ operation kind
op_is WriteJob None works_on has = absurd (cc (has refl))
op_is RestoreJob content works_on has = cc
op_is ReadAllJob content works_on has = cc
op_is WriteAllJob content works_on has = cc
op_is kind content works_on has = refl

module _ (c : Configuration) (s : State) (h : HandState) (d : DeviceTold) (clock : Clock) (order : InOrder d clock) (is : IsInHand c s h d) where
  abbrev count : ℕ → ℕ
  count = most_at d.fixed h.program.block h.program.kind

  -- what is open at the device, and the tries that aren't started
  abbrev IsFew : Stand → Type 0
  IsFew stand = d.left + over_unstarted count h.program (is_open stand) (ahead h.program) ≤ d.fixed.own + over_tries count h.program.retries h.program.indices

  left_few : (stand : Stand) → d.stand ≡ stand → IsFew stand
  left_few (Ended r given) stands =
      let few : d.left ≤ d.fixed.own + 0 = subst (λ (x : Stand). d.left ≤ d.fixed.own + most_open d.fixed x) stands order.bounded in
      let tries = few_ahead count h.program false in omega (arith, few, tries)
  left_few (Open job) stands =
      let op = at_operation c s h d job is stands in
      let kind : h.program.kind ≡ kind_of is.job = ap (λ (q : Program). q.kind) is.working.is in
      let same : op_of job.mark ≡ operation h.program.kind = ap op_of op.mark ∙ op_is (kind_of is.job) is.job.content op.at_device (λ write. is.working.content write op.some) ∙ ap operation (sym kind) in
      let few : d.left ≤ d.fixed.own + most_of (figures_at d.fixed job.number) (op_of job.mark) = subst (λ (x : Stand). d.left ≤ d.fixed.own + most_open d.fixed x) stands order.bounded in
      let most : most_of (figures_at d.fixed job.number) (op_of job.mark) ≡ count op.index =
      ap (λ (n : ℕ). most_of (figures_at d.fixed n) (op_of job.mark)) op.number ∙ ap (most_of (figures_at d.fixed (number_of (record { block = h.program.block; index = op.index })))) same in
      let next = next_ahead h.program op.index op.next in
      let takes : over_unstarted count h.program true (ahead h.program) + count op.index ≡ over_unstarted count h.program false (ahead h.program) =
      subst (λ (l : List ℕ). over_unstarted count h.program true l + count op.index ≡ over_unstarted count h.program false l) (sym next.ahead)
      (start_takes count h.program op.index (drop (suc (length h.program.done)) h.program.indices) is.working.tries) in
      let tries = few_ahead count h.program false in omega (arith, few, most, takes, tries)

  left_by : (t : Bool) → IsFew d.stand → (if t then stack_left None d + 1 else stack_left (Some h.program) d) ≤ most_turns d.fixed h.program
  left_by true few = omega (arith, few)
  left_by false few = omega (arith, few)

  -- With a job in hand at most its most turns are left, whatever failed: its tries that aren't started, what is open at the device, and the
  -- device's own work.
  pub hands_are_bounded : left_with (Some h) d ≤ most_turns d.fixed h.program
  hands_are_bounded = left_by (is_finished h.step) (left_few d.stand refl)

-- so it is with the hand of a job
pub held_bounded : (c : Configuration) (s : State) (hand : Option HandState) (d : DeviceTold) (clock : Clock) → InOrder d clock → IsPaired c s hand d → (j : Job) → s.hand ≡ Some j
    → (n : ℕ) × (MostOf d.fixed hand ≡ Some n) × (left_with hand d ≤ n) × (0 < left_with hand d)
held_bounded c s None d clock order paired j is = absurd (let none : None ≡ Some j = sym paired.0 ∙ is in cc none)
held_bounded c s (Some h) d clock order paired j is = (most_turns d.fixed h.program, refl, hands_are_bounded c s h d clock order paired, some_by (is_finished h.step) h.program d)
