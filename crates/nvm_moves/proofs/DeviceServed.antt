-- What is due, in the device's own turn.
use Rattle.nvm_moves.proofs.Common.{IfSome, option_map_or, ◌≡◌, inl, inr, ℕ, ◌+◌, ◌≤◌, Bool, true, false, List, length, Option, Some, None, refl, sym, ap, ◌∙◌, subst, arith, cases_Bool, Rose, DeviceTold, Fixed, Part, Stand, Open, Closed, Clock, JobResult, JobOk, Mark, Instance, Configuration, State, Job, block_at, job_block, rank_of, next_in, after_from, wrote, DeskState, state_of, HandState, IsPaired, is_hand_urgent, settled_by, wrote_by, IsDueNext, post_first, none_first, entry_list, length-append, IfElse, is_urgent, Nearer, Works, urgent_first, indices_of, pages_now, pages_of, works_fixed, same_pages, urgent_in_hand}
use Rattle.nvm_core.specs.memif.Told as device
use Rattle.nvm_moves.proofs.DueAsked.{IsStandard}
use Rattle.nvm_moves.proofs.TurnEntries.{AddsOne, state_behind}

-- THE STATE BEHIND A WROTE
record LeavesNext (c : Configuration) (s t : State) : Type 0 where
  waiting : t.waiting ≡ s.waiting
  index : (id : ℕ) → (block_at t id).index ≡ (block_at s id).index
  standard : IsStandard c s → IsStandard c t

wrote_leaves : (c : Configuration) (s : State) (i : Instance) (mark : Mark) (ops : ℕ) (o : Option Job) → s.hand ≡ o → LeavesNext c s (wrote s i mark o)
wrote_leaves c s i mark ops None held = record { waiting = refl; index = λ id. refl; standard = λ is. is }
wrote_leaves c s i mark ops (Some j) held = record { waiting = refl; index = λ id. refl; standard = λ is. subst (λ (o : Option Job). IfSome o (λ x. (rank_of c x).immediate ≡ false)) held is }

same_leaves : (c : Configuration) (s : State) → LeavesNext c s s
same_leaves c s = record { waiting = refl; index = λ id. refl; standard = λ is. is }

mark_leaves : (c : Configuration) (s : State) (number : ℕ) (mark : Option Mark) (ops : ℕ) → LeavesNext c s (after_from c s (entry_list (wrote_by number mark ops)))
mark_leaves c s number None ops = same_leaves c s
mark_leaves c s number (Some mark) ops =
    let by = wrote_leaves c s _ mark ops s.hand refl in record { waiting = by.waiting; index = by.index; standard = by.standard }

ended_leaves : (c : Configuration) (s : State) (j : device.Job) (r : JobResult) (given : List ℕ) (ops : ℕ) → LeavesNext c s (after_from c s (entry_list (settled_by (Open j) (Closed r given) ops)))
ended_leaves c s j JobOk given ops = mark_leaves c s j.number j.mark ops
ended_leaves c s j r given ops = same_leaves c s

settled_leaves : (c : Configuration) (s : State) (a b : Stand) (ops : ℕ) → LeavesNext c s (after_from c s (entry_list (settled_by a b ops)))
settled_leaves c s (Open j) (Closed r given) ops = ended_leaves c s j r given ops
settled_leaves c s a b ops = same_leaves c s

-- A STANDARD JOB AT THE DEVICE
never_both : {t : Bool} → t ≡ true → t ≡ false → ⊥
never_both {t} on off = never (sym on ∙ off)
  where
    never : true ≡ false → ⊥
    never e = cc

standard_hand : (c : Configuration) (s : State) → IsStandard c s → is_hand_urgent c s ≡ false
standard_hand c s standard = by s.hand standard
  where
    by : (o : Option Job) → IfSome o (λ j. (rank_of c j).immediate ≡ false) → option_map_or (λ j. (rank_of c j).immediate) o false ≡ false
    by None is = refl
    by (Some j) is = is

pub not_urgent : (c : Configuration) (s : State) (hand : Option HandState) (d : DeviceTold) → IsPaired c s hand d → IsStandard c s → is_urgent d.stand ≡ false
not_urgent c s hand d paired standard = elim (cases_Bool (is_urgent d.stand)) [
  | inl urgent ↦ absurd (never_both (urgent_in_hand c s hand d paired urgent) (standard_hand c s standard))
  | inr is ↦ is
]

-- what is ready stays ready
ready_on : (f : Fixed) (stand : Stand) (N L : Type 0) → is_urgent stand ≡ false → IfElse (urgent_first f stand) N L → L
ready_on f stand N L is has = rw (none_first f stand is) at has

-- THE NEXT JOB
-- a turn on another job leaves it the next one, where no fault was counted and the power stays on
pub next_on : (p : Part) (number turns : ℕ) (desk desk_new : DeskState) (hand hand_new : Option HandState) (old new : DeviceTold) (clock : Clock) → Works p old new clock → AddsOne new.ops desk desk_new (settled_by old.stand new.stand new.ops)
    → IsPaired desk.config (state_of desk) hand old → ¬ Rose old.first.faults new.first.faults → new.first.off ≡ false → post_first hand ≡ 0
    → IsDueNext number turns (record { desk = desk; hand = hand; device = old }) → IsDueNext number (turns + post_first hand_new) (record { desk = desk_new; hand = hand_new; device = new })
next_on p number turns desk desk_new hand hand_new old new clock works adds paired calm on none due =
    let c = desk.config in
    let s = state_of desk in
    let e = settled_by old.stand new.stand new.ops in
    let behind = state_behind new.ops desk desk_new e adds in
    let leaves : LeavesNext c s (state_of desk_new) = subst (LeavesNext c s) (sym behind) (settled_leaves c s old.stand new.stand new.ops) in
    let config : desk_new.config ≡ c = ap (λ (x : DeskState). x.config) adds.adds in
    let fixed = works_fixed p old new clock works in
    let count = ap (λ (x : DeskState). length x.entries) adds.adds ∙ length-append desk.entries (entry_list e) in
    let pages : pages_of old.fixed (job_block due.job) (indices_of c (state_of desk_new) (job_block due.job)) ≡ pages_now desk old.fixed (job_block due.job) =
    same_pages c s (state_of desk_new) old.fixed (job_block due.job) (leaves.index (job_block due.job)) in
    let pages' : pages_now desk_new new.fixed (job_block due.job) ≡ pages_now desk old.fixed (job_block due.job) = ap (λ (f : Fixed). pages_of f (job_block due.job) (indices_of desk_new.config (state_of desk_new) (job_block due.job))) fixed
    ∙ ap (λ (x : Configuration). pages_of old.fixed (job_block due.job) (indices_of x (state_of desk_new) (job_block due.job))) config ∙ pages in
    let ready = ready_on old.fixed old.stand (Nearer old new) (old.ready ≤ new.ready) (not_urgent c s hand old paired due.standard) (works.ready (record { faults = calm; off = on })) in record {
      job = due.job;
      is = rw (config, fixed) due.is;
      earlier = let earlier = due.earlier in omega (arith, count, earlier);
      next = subst (λ (x : Configuration). next_in x (state_of desk_new).waiting ≡ Some due.job) (sym config) (ap (next_in c) leaves.waiting ∙ due.next);
      standard = subst (λ (x : Configuration). IfSome (state_of desk_new).hand (λ h. (rank_of x h).immediate ≡ false)) (sym config) (leaves.standard due.standard);
      ready = let was = due.ready in omega (arith, pages', was, ready);
      within = let was = due.within in omega (arith, pages', was, none);
    }
