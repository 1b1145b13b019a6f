-- The device's job ends, and the Wrote that it may ask for.
use Rattle.std.specs.Prelude.{slice_get, nat_lt, ◌/◌, ◌%◌, ◌*◌}
use Rattle.std.specs.List.{list_all}
use Rattle.std.proofs.Common.{◌≡◌, ◌≢◌, ℕ, ◌+◌, ◌-◌, ◌≤◌, ◌<◌, Bool, true, false, if◌then◌else◌, List, [], ◌∷◌, ◌++◌, length, is_some, Option, Some, None, refl, sym, ap, ◌∙◌, subst, inl, inr, arith}
use Rattle.std.proofs.lemmas.List.{append-nil}
use Rattle.std.proofs.lemmas.Option.{slice_get_within}
use Rattle.block_machine.specs.nv_base.Marks.{instance_of}
use Rattle.memif.specs.declared.answer.JobResult.{JobResult}
use Rattle.memif.specs.declared.answer.JobResult.TheVariants.{JobOk}
use Rattle.memif.specs.Told as device
use Rattle.memif.specs.Told.{DeviceTold, Stand, Open, Ended, is_open}
use Rattle.block_machine.specs.block_config.Block.{record_count}
use Rattle.block_machine.specs.block_config.Rules.{IsLegalConfig}
use Rattle.block_machine.specs.Words.{Mark, JobKind, ReadJob, RestoreJob, ReadAllJob, WriteAllJob, Outcome, ReadContent, Entry, Wrote, Configuration, BlockKind}
use Rattle.block_machine.specs.State.{State, Job}
use Rattle.block_machine.specs.Blocks.{desc_of, block_at, is_in, indices_of, job_block, kind_of, records_by, records_of}
use Rattle.block_machine.specs.Steps.{step, wrote}
use Rattle.block_machine.specs.Legal.{IsAllowed, IsDriving}
use Rattle.job_programs.specs.Program.{Program, works, is_failed, tried}
use Rattle.job_programs.specs.Laws.{Works}
use Rattle.job_programs.specs.Failures.{served_of}
use Rattle.block_laws.proofs.InstanceIndices.{is_in_at, few_indices}
use Rattle.job_programs.proofs.Worked.{programs_work}
use Rattle.nvm_device_laws.specs.Outcomes.{outcome_by}
use Rattle.nvm_device_laws.specs.Turn.{settled_by, wrote_by}
use Rattle.nvm_device_laws.proofs.DeviceTries.{some_outcome}
use Rattle.job_progress.specs.Hand.{HandState, ended}
use Rattle.job_progress.specs.JobInHand.{IsInHand}
use Rattle.job_progress.specs.Goes.{ReadsWhole, state_by, HandsGoOn, WritesAreAllowed}
use Rattle.job_progress.proofs.AtOperation.{AtOperation, at_operation}
use Rattle.job_progress.proofs.Going.{next_of_done, served_tried, small_next, block_is}
use Rattle.job_progress.proofs.Ended.{goes_on}

-- NUMBERS
pub same_block : (b i : ℕ) → i ≤ 63 → (b * 64 + i) / 64 ≡ b
same_block b i small = omega (arith, small)

pub same_index : (b i : ℕ) → i ≤ 63 → (b * 64 + i) % 64 ≡ i
same_index b i small = omega (arith, small)

-- a content was read whole
whole_by : (size : ℕ) (mark : Option Mark) (r : JobResult) (given : List ℕ) → ReadsWhole size mark r given → outcome_by mark r ≡ ReadContent
    → (r ≡ JobOk) × (length given ≡ size)
whole_by size None JobOk given whole is = (refl, whole)
whole_by size (Some mark) JobOk given whole is = cc
whole_by size mark r given whole is = cc

-- THE WROTE
few_served : (is : List ℕ) (os : List Outcome) → length (served_of is os) ≤ length os
few_served [] os = omega arith
few_served (i ∷ is) [] = omega arith
few_served (i ∷ is) (o ∷ os) = by (is_failed o) (few_served is os)
  where
    by : (t : Bool) → length (served_of is os) ≤ length os → length (if t then served_of is os else i ∷ served_of is os) ≤ length (o ∷ os)
    by true few = omega (arith, few)
    by false few = omega (arith, few)

records_are : (block : BlockKind) (kind : JobKind) → works kind ≡ true → kind ≢ ReadJob → records_by block kind ≡ record_count block
records_are block ReadJob on writes = absurd (writes refl)
records_are block RestoreJob on writes = cc
records_are block ReadAllJob on writes = cc
records_are block WriteAllJob on writes = cc
records_are block kind on writes = refl

-- those that were served are before the one that is next
pub in_order : (is : List ℕ) (os : List Outcome) (index : ℕ) → Works is → slice_get is (length os) ≡ Some index
    → list_all (λ i. nat_lt i index) (served_of is os) ≡ true
in_order [] os index shape has = cc
in_order (i ∷ is) [] index shape has = refl
in_order (i ∷ []) (o ∷ os) index shape has = cc
in_order (i ∷ j ∷ []) (o ∷ []) index (inl is) has = cc
in_order (i ∷ j ∷ []) (o ∷ []) index (inr (inl (x, is))) has = cc
in_order (i ∷ j ∷ []) (o ∷ []) index (inr (inr is)) has =
    let first : i ≡ 0 = cc in let second : j ≡ 1 = cc in let at : j ≡ index = cc in by (is_failed o) first (sym at ∙ second)
  where
    by : (t : Bool) → i ≡ 0 → index ≡ 1 → list_all (λ (k : ℕ). nat_lt k index) (if t then [] else i ∷ []) ≡ true
    by true zero_is one_is = refl
    by false zero_is one_is = rw (zero_is, one_is) refl
in_order (i ∷ j ∷ []) (o ∷ p ∷ os) index shape has = cc
in_order (i ∷ j ∷ k ∷ is) (o ∷ os) index (inl is') has = cc
in_order (i ∷ j ∷ k ∷ is) (o ∷ os) index (inr (inl (x, is'))) has = cc
in_order (i ∷ j ∷ k ∷ is) (o ∷ os) index (inr (inr is')) has = cc

module _ (c : Configuration) (s : State) (h : HandState) (old : DeviceTold) (job : device.Job) (rules : IsLegalConfig c)
    (is : IsInHand c s h old) (on : old.stand ≡ Open job) where
  abbrev at : AtOperation c s h job is.job
  at = at_operation c s h old job is on

  small : at.index ≤ 63
  small = small_next c s h old rules is at.index at.next

  instance_block : (instance_of (record { 0 = job.number })).block ≡ job_block is.job
  instance_block = ap (λ (n : ℕ). (instance_of (record { 0 = n })).block) at.number ∙ (same_block h.program.block at.index small ∙ block_is c s h old rules is)

  instance_index : (instance_of (record { 0 = job.number })).index ≡ at.index
  instance_index = ap (λ (n : ℕ). (instance_of (record { 0 = n })).index) at.number ∙ same_index h.program.block at.index small

  left_over : kind_of is.job ≢ ReadJob → length is.job.written < records_of c is.job
  left_over writes =
      let written : length is.job.written ≡ length (served_of h.program.indices h.program.done) = ap (λ (xs : List ℕ). length xs) (is.working.written writes) in
      let served = few_served h.program.indices h.program.done in
      let within : length h.program.done < length (indices_of c s (job_block is.job)) = slice_get_within (indices_of c s (job_block is.job)) (length h.program.done) at.index at.own in
      let few = few_indices (desc_of c (job_block is.job)).kind (desc_of c (job_block is.job)).nv (block_at s (job_block is.job)).index in
      let records = records_are (desc_of c (job_block is.job)).kind (kind_of is.job) at.at_device writes in
      omega (arith, written, served, within, few, records)

  pub allowed : (most ops : ℕ) (m : Mark) → IsDriving s ops → job.mark ≡ Some m → (shapes : Works h.program.indices)
      → IsAllowed c most s (Wrote (instance_of (record { 0 = job.number })) m ops)
  allowed most ops m driving marks shapes = (
    driving,
    rw is.hand (record {
      same_block = instance_block;
      one_of_its = ap (is_in (indices_of c s (job_block is.job))) instance_index ∙ is_in_at (indices_of c s (job_block is.job)) (length h.program.done) at.index at.own;
      in_order = ap (λ (xs : List ℕ). list_all (λ i. nat_lt i (instance_of (record { 0 = job.number })).index) xs) (is.working.written (at.no_read m marks))
          ∙ (ap (λ (n : ℕ). list_all (λ i. nat_lt i n) (served_of h.program.indices h.program.done)) instance_index
          ∙ in_order h.program.indices h.program.done at.index shapes (next_of_done h.program at.index at.next).1);
      left = left_over (at.no_read m marks);
      marks = sym at.mark ∙ marks;
    }),
  )

-- THE END OF THE DEVICE'S JOB
module _ (c : Configuration) (s : State) (h : HandState) (old new : DeviceTold) (job : device.Job) (r : JobResult) (given : List ℕ) (ops : ℕ) (rules : IsLegalConfig c) (is : IsInHand c s h old) (on : old.stand ≡ Open job)
    (off : new.stand ≡ Ended r given) (whole : ReadsWhole (desc_of c (job_block is.job)).length job.mark r given) where
  abbrev was_at : AtOperation c s h job is.job
  was_at = at c s h old job rules is on

  closed : is_open new.stand ≡ false
  closed = ap is_open off

  read_whole : outcome_by job.mark r ≡ ReadContent → (bytes : List ℕ) × (new.stand ≡ Ended JobOk bytes) × (length bytes ≡ (desc_of c (job_block is.job)).length)
  read_whole reads =
      let (fine, size) = whole_by (desc_of c (job_block is.job)).length job.mark r given whole reads in
      (given, off ∙ ap (λ (x : JobResult). Ended x given) fine, size)

  served : served_of (tried h.program (outcome_by job.mark r)).indices (tried h.program (outcome_by job.mark r)).done
      ≡ served_of h.program.indices h.program.done ++ (if is_failed (outcome_by job.mark r) then [] else was_at.index ∷ [])
  served = served_tried h.program was_at.index (outcome_by job.mark r) (next_of_done h.program was_at.index was_at.next).1

  -- without a Wrote
  pub stays : (kind_of is.job ≢ ReadJob → is_failed (outcome_by job.mark r) ≡ true) → IsInHand c s (ended (outcome_by job.mark r) h) new
  stays failed = goes_on c s h old new is was_at.index was_at.next
      was_at.some (outcome_by job.mark r) (some_outcome job.mark r) s is.job.reserved is.job.written is.hand (λ id. refl)
      (λ writes. is.working.written writes ∙ sym (served ∙ none_more (failed writes))) closed read_whole
    where
      none_more : is_failed (outcome_by job.mark r) ≡ true
          → served_of h.program.indices h.program.done ++ (if is_failed (outcome_by job.mark r) then [] else was_at.index ∷ []) ≡ served_of h.program.indices h.program.done
      none_more failed = ap (λ (t : Bool). served_of h.program.indices h.program.done ++ (if t then [] else was_at.index ∷ [])) failed ∙ append-nil (served_of h.program.indices h.program.done)

  -- with one
  pub wrote_it : (m : Mark) → job.mark ≡ Some m → is_failed (outcome_by job.mark r) ≡ false
      → IsInHand c (step c s (Wrote (instance_of (record { 0 = job.number })) m ops)) (ended (outcome_by job.mark r) h) new
  wrote_it m marks fine = goes_on c s h old new is was_at.index was_at.next
      was_at.some (outcome_by job.mark r) (some_outcome job.mark r)
      (step c s (Wrote (instance_of (record { 0 = job.number })) m ops)) (is.job.reserved - 1) (is.job.written ++ (instance_of (record { 0 = job.number })).index ∷ [])
      (ap (λ (x : Option Job). (wrote s (instance_of (record { 0 = job.number })) m x).hand) is.hand)
      (λ id. ap (λ (x : Option Job). block_at (record (wrote s (instance_of (record { 0 = job.number })) m x) { count = s.count + 1; ops = ops }) id) is.hand)
      (λ writes. ap (λ (xs : List ℕ). xs ++ (instance_of (record { 0 = job.number })).index ∷ []) (is.working.written writes)
      ∙ (ap (λ (i : ℕ). served_of h.program.indices h.program.done ++ i ∷ []) (instance_index c s h old job rules is on)
      ∙ sym (served ∙ ap (λ (t : Bool). served_of h.program.indices h.program.done ++ (if t then [] else was_at.index ∷ [])) fine))) closed read_whole

  same_outcome : (mark : Option Mark) (x : JobResult) → job.mark ≡ mark → r ≡ x → outcome_by job.mark r ≡ outcome_by mark x
  same_outcome mark x marks came = rw (marks, came) refl

  staying : (mark : Option Mark) (x : JobResult) → job.mark ≡ mark → r ≡ x → (kind_of is.job ≢ ReadJob → is_failed (outcome_by mark x) ≡ true)
      → IsInHand c s (ended (outcome_by mark x) h) new
  staying mark x marks came failed =
      subst (λ (o : Outcome). IsInHand c s (ended o h) new) (same_outcome mark x marks came)
      (stays (λ writes. ap is_failed (same_outcome mark x marks came) ∙ failed writes))

  by_mark : (mark : Option Mark) (x : JobResult) → job.mark ≡ mark → r ≡ x
      → IsInHand c (state_by c s (settled_by (Open (record job { mark = mark })) (Ended x given) ops)) (ended (outcome_by mark x) h) new
  by_mark None JobOk marks came = staying None JobOk marks came (λ writes. absurd (writes (was_at.reads marks)))
  by_mark None x marks came = staying None x marks came (λ writes. absurd (writes (was_at.reads marks)))
  by_mark (Some m) JobOk marks came =
      subst (λ (o : Outcome). IsInHand c (step c s (Wrote (instance_of (record { 0 = job.number })) m ops)) (ended o h) new) (same_outcome (Some m) JobOk marks came)
      (wrote_it m marks (ap is_failed (same_outcome (Some m) JobOk marks came)))
  by_mark (Some m) x marks came = staying (Some m) x marks came (λ writes. refl)

  pub ends : IsInHand c (state_by c s (settled_by old.stand new.stand ops)) (ended (outcome_by job.mark r) h) new
  ends = subst (λ (e : Option Entry). IsInHand c (state_by c s e) (ended (outcome_by job.mark r) h) new) asks (by_mark job.mark r refl refl)
    where
      asks : settled_by (Open job) (Ended r given) ops ≡ settled_by old.stand new.stand ops
      asks = ap (λ (x : Stand). settled_by x (Ended r given) ops) (sym on) ∙ ap (λ (x : Stand). settled_by old.stand x ops) (sym off)

-- THE LAWS
pub hands_go_on : HandsGoOn
hands_go_on c s h old new job r given j ops rules is hand on off whole =
    let same : j ≡ is.job = let both : Some j ≡ Some is.job = sym hand ∙ is.hand in cc in
    ends c s h old new job r given ops rules is on off (subst (λ (k : Job). ReadsWhole (desc_of c (job_block k)).length job.mark r given) same whole)

shape_of : (c : Configuration) (s : State) (h : HandState) (d : DeviceTold) → IsInHand c s h d → Works h.program.indices
shape_of c s h d is = subst Works (sym (ap (λ (q : Program). q.indices) is.working.is))
    (programs_work (desc_of c (job_block is.job)) (is_some (desc_of c (job_block is.job)).defaults) (job_block is.job) (block_at s (job_block is.job)).index (kind_of is.job))

pub writes_are_allowed : WritesAreAllowed
writes_are_allowed c most s h old new e ops rules is driving asks = by old.stand new.stand refl asks
  where
    wrote_is : (job : device.Job) (mark : Option Mark) → old.stand ≡ Open job → job.mark ≡ mark → wrote_by job.number mark ops ≡ Some e → IsAllowed c most s e
    wrote_is job None on marks asks = cc
    wrote_is job (Some m) on marks asks =
        let same : Wrote (instance_of (record { 0 = job.number })) m ops ≡ e = cc in
        subst (IsAllowed c most s) same (allowed c s h old job rules is on most ops m driving marks (shape_of c s h old is))

    by : (a b : Stand) → old.stand ≡ a → settled_by a b ops ≡ Some e → IsAllowed c most s e
    by (Open job) (Ended JobOk given) on asks = wrote_is job job.mark on refl asks
    by a b on asks = cc
