-- The device's job ends: what the program of the job in hand saw then, and what it tried.
use Rattle.std.specs.Prelude.{slice_get, get_or, ◌/◌, ◌%◌, ◌-◌}
use Rattle.std.specs.List.{Contains}
use Rattle.std.specs.Option.{option_map_or}
use Rattle.std.proofs.Common.{◌≡◌, ◌≢◌, ◌≤◌, ◌<◌, ℕ, ◌+◌, ◌*◌, false, List, [], ◌∷◌, ◌++◌, length, map, Option, Some, None, refl, sym, ap, ◌∙◌, subst, arith}
use Rattle.block_machine.specs.nv_base.Marks.{instance_of}
use Rattle.block_machine.specs.nv_base.declared.instance.DeviceNumber.{DeviceNumber}
use Rattle.memif.specs.declared.answer.JobResult.{JobResult}
use Rattle.memif.specs.declared.answer.JobResult.TheVariants.{JobOk}
use Rattle.memif.specs.Told as device
use Rattle.memif.specs.Told.{DeviceTold, Open, Ended}
use Rattle.block_machine.specs.block_config.Lengths.{length_at, lengths_of}
use Rattle.block_machine.specs.block_config.Rules.{IsLegalConfig}
use Rattle.block_machine.specs.block_config.Sizes.{instances_of}
use Rattle.block_machine.specs.Words.{Mark, Content, Wrote, JobKind, ReadJob, Outcome, Configuration}
use Rattle.block_machine.specs.State.{State, BlockState, Job}
use Rattle.block_machine.specs.Blocks.{desc_of, block_at, indices_by, indices_of, settled_at, job_block, kind_of, mark_by, no_block, rank_of}
use Rattle.block_machine.specs.Results.{own_of, outcome_of}
use Rattle.block_machine.specs.Steps.{step, wrote}
use Rattle.job_programs.specs.Program as program
use Rattle.job_programs.specs.Program.{Program, next_in, is_failed}
use Rattle.job_programs.specs.Laws.{Fit}
use Rattle.nvm_device_laws.specs.Outcomes.{outcome_by, FitsSettled}
use Rattle.nvm_device_laws.specs.Tries.{is_hand_urgent}
use Rattle.nvm_device_laws.specs.Turn.{settled_by}
use Rattle.job_progress.specs.Hand.{HandState, ended}
use Rattle.job_progress.specs.JobInHand.{HandFits, IsInHand}
use Rattle.job_progress.specs.Goes.{state_by}
use Rattle.block_laws.proofs.InstanceNumbers.{few_at, listed_at}
use Rattle.nvm_device_laws.proofs.DeviceTries.{some_outcome}
use Rattle.job_progress.proofs.AtOperation.{AtOperation, at_operation}
use Rattle.nvm_laws.proofs.Operations.{stored, same_job}
use Rattle.nvm_laws.proofs.Seeing.{Seen, fit_other, map_at, seen_after, wrote_fits}

-- a Wrote leaves the blocks
wrote_blocks : (s : State) (i : _) (m : Mark) (o : Option Job) → (wrote s i m o).blocks ≡ s.blocks
wrote_blocks s i m None = refl
wrote_blocks s i m (Some j) = refl

module _ (c : Configuration) (s : State) (h : HandState) (old new : DeviceTold) (job : device.Job) (r : JobResult) (given : List ℕ)
    (is : IsInHand c s h old) (on : old.stand ≡ Open job) (off : new.stand ≡ Ended r given) where
  abbrev at : AtOperation c s h job is.job
  at = at_operation c s h old job is on

  abbrev pub index : ℕ
  index = at.index

  pub next : next_in h.program ≡ Some at.index
  next = at.next

  pub number_is : job.number ≡ h.program.block * 64 + at.index
  number_is = at.number

  pub rank_is : job.urgent ≡ is_hand_urgent c s
  rank_is = at.urgent ∙ sym (ap (λ (o : Option Job). option_map_or (λ j. (rank_of c j).immediate) o false) is.hand)

  kind_is : h.program.kind ≡ kind_of is.job
  kind_is = ap (λ (q : Program). q.kind) is.working.is

  block_is : h.program.block ≡ job_block is.job
  block_is = ap (λ (q : Program). q.block) is.working.is

  pub read_has_none : h.program.kind ≡ ReadJob → job.mark ≡ None
  read_has_none reads = at.mark ∙ ap (λ (k : JobKind). mark_by k is.job.content) (sym kind_is ∙ reads)

  none_reads : job.mark ≡ None → h.program.kind ≡ ReadJob
  none_reads none = kind_is ∙ at.reads none

  some_writes : (m : Mark) → job.mark ≡ Some m → h.program.kind ≢ ReadJob
  some_writes m marks reads = at.no_read m marks (sym kind_is ∙ reads)

  -- WHAT IS SETTLED
  abbrev mark_at : State → ℕ → Mark
  mark_at t i = settled_at t (record { block = job_block is.job; index = i })

  abbrev marks_in : State → List ℕ → List (ℕ × Mark)
  marks_in t xs = map (λ i. (i, mark_at t i)) xs

  abbrev own_indices : List ℕ
  own_indices = indices_of c s (job_block is.job)

  has_mark : (t : State) → slice_get (marks_in t own_indices) (length h.program.done) ≡ Some (at.index, mark_at t at.index)
  has_mark t = map_at (λ i. (i, mark_at t i)) own_indices (length h.program.done) at.index at.own

  -- THE HAND BEHIND IT
  -- in a state with the same job, whose block is as it was
  hand_seen : (t : State) (o : Outcome) (k : Job) → t.hand ≡ Some k → job_block k ≡ job_block is.job → indices_of c t (job_block is.job) ≡ own_indices
      → Seen (marks_in t own_indices) (program.after h.program o) new.stand → HandFits c t (Some (ended o h)) new
  hand_seen t o k hand block same seen j held =
      let block_j : job_block j ≡ job_block is.job = ap job_block (same_job j k t.hand held hand) ∙ block in
      let marks : (own_of c t (job_block j)).marks ≡ marks_in t own_indices =
      ap (λ (b : ℕ). (own_of c t b).marks) block_j ∙ ap (λ (xs : List ℕ). marks_in t xs) same in
      let now : Seen (own_of c t (job_block j)).marks (program.after h.program o) new.stand =
      subst (λ (ms : List (ℕ × Mark)). Seen ms (program.after h.program o) new.stand) (sym marks) seen in
      record { fit = now.0; last = now.1 }

  -- what it saw so far
  fit_so : HandFits c s (Some h) old → Fit h.program.kind (marks_in s own_indices) h.program.done
  fit_so fits = (fits is.job is.hand).fit

  -- WITHOUT A WROTE
  -- a read found what is settled
  read_seen : FitsSettled None (mark_at s at.index) r given → h.program.kind ≡ ReadJob → HandFits c s (Some h) old
      → HandFits c s (Some (ended (outcome_by None r) h)) new
  read_seen finds reads fits = hand_seen s (outcome_by None r) is.job is.hand refl refl
      (seen_after h.program (outcome_by None r) at.index next (some_outcome None r) (marks_in s own_indices) (at.index, mark_at s at.index) (fit_so fits) (has_mark s)
      (subst (λ (k : JobKind). outcome_of k (mark_at s at.index) (is_failed (outcome_by None r)) ≡ outcome_by None r) (sym reads) finds.0) new.stand
      (λ kind bytes stands.
      let both : Ended r given ≡ Ended JobOk bytes = sym off ∙ stands in
      let fine : r ≡ JobOk = cc in
      let same : given ≡ bytes = cc in
      finds.1 fine ∙ ap Content same))

  -- any other operation, of which nothing is settled
  failed_seen : (m : Mark) → h.program.kind ≢ ReadJob → HandFits c s (Some h) old → HandFits c s (Some (ended (outcome_by (Some m) r) h)) new
  failed_seen m writes fits = hand_seen s (outcome_by (Some m) r) is.job is.hand refl refl
      (seen_after h.program (outcome_by (Some m) r) at.index next (some_outcome (Some m) r) (marks_in s own_indices) (at.index, mark_at s at.index) (fit_so fits) (has_mark s)
      (wrote_fits h.program.kind m (mark_at s at.index) r writes) new.stand (λ reads bytes stands. absurd (writes reads)))

  -- WITH ONE
  wrote_seen : (m : Mark) (ops : ℕ) → h.program.kind ≢ ReadJob → HandFits c s (Some h) old
      → HandFits c (step c s (Wrote (instance_of (record { 0 = job.number })) m ops)) (Some (ended (outcome_by (Some m) r) h)) new
  wrote_seen m ops writes fits =
      hand_seen t (outcome_by (Some m) r) (record is.job { reserved = is.job.reserved - 1; written = is.job.written ++ (instance_of (record { 0 = job.number })).index ∷ [] })
      (ap (λ (x : Option Job). (wrote s (instance_of (record { 0 = job.number })) m x).hand) is.hand) refl
      (ap (λ (b : BlockState). indices_by (desc_of c (job_block is.job)).kind (desc_of c (job_block is.job)).nv b.index) block_same)
      (seen_after h.program (outcome_by (Some m) r) at.index next (some_outcome (Some m) r) (marks_in t own_indices) (at.index, mark_at t at.index)
      (fit_other h.program.kind writes (mark_at s) (mark_at t) own_indices h.program.done (fit_so fits)) (has_mark t)
      (wrote_fits h.program.kind m (mark_at t at.index) r writes) new.stand (λ reads bytes stands. absurd (writes reads)))
    where
      t : State
      t = step c s (Wrote (instance_of (record { 0 = job.number })) m ops)

      block_same : block_at t (job_block is.job) ≡ block_at s (job_block is.job)
      block_same = ap (λ (bs : List BlockState). get_or bs (job_block is.job) no_block) (wrote_blocks s (instance_of (record { 0 = job.number })) m s.hand)

  -- BY THE MARK
  same_outcome : (mark : Option Mark) (x : JobResult) → job.mark ≡ mark → r ≡ x → outcome_by mark r ≡ outcome_by mark x
  same_outcome mark x marks came = ap (outcome_by mark) came

  by_mark : (ops : ℕ) → FitsSettled job.mark (mark_at s at.index) r given → HandFits c s (Some h) old → (mark : Option Mark) (x : JobResult) → job.mark ≡ mark → r ≡ x
      → HandFits c (state_by c s (settled_by (Open (record job { mark = mark })) (Ended x given) ops)) (Some (ended (outcome_by mark x) h)) new
  by_mark ops finds fits None JobOk marks came = subst (λ (o : Outcome). HandFits c s (Some (ended o h)) new) (same_outcome None JobOk marks came)
      (read_seen (subst (λ (a : Option Mark). FitsSettled a (mark_at s at.index) r given) marks finds) (none_reads marks) fits)
  by_mark ops finds fits None x marks came = subst (λ (o : Outcome). HandFits c s (Some (ended o h)) new) (same_outcome None x marks came)
      (read_seen (subst (λ (a : Option Mark). FitsSettled a (mark_at s at.index) r given) marks finds) (none_reads marks) fits)
  by_mark ops finds fits (Some m) JobOk marks came =
      subst (λ (o : Outcome). HandFits c (step c s (Wrote (instance_of (record { 0 = job.number })) m ops)) (Some (ended o h)) new) (same_outcome (Some m) JobOk marks came)
      (wrote_seen m ops (some_writes m marks) fits)
  by_mark ops finds fits (Some m) x marks came = subst (λ (o : Outcome). HandFits c s (Some (ended o h)) new) (same_outcome (Some m) x marks came)
      (failed_seen m (some_writes m marks) fits)

  pub small_index : IsLegalConfig c → at.index ≤ 63
  small_index rules =
      let within : at.index < instances_of (desc_of c (job_block is.job)) = stored c s h old is is.job is.hand at.index next in
      let few : instances_of (desc_of c (job_block is.job)) ≤ 64 = few_at c (job_block is.job) rules in
      omega (arith, within, few)

  -- the instance is a configured one
  pub listed : (block : (job_block is.job ≢ 0) × (job_block is.job ≤ length c.blocks))
      → (x : DeviceNumber × ℕ) × Contains (lengths_of c) x × (x.0.0 ≡ job.number)
  listed block = (
    length_at (job_block is.job) (desc_of c (job_block is.job)).length at.index,
    listed_at c (job_block is.job) at.index block.0 block.1 (stored c s h old is is.job is.hand at.index next),
    sym (number_is ∙ ap (λ (b : ℕ). b * 64 + at.index) block_is),
  )

  -- what is settled there, by its number
  mark_by_number : (x : DeviceNumber × ℕ) → x.0.0 ≡ job.number → at.index ≤ 63 → settled_at s (instance_of x.0) ≡ mark_at s at.index
  mark_by_number x same small =
      let number : x.0.0 ≡ job_block is.job * 64 + at.index = same ∙ (number_is ∙ ap (λ (b : ℕ). b * 64 + at.index) block_is) in
      let block : x.0.0 / 64 ≡ job_block is.job = omega (arith, number, small) in
      let place : x.0.0 % 64 ≡ at.index = omega (arith, number, small) in
      ap (λ (b : ℕ). settled_at s (record { block = b; index = x.0.0 % 64 })) block
      ∙ ap (λ (n : ℕ). settled_at s (record { block = job_block is.job; index = n })) place

  pub ended_fits : (ops : ℕ) (x : DeviceNumber × ℕ) → x.0.0 ≡ job.number → at.index ≤ 63 → FitsSettled job.mark (settled_at s (instance_of x.0)) r given
      → HandFits c s (Some h) old → HandFits c (state_by c s (settled_by (Open job) (Ended r given) ops)) (Some (ended (outcome_by job.mark r) h)) new
  ended_fits ops x same small finds fits =
      by_mark ops (subst (λ (m : Mark). FitsSettled job.mark m r given) (mark_by_number x same small) finds) fits job.mark r refl refl
