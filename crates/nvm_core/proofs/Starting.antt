-- The start of the operation that the hand names.
use Rattle.std.specs.Prelude.{length, slice_get, unwrap_or, option_map, if◌then◌else◌}
use Rattle.std.specs.List.{list_any}
use Rattle.std.specs.Option.{option_map_or}
use Rattle.std.proofs.Common.{◌≡◌, ℕ, Bool, true, false, List, [], Option, Some, None, IsSome, refl, sym, ap, ◌∙◌}
use Rattle.nvm_laws.specs.nv_base.Marks.{number_of}
use Rattle.nvm_laws.specs.nv_base.declared.instance.Instance.{Instance}
use Rattle.nvm_laws.specs.nv_base.declared.job.DeviceOp.{DeviceOp}
use Rattle.nvm_laws.specs.nv_base.declared.job.DeviceOp.TheVariants as op
use Rattle.nvm_laws.specs.nv_base.declared.request.Request.TheVariants as req
use Rattle.nvm_laws.specs.memif.Told as device
use Rattle.nvm_laws.specs.block_machine.Words.{Mark, Content, Invalid, Erased, JobKind, ReadJob, WriteJob, RestoreJob, EraseJob, InvalidateJob, ReadAllJob, WriteAllJob, Request, Configuration}
use Rattle.nvm_laws.specs.block_machine.State.{State, Job}
use Rattle.nvm_laws.specs.block_machine.Blocks.{desc_of, block_at, indices_by, job_block, job_kind, kind_of, mark_of, mark_by, rank_of, is_immediate}
use Rattle.nvm_laws.specs.job_programs.Program.{Program, works, operation, settles, next_in}
use Rattle.nvm_laws.specs.block_machine.Results.{took_none}
use Rattle.nvm_laws.specs.nvm_figures.Job.{IsOperation}
use Rattle.nvm_laws.specs.nvm_device_laws.Turn.{read_wish, write_wish, mark_wish}
use Rattle.nvm_laws.specs.nv_desk.Desk.{DeskState, state_of}
use Rattle.nvm_laws.specs.job_progress.Hand.{HandState}
use Rattle.nvm_laws.specs.job_progress.JobInHand.{IsWorking, job_for}
use Rattle.nvm_laws.specs.job_progress.Goes.{Names}

-- a job with an operation works on the device
works_at : (t on : Bool) (xs : List ℕ) (n index : ℕ) → (if t then None else slice_get (if on then xs else []) n) ≡ Some index → on ≡ true
works_at t true xs n index is = refl
works_at true false xs n index is = cc
works_at false false xs n index is = cc

pub works_on : (c : Configuration) (s : State) (j : Job) (p : Program) (index : ℕ) → IsWorking c s j p → next_in p ≡ Some index → works (kind_of j) ≡ true
works_on c s j p index is next =
    let d = desc_of c (job_block j) in
    works_at (list_any (settles (kind_of j)) p.done) (works (kind_of j)) (indices_by d.kind d.nv (block_at s (job_block j)).index) (length p.done) index (ap next_in (sym is.is) ∙ next)

-- only a write is urgent
urgent_by : (c : Configuration) (r : Request) (member : Bool) (kind : JobKind) → kind ≡ unwrap_or (job_kind r) ReadJob → (kind ≡ WriteJob → ⊥)
    → (if member then false else is_immediate c r) ≡ false
urgent_by c r true kind is other = refl
urgent_by c (req.Write block content store) false kind is other = absurd (other is)
urgent_by c r false kind is other = refl

-- the kind of a job by its operation
reads_by : (kind : JobKind) → op.Read ≡ operation kind → kind ≡ ReadJob
reads_by ReadJob is = refl
reads_by kind is = cc

erases_by : (kind : JobKind) → op.Erase ≡ operation kind → kind ≡ EraseJob
erases_by EraseJob is = refl
erases_by kind is = cc

invalidates_by : (kind : JobKind) → op.Invalidate ≡ operation kind → kind ≡ InvalidateJob
invalidates_by InvalidateJob is = refl
invalidates_by kind is = cc

writes_by : (kind : JobKind) → works kind ≡ true → op.Write ≡ operation kind → kind ≡ WriteJob
writes_by WriteJob works is = refl
writes_by kind works is = cc

-- THE DEVICE'S JOB
same_job : (a b : device.Job) → a.number ≡ b.number → a.mark ≡ b.mark → a.urgent ≡ b.urgent → a ≡ b
same_job a b number mark urgent =
    ap (λ (n : ℕ). record { number = n; mark = a.mark; urgent = a.urgent }) number
    ∙ ap (λ (m : Option Mark). record { number = b.number; mark = m; urgent = a.urgent }) mark
    ∙ ap (λ (u : Bool). record { number = b.number; mark = b.mark; urgent = u }) urgent

-- one that isn't urgent
abbrev job_on : ℕ → Option Mark → device.Job
job_on n mark = record { number = n; mark = mark; urgent = false }

some_content : (o : Option (List ℕ × ℕ)) → IsSome o → (x : List ℕ × ℕ) × (o ≡ Some x)
some_content (Some x) is = (x, refl)
some_content None is = cc

mark_in : (j : Job) (x : List ℕ × ℕ) → kind_of j ≡ WriteJob → j.content ≡ Some x → Some (Content x.0) ≡ mark_of j
mark_in j x kind has = rw (kind, has) refl

module _ (desk : DeskState) (h : HandState) (o : DeviceOp) (i : Instance) (names : Names desk.config (state_of desk) h o i) (n : ℕ) (is : n ≡ number_of i) where
  number : n ≡ (job_for desk.config names.job h.program names.index).number
  number = let block : i.block ≡ h.program.block = names.block ∙ sym names.same_block in
      is ∙ ap (λ (b : ℕ). number_of (record { block = b; index = i.index })) block ∙ ap (λ (k : ℕ). number_of (record { block = h.program.block; index = k })) names.index_is

  -- a job that isn't a write isn't urgent, and its mark is that of its kind
  job_is : (kind : JobKind) → kind_of names.job ≡ kind → (kind ≡ WriteJob → ⊥)
      → job_on n (mark_by kind names.job.content) ≡ job_for desk.config names.job h.program names.index
  job_is kind is other =
      same_job (job_on n (mark_by kind names.job.content)) (job_for desk.config names.job h.program names.index) number (ap (λ (k : JobKind). mark_by k names.job.content) (sym is))
      (sym (urgent_by desk.config names.job.request names.job.member kind (sym is) other))

  pub read_job : o ≡ op.Read → (size : ℕ) → (read_wish n size).job ≡ job_for desk.config names.job h.program names.index
  read_job at size = job_is ReadJob (reads_by (kind_of names.job) (sym at ∙ names.op_is)) (λ write. cc)

  pub erase_job : o ≡ op.Erase → (mark_wish n Erased).job ≡ job_for desk.config names.job h.program names.index
  erase_job at = job_is EraseJob (erases_by (kind_of names.job) (sym at ∙ names.op_is)) (λ write. cc)

  pub invalidate_job : o ≡ op.Invalidate → (mark_wish n Invalid).job ≡ job_for desk.config names.job h.program names.index
  invalidate_job at = job_is InvalidateJob (invalidates_by (kind_of names.job) (sym at ∙ names.op_is)) (λ write. cc)

  pub write_job : o ≡ op.Write → IsWorking desk.config (state_of desk) names.job h.program
      → (x : List ℕ × ℕ) × (names.job.content ≡ Some x) × ((write_wish n x.0 (rank_of desk.config names.job).immediate).job ≡ job_for desk.config names.job h.program names.index)
  write_job at working =
      let j = names.job in
      let kind = writes_by (kind_of j) (works_on desk.config (state_of desk) j h.program names.index working names.next) (sym at ∙ names.op_is) in
      let (x, has) = some_content j.content (working.content kind names.content) in
      (x, has, same_job (write_wish n x.0 (rank_of desk.config j).immediate).job (job_for desk.config j h.program names.index) number (mark_in j x kind has) refl)

-- it is the operation that the program is at
pub op_by : (kind : JobKind) (content : Option (List ℕ × ℕ)) → works kind ≡ true → (kind ≡ WriteJob → IsSome content) → device.op_of (mark_by kind content) ≡ operation kind
op_by WriteJob (Some x) works has = refl
op_by WriteJob None works has = let none : IsSome {T = List ℕ × ℕ} None = has refl in cc
op_by RestoreJob content works has = cc
op_by ReadAllJob content works has = cc
op_by WriteAllJob content works has = cc
op_by kind content works has = refl

pub operation_is : (c : Configuration) (s : State) (j : Job) (p : Program) (index : ℕ) → IsWorking c s j p → next_in p ≡ Some index → took_none j.taken ≡ false
    → IsOperation p index (job_for c j p index)
operation_is c s j p index is next took =
    let kind : p.kind ≡ kind_of j = ap (λ (q : Program). q.kind) is.is in
    record {
      next = next;
      number = refl;
      operation = op_by (kind_of j) j.content (works_on c s j p index is next) (λ write. is.content write took) ∙ sym (ap operation kind);
    }

-- what is written is the job's
pub written_is : (desk : DeskState) (n : ℕ) (urgent : Bool) (bytes : List ℕ) (held j : Job) (x : List ℕ × ℕ)
    → urgent ≡ option_map_or (λ k. (rank_of desk.config k).immediate) (state_of desk).hand false → (state_of desk).hand ≡ Some j → Some held ≡ (state_of desk).hand
    → Some bytes ≡ option_map (λ y. y.0) held.content → j.content ≡ Some x
    → (write_wish n bytes urgent).job ≡ (write_wish n x.0 (rank_of desk.config j).immediate).job
written_is desk n urgent bytes held j x immediate hand held_is content has =
    let same : held ≡ j = let both : Some held ≡ Some j = held_is ∙ hand in cc in
    let whole : Some bytes ≡ Some x.0 = content ∙ ap (λ (k : Job). option_map (λ y. y.0) k.content) same ∙ ap (option_map (λ y. y.0)) has in
    let bytes_are : bytes ≡ x.0 = cc in
    let rank : urgent ≡ (rank_of desk.config j).immediate = immediate ∙ ap (λ (k : Option Job). option_map_or (λ k. (rank_of desk.config k).immediate) k false) hand in
    same_job (write_wish n bytes urgent).job (write_wish n x.0 (rank_of desk.config j).immediate).job refl (ap (λ (b : List ℕ). Some (Content b)) bytes_are) rank
