-- The operation of a job in hand that is at the device.
use Rattle.std.specs.Prelude.{if◌then◌else◌, slice_get, Contains}
use Rattle.std.specs.List.{list_any}
use Rattle.std.proofs.lemmas.Option.{slice_get_within, get_or_from_slice_get}
use Rattle.std.proofs.Common.{◌≡◌, ℕ, Bool, true, false, List, [], length, Option, Some, None, refl, sym, ap, subst, ◌∙◌}
use Rattle.nvm_laws.specs.nv_base.Marks.{number_of}
use Rattle.nvm_laws.specs.memif.Told as memif
use Rattle.nvm_laws.specs.memif.Told.{DeviceTold, Stand, Open, is_open, IfElse}
use Rattle.nvm_laws.specs.block_machine.Words.{Configuration}
use Rattle.nvm_laws.specs.block_machine.State.{State, Job}
use Rattle.nvm_laws.specs.block_machine.Blocks.{indices_of, job_block, kind_of, mark_of, rank_of}
use Rattle.nvm_laws.specs.job_programs.Program.{Program, next_in, settles, works}
use Rattle.nvm_laws.specs.job_progress.Hand.{HandState}
use Rattle.nvm_laws.specs.job_progress.JobInHand.{IsAt, IsInHand, IsWorking, program_for}

next_is : (t : Bool) (o : Option ℕ) (index : ℕ) → (if t then None else o) ≡ Some index → o ≡ Some index
next_is true o index is = cc is
next_is false o index is = is

works_by : (t : Bool) (is : List ℕ) (n index : ℕ) → slice_get (if t then is else []) n ≡ Some index → t ≡ true
works_by true is n index at = refl
works_by false is n index at = cc at

listed_is : (xs : List ℕ) (n x : ℕ) → slice_get xs n ≡ Some x → Contains xs x
listed_is xs n x is = (n, slice_get_within xs n x is, get_or_from_slice_get xs n x x is)

-- with a job in hand that is at the device, its operation is open there
pub record AtOperation (c : Configuration) (s : State) (stand : Stand) : Type 0 where
  pub job : Job
  pub hand : s.hand ≡ Some job
  pub works_on : works (kind_of job) ≡ true
  pub index : ℕ
  pub one : Contains (indices_of c s (job_block job)) index
  pub is : stand ≡ Open (record { number = number_of (record { block = job_block job; index = index }); mark = mark_of job; urgent = (rank_of c job).immediate })

pub at_operation : (c : Configuration) (s : State) (h : HandState) (d : DeviceTold) → h.started ≡ true → IsInHand c s h d → AtOperation c s d.stand
at_operation c s h d started is = by h.started started is.at
  where
    at_index : (p : Program) → IsWorking c s is.job p → (index : ℕ) → next_in p ≡ Some index → (works (kind_of is.job) ≡ true) × (slice_get (indices_of c s (job_block is.job)) (length p.done) ≡ Some index)
    at_index p working index next =
        let here = next_is (list_any (settles p.kind) p.done) (slice_get p.indices (length p.done)) index next in
        let listed : slice_get (program_for c s is.job).indices (length p.done) ≡ Some index = ap (λ (q : Program). slice_get q.indices (length p.done)) (sym working.is) ∙ here in
        let on = works_by (works (kind_of is.job)) (indices_of c s (job_block is.job)) (length p.done) index listed in
        (on, subst (λ (b : Bool). slice_get (if b then indices_of c s (job_block is.job) else []) (length p.done) ≡ Some index) on listed)

    by : (t : Bool) → t ≡ true → IfElse t (IsAt c is.job h.program d.stand) (is_open d.stand ≡ false) → AtOperation c s d.stand
    by false on closed = cc on
    by true on at =
        let (works_on, listed) = at_index h.program is.working at.index at.next in
        let block : h.program.block ≡ job_block is.job = ap (λ (q : Program). q.block) is.working.is in record {
          job = is.job;
          hand = is.hand;
          works_on = works_on;
          index = at.index;
          one = listed_is (indices_of c s (job_block is.job)) (length h.program.done) at.index listed;
          is = at.stands ∙ ap (λ (b : ℕ). Open (record { number = number_of (record { block = b; index = at.index }); mark = mark_of is.job; urgent = (rank_of c is.job).immediate })) block;
        }

pub open_same : (a b : memif.Job) → Open a ≡ Open b → a ≡ b
open_same a b is = cc is
