-- The failed tries of the job in hand, since a count of faults.
use Rattle.std.specs.Prelude.{min}
use Rattle.std.proofs.Common.{◌≡◌, ◌≢◌, ◌<◌, ◌≤◌, ◌+◌, ◌⊎◌, ℕ, Bool, true, false, List, [], Option, Some, None, sym, ap, ◌∙◌, subst, inl, inr, arith}
use Rattle.std.proofs.lemmas.Bool.Decides.{leb_tells}
use Rattle.nvm_laws.specs.nv_base.Count.{last_count, Rose, WereCounted}
use Rattle.nvm_laws.specs.nv_base.Marks.{number_of}
use Rattle.nvm_laws.specs.memif.declared.answer.JobResult.{JobResult}
use Rattle.nvm_laws.specs.memif.declared.answer.JobResult.TheVariants.{JobFailed}
use Rattle.nvm_laws.specs.memif.Told as device
use Rattle.nvm_laws.specs.memif.Told.{DeviceTold, Part, Open, IfElse, is_open, faults_of}
use Rattle.nvm_laws.specs.memif.Clock.{Clock}
use Rattle.nvm_laws.specs.memif.Calls.{Works, EndsAs, MayFail}
use Rattle.nvm_laws.specs.block_machine.Words.{JobKind, ReadJob, Configuration}
use Rattle.nvm_laws.specs.block_machine.State.{State, Job}
use Rattle.nvm_laws.specs.block_machine.Blocks.{kind_of, mark_by, rank_of}
use Rattle.nvm_laws.specs.promise_blocks.Payment.{Worn, every_block}
use Rattle.nvm_laws.specs.promise_blocks.OverDevice.{TellsAtMost}
use Rattle.nvm_laws.specs.job_programs.Program as program
use Rattle.nvm_laws.specs.job_programs.Program.{Program, is_failed}
use Rattle.nvm_laws.specs.job_programs.Failures.{failed_tries}
use Rattle.nvm_laws.specs.nvm_device_laws.Outcomes.{outcome_by}
use Rattle.nvm_laws.specs.nvm_device_laws.Tries.{Counted, IsWornOut, AreTriesPaid, tries_of_done}
use Rattle.nvm_laws.proofs.PaidTries.{no_tries, tries_stay, tries_go_on}
use Rattle.nvm_laws.specs.job_progress.Hand.{HandState, ended}
use Rattle.nvm_laws.specs.job_progress.JobInHand.{IsAt, IsInHand, job_for}
use Rattle.nvm_laws.proofs.Outcomes.{after_is}
use Rattle.nvm_laws.proofs.DeviceTries.{failed_job, some_outcome}
use Rattle.nvm_core.specs.Paying.{counted_of, TriesSince, OwesSince}
use Rattle.nvm_core.proofs.Working.{rose_of}

none_told : (n : ℕ) → TellsAtMost n []
none_told n e ops has is = let few = has.1 in absurd (omega (arith, few))

-- BESIDE NO POST
abbrev pub counted_since : ℕ → Counted
counted_since n = record { ops = 0; faults = n }

with_none : (n a b : ℕ) → WereCounted n a b → WereCounted (0 + n) a b
with_none n a b (inl more) = inl (omega (arith, more))
with_none n a b (inr full) = inr full

without : (f n a b : ℕ) → WereCounted (f + n) a b → WereCounted n a b
without f n a b (inl more) = inl (omega (arith, more))
without f n a b (inr full) = inr full

-- so many faults pay for the tries of an empty history
abbrev OverNone : Configuration → Worn → (urgent : Bool) → ℕ → Counted → Program → Type 0
OverNone c worn urgent since now p = AreTriesPaid every_block c worn urgent (counted_since since) now [] p

over_none : (c : Configuration) (worn : Worn) (urgent : Bool) (since : ℕ) (now : Counted) (p : Program) → TriesSince worn urgent since now p → OverNone c worn urgent since now p
over_none c worn urgent since now p (inl all) = inl (0, with_none (failed_tries p) since now.faults all, tt)
over_none c worn urgent since now p (inr (inl (done, next))) = inr (inl ((0, with_none (tries_of_done p) since now.faults done, tt), next))
over_none c worn urgent since now p (inr (inr out)) = inr (inr out)

since_of : (c : Configuration) (worn : Worn) (urgent : Bool) (since : ℕ) (now : Counted) (p : Program) → OverNone c worn urgent since now p → TriesSince worn urgent since now p
since_of c worn urgent since now p (inl (f, all, paid)) = inl (without f (failed_tries p) since now.faults all)
since_of c worn urgent since now p (inr (inl ((f, done, paid), next))) = inr (inl (without f (tries_of_done p) since now.faults done, next))
since_of c worn urgent since now p (inr (inr out)) = inr (inr out)

-- a program that begins has none
pub none_since : (worn : Worn) (urgent : Bool) (since : ℕ) (now : Counted) (p : Program) → since ≤ now.faults → p.done ≡ [] → p.failures ≡ 0 → TriesSince worn urgent since now p
none_since worn urgent since now p less done failures = let none = no_tries p done failures in inl (inl (omega (arith, none, less)))

-- A FAULT OF A PART
-- is one of the device
rose_in : (l x y u v : ℕ) → y ≤ v → (x < u) ⊎ ((l ≤ x) × (x ≤ u)) → (min (x + y) l < min (u + v) l) ⊎ ((l ≤ min (x + y) l) × (min (x + y) l ≤ min (u + v) l))
rose_in l x y u v more (inl rose) = elim (leb_tells l (x + y)) [
  | inl full ↦ let end = full.1 in inr (omega (arith, end), omega (arith, rose, more))
  | inr less ↦ let few = less.1 in inl (omega (arith, few, rose, more))
]
rose_in l x y u v more (inr (full, up)) = inr (omega (arith, full), omega (arith, full, up, more))

turned_sum : (l a b u v : ℕ) → (min (b + a) l < min (v + u) l) ⊎ ((l ≤ min (b + a) l) × (min (b + a) l ≤ min (v + u) l)) → (min (a + b) l < min (u + v) l) ⊎ ((l ≤ min (a + b) l) × (min (a + b) l ≤ min (u + v) l))
turned_sum l a b u v (inl rose) = inl (omega (arith, rose))
turned_sum l a b u v (inr (full, up)) = inr (omega (arith, full), omega (arith, up))

pub part_rises : (old new : DeviceTold) → old.first.faults ≤ new.first.faults → old.second.faults ≤ new.second.faults → Rose old.first.faults new.first.faults ⊎ Rose old.second.faults new.second.faults
    → Rose (faults_of old) (faults_of new)
part_rises old new first second (inl rose) = rose_in last_count old.first.faults old.second.faults new.first.faults new.second.faults second rose
part_rises old new first second (inr rose) = turned_sum last_count old.first.faults old.second.faults new.first.faults new.second.faults (rose_in last_count old.second.faults old.first.faults new.second.faults new.first.faults first rose)

same_open : (a b : device.Job) → Open a ≡ Open b → a ≡ b
same_open a b is = cc is

at_by : (c : Configuration) (j : Job) (p : Program) (t : Bool) (d : DeviceTold) → IfElse t (IsAt c j p d.stand) (is_open d.stand ≡ false) → t ≡ true → IsAt c j p d.stand
at_by c j p true d at on = at
at_by c j p false d closed on = cc

-- A CALL OF THE DEVICE
module _ (c : Configuration) (since : ℕ) (urgent : Bool) (old : DeviceTold) (clock : Clock) (new : DeviceTold) (clock_new : Clock) (ops : old.ops ≤ new.ops) (grows : faults_of old ≤ faults_of new)
    (worn : (k n : ℕ) (b : Bool) → k ≤ old.ops → clock.worn k n b → clock_new.worn k n b) where
  pub since_stays : (hand : Option HandState) → OwesSince urgent since hand old clock → OwesSince urgent since hand new clock_new
  since_stays None (less, owes) = (omega (arith, less, grows), tt)
  since_stays (Some h) (less, owes) = (
    omega (arith, less, grows),
    since_of c clock_new.worn urgent since (counted_of new) h.program
        (tries_stay every_block c clock.worn clock_new.worn urgent (counted_since since) (counted_of old) (counted_of new) [] ops grows worn (none_told old.ops) h.program
        (over_none c clock.worn urgent since (counted_of old) h.program owes)),
  )

  -- the operation of the job in hand ends
  module _ (s : State) (h : HandState) (is : IsInHand c s h old) (rank : (rank_of c is.job).immediate ≡ urgent) (on : h.started ≡ true) (p : Part) (works : Works p old new clock_new) (job : device.Job) (r : JobResult) (given : List ℕ)
      (was : old.stand ≡ Open job) (ends : EndsAs job.mark job.number r given old new) (fails : r ≡ JobFailed → MayFail p job old new clock_new) where
    at : IsAt c is.job h.program old.stand
    at = at_by c is.job h.program h.started old is.at on

    asked : job ≡ job_for c is.job h.program at.index
    asked = same_open job (job_for c is.job h.program at.index) (sym was ∙ at.stands)

    writes : job.mark ≢ None → h.program.kind ≢ ReadJob
    writes some reads =
        let kind : h.program.kind ≡ kind_of is.job = ap (λ (q : Program). q.kind) is.working.is in
        some (ap (λ (j : device.Job). j.mark) asked ∙ ap (λ (k : JobKind). mark_by k is.job.content) (sym kind ∙ reads))

    cause : is_failed (outcome_by job.mark r) ≡ true → Rose (faults_of old) (faults_of new) ⊎ IsWornOut clock_new.worn urgent new.ops h.program at.index
    cause failed = elim (fails (failed_job job.mark job.number r given old new ends failed)) [
      | inl rose ↦ inl (rose_of p old new clock_new works rose)
      | inr out ↦ inr (
        writes out.0,
        (
          new.ops,
          omega arith,
          subst (λ (b : Bool). clock_new.worn new.ops (number_of (record { block = h.program.block; index = at.index })) b) (ap (λ (j : device.Job). j.urgent) asked ∙ rank)
              (subst (λ (n : ℕ). clock_new.worn new.ops n job.urgent) (ap (λ (j : device.Job). j.number) asked) out.1),
        ),
      )
    ]

    pub since_goes_on : OwesSince urgent since (Some h) old clock → OwesSince urgent since (Some (ended (outcome_by job.mark r) h)) new clock_new
    since_goes_on (less, owes) = (
      omega (arith, less, grows),
      since_of c clock_new.worn urgent since (counted_of new) (program.after h.program (outcome_by job.mark r))
          (tries_go_on every_block c clock.worn clock_new.worn urgent (counted_since since) (counted_of old) (counted_of new) [] ops grows worn (none_told old.ops) h.program (outcome_by job.mark r) at.index at.next
          (after_is h.program (outcome_by job.mark r) at.index at.next (some_outcome job.mark r)) is.working.tries cause (over_none c clock.worn urgent since (counted_of old) h.program owes)),
    )
