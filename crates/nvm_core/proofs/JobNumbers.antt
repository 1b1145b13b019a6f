-- The numbers and the blocks of the pending jobs, entry by entry.
use Rattle.std.specs.Prelude.{IfSome, if◌then◌else◌}
use Rattle.std.specs.Option.{option_map}
use Rattle.std.proofs.Common.{◌≡◌, ℕ, ◌+◌, ◌<◌, Bool, true, false, List, [], ◌∷◌, Option, Some, None, refl, sym, ap, subst, arith}
use Rattle.nvm_laws.specs.block_machine.Words.{ReqResult, Instance, Mark, Request, Write, SetIndex, SetProtection, SetLock, SetRam, PutRam, ReadAll, WriteAll, CancelWriteAll, Reply, Accepted, JobKind, Taken, Entry, Ask, Pick, Wrote, Post, Off, Found, Configuration}
use Rattle.nvm_laws.specs.block_machine.State.{State, Job, Sweep}
use Rattle.nvm_laws.specs.block_machine.Blocks.{asked_block, job_block, job_kind}
use Rattle.nvm_laws.specs.block_machine.Sweeps.{after_member}
use Rattle.nvm_laws.specs.block_machine.Next.{Next, Nothing, PickJob, BeginSweep, PickMember, PostMember, EndSweep, next_in, next_of}
use Rattle.nvm_laws.specs.block_machine.StartUp.{at_first}
use Rattle.nvm_laws.specs.block_machine.Steps.{step, after, after_from, changed, accepted_by, asked, interrupted, picked, wrote, posted, posted_next, without_job, changed_by}
use Rattle.nvm_laws.specs.block_laws.Consistent.{Each}
use Rattle.nvm_laws.proofs.block_laws.JobLists.{each_more, each_parts, each_push, each_without}
use Rattle.nvm_laws.proofs.block_laws.NextFacts.{job_in, sweep_in, next_job_by, next_sweep_by}
use Rattle.nvm_laws.proofs.block_laws.NextLaws.{next_is_waiting}
use Rattle.nvm_laws.specs.promise_blocks.Moves.{entry_list}
use Rattle.nvm_core.specs.JobNumbers.{AreAll, IsOfBlock}

-- ANY FACT
module _ (T : ℕ → ℕ → Type 0) where
  abbrev Fits : Job → Type 0
  Fits j = T j.number (job_block j)

  abbrev Sweeps : Sweep → Type 0
  Sweeps sw = (id : ℕ) → T sw.number id

  -- A REQUEST
  canceled : (o : Option Sweep) → IfSome o Sweeps → IfSome (option_map {T = Sweep} (λ sw. record sw { canceled = true }) o) Sweeps
  canceled None all = tt
  canceled (Some sw) all = all

  changed_all : (c : Configuration) (s : State) (r : Request) → AreAll T s → ((id : ℕ) → T s.count id) → AreAll T (changed c s r)
  changed_all c s (SetIndex block index) all new = record { waiting = all.waiting; hand = all.hand; sweep = all.sweep }
  changed_all c s (SetProtection block on) all new = record { waiting = all.waiting; hand = all.hand; sweep = all.sweep }
  changed_all c s (SetLock block on) all new = record { waiting = all.waiting; hand = all.hand; sweep = all.sweep }
  changed_all c s (SetRam block on) all new = record { waiting = all.waiting; hand = all.hand; sweep = all.sweep }
  changed_all c s (PutRam block content) all new = record { waiting = all.waiting; hand = all.hand; sweep = all.sweep }
  changed_all c s ReadAll all new = record { waiting = all.waiting; hand = all.hand; sweep = new }
  changed_all c s WriteAll all new = record { waiting = all.waiting; hand = all.hand; sweep = new }
  changed_all c s CancelWriteAll all new = record { waiting = all.waiting; hand = all.hand; sweep = canceled s.sweep all.sweep }
  changed_all c s r all new = all

  accepted_all : (c : Configuration) (s : State) (r : Request) (kind : Option JobKind) → AreAll T s → ((id : ℕ) → T s.count id) → AreAll T (accepted_by c s r kind)
  accepted_all c s r (Some kind) all new = record { waiting = each_push Fits s.waiting _ all.waiting (new (asked_block r)); hand = all.hand; sweep = all.sweep }
  accepted_all c s r None all new = changed_all c s r all new

  asked_all : (c : Configuration) (s : State) (r : Request) (reply : Reply) → AreAll T s → ((id : ℕ) → T s.count id) → AreAll T (asked c s r reply)
  asked_all c s r Accepted all new = accepted_all c s r (job_kind r) all new
  asked_all c s r reply all new = all

  -- A PICK
  back : (o : Option Job) (jobs : List Job) → IfSome o Fits → Each Fits jobs → Each Fits (interrupted o jobs)
  back None jobs hand all = all
  back (Some h) jobs hand all = (hand, all)

  taken : (c : Configuration) (s : State) (j : Job) → next_of c s ≡ PickJob j → AreAll T s → Fits j
  taken c s j is all =
      let (before, behind, at) = next_is_waiting c s.waiting j (next_job_by c s (next_in c s.waiting) s.hand s.sweep j (ap job_in is)) in
      (each_parts Fits before j behind (subst (Each Fits) at all.waiting)).0

  going_on : (c : Configuration) (s : State) (sw : Sweep) → sweep_in (next_of c s) ≡ Some sw → AreAll T s → Sweeps sw
  going_on c s sw is all = subst (λ (o : Option Sweep). IfSome o Sweeps) (next_sweep_by c s (next_in c s.waiting) s.hand s.sweep sw is).2 all.sweep

  picked_all : (c : Configuration) (s : State) (t : Taken) (n : Next) → next_of c s ≡ n → AreAll T s → AreAll T (picked c s t n)
  picked_all c s t (PickJob j) is all = record {
    waiting = back s.hand (without_job j.number s.waiting) all.hand (each_without Fits j.number s.waiting all.waiting);
    hand = taken c s j is all;
    sweep = all.sweep;
  }
  picked_all c s t (BeginSweep sw) is all = record { waiting = all.waiting; hand = all.hand; sweep = going_on c s sw (ap sweep_in is) all }
  picked_all c s t (PickMember sw id) is all =
      let own = going_on c s sw (ap sweep_in is) all in record {
        waiting = back s.hand (without_job sw.number s.waiting) all.hand (each_without Fits sw.number s.waiting all.waiting);
        hand = own _;
        sweep = own;
      }
  picked_all c s t (PostMember sw id) is all = all
  picked_all c s t (EndSweep sw) is all = all
  picked_all c s t Nothing is all = all

  -- A WROTE AND A POST
  wrote_all : (s : State) (i : Instance) (mark : Mark) (o : Option Job) → IfSome o Fits → AreAll T s → AreAll T (wrote s i mark o)
  wrote_all s i mark None hand all = all
  wrote_all s i mark (Some j) hand all = record { waiting = all.waiting; hand = hand; sweep = all.sweep }

  same_number : (t : Bool) (x y : Sweep) → x.number ≡ y.number → (if t then x else y).number ≡ y.number
  same_number true x y same = same
  same_number false x y same = refl

  member_sweeps : (id : ℕ) (r : ReqResult) (sw : Sweep) → Sweeps sw → Sweeps (after_member id r sw)
  member_sweeps id r sw own = subst (λ (n : ℕ). (block : ℕ) → T n block) (sym (same_number sw.under_way _ sw refl)) own

  members : (id : ℕ) (r : ReqResult) (o : Option Sweep) → IfSome o Sweeps → IfSome (option_map (after_member id r) o) Sweeps
  members id r None all = tt
  members id r (Some sw) all = member_sweeps id r sw all

  next_all : (c : Configuration) (s : State) (r : ReqResult) (given : Option (List ℕ)) (n : Next) → next_of c s ≡ n → AreAll T s → AreAll T (posted_next c s r given n)
  next_all c s r given (PostMember sw id) is all = record { waiting = all.waiting; hand = all.hand; sweep = member_sweeps id r _ (going_on c s sw (ap sweep_in is) all) }
  next_all c s r given (EndSweep sw) is all = record { waiting = all.waiting; hand = all.hand; sweep = tt }
  next_all c s r given (PickJob j) is all = all
  next_all c s r given (BeginSweep sw) is all = all
  next_all c s r given (PickMember sw id) is all = all
  next_all c s r given Nothing is all = all

  posted_all : (c : Configuration) (s : State) (r : ReqResult) (given : Option (List ℕ)) (o : Option Job) → AreAll T s → AreAll T (posted c s r given o)
  posted_all c s r given (Some j) all = record { waiting = all.waiting; hand = tt; sweep = members (job_block j) r s.sweep all.sweep }
  posted_all c s r given None all = next_all c s r given (next_of c s) refl all

  -- ANY ENTRY
  by_entry : (c : Configuration) (s : State) (e : Entry) → AreAll T s → ((id : ℕ) → T s.count id) → AreAll T (changed_by c s e)
  by_entry c s (Ask caller r reply) all new = asked_all c s r reply all new
  by_entry c s (Pick block kind t ops) all new = picked_all c s t (next_of c s) refl all
  by_entry c s (Wrote i mark ops) all new = wrote_all s i mark s.hand all.hand all
  by_entry c s (Post block r given refused ops) all new = posted_all c s r given s.hand all
  by_entry c s (Off ops) all new = record { waiting = all.waiting; hand = all.hand; sweep = all.sweep }
  by_entry c s (Found marks ops) all new = record { waiting = tt; hand = tt; sweep = tt }

  pub step_all : (c : Configuration) (s : State) (e : Entry) → AreAll T s → ((id : ℕ) → T s.count id) → AreAll T (step c s e)
  step_all c s e all new = let by = by_entry c s e all new in record { waiting = by.waiting; hand = by.hand; sweep = by.sweep }

-- another fact of all
some_by : {X : Type 0} (P Q : X → Type 0) (o : Option X) → ((x : X) → P x → Q x) → IfSome o P → IfSome o Q
some_by P Q None from has = tt
some_by P Q (Some x) from has = from x has

all_by : (T U : ℕ → ℕ → Type 0) (s : State) → ((n id : ℕ) → T n id → U n id) → AreAll T s → AreAll U s
all_by T U s from all = record {
  waiting = each_more (λ j. T j.number (job_block j)) (λ j. U j.number (job_block j)) s.waiting (λ j. from j.number (job_block j)) all.waiting;
  hand = some_by (λ (j : Job). T j.number (job_block j)) (λ (j : Job). U j.number (job_block j)) s.hand (λ j. from j.number (job_block j)) all.hand;
  sweep = some_by (λ (sw : Sweep). (id : ℕ) → T sw.number id) (λ (sw : Sweep). (id : ℕ) → U sw.number id) s.sweep (λ sw own id. from sw.number id (own id)) all.sweep;
}

-- EARLIER ENTRIES ACCEPTED THEM
abbrev IsBelow : State → Type 0
IsBelow s = AreAll (λ n id. n < s.count) s

below_step : (c : Configuration) (s : State) (e : Entry) → IsBelow s → IsBelow (step c s e)
below_step c s e below = step_all (λ n id. n < s.count + 1) c s e (all_by (λ n id. n < s.count) (λ n id. n < s.count + 1) s (λ n id less. omega (arith, less)) below) (λ id. omega arith)

below_from : (c : Configuration) (s : State) (es : List Entry) → IsBelow s → IsBelow (after_from c s es)
below_from c s [] below = below
below_from c s (e ∷ es) below = below_from c (step c s e) es (below_step c s e below)

pub jobs_below : (c : Configuration) (h : List Entry) → IsBelow (after c h)
jobs_below c h = below_from c at_first h (record { waiting = tt; hand = tt; sweep = tt })

-- OF ONE BLOCK
of_block_step : (c : Configuration) (s : State) (e : Entry) (number id : ℕ) → IsOfBlock number id s → IsOfBlock number id (step c s e)
of_block_step c s e number id of = let less = of.earlier in record {
  earlier = omega (arith, less);
  jobs = step_all (λ n block. n ≡ number → block ≡ id) c s e of.jobs (λ block same. absurd (omega (arith, less, same)));
}

-- an entry more
pub stays_of_block : (c : Configuration) (s : State) (e : Option Entry) (number id : ℕ) → IsOfBlock number id s → IsOfBlock number id (after_from c s (entry_list e))
stays_of_block c s None number id of = of
stays_of_block c s (Some e) number id of = of_block_step c s e number id of

-- the write that an entry accepts
pub accepted_of_block : (c : Configuration) (s : State) (caller block : ℕ) (content : Option (List ℕ)) (store : ℕ) → AreAll (λ n id. n < s.count) s
    → IsOfBlock s.count block (step c s (Ask caller (Write block content store) Accepted))
accepted_of_block c s caller block content store below =
    let old = all_by (λ n id. n < s.count) (λ n id. n ≡ s.count → id ≡ block) s (λ n id less same. absurd (omega (arith, less, same))) below in record {
      earlier = omega arith;
      jobs = record {
        waiting = each_push (λ j. j.number ≡ s.count → job_block j ≡ block) s.waiting _ old.waiting (λ same. refl);
        hand = old.hand;
        sweep = old.sweep;
      };
    }
