-- The block of each job is configured, and so is each member that is still to come.
use Rattle.std.specs.Prelude.{option_to_list}
use Rattle.std.specs.List.{enumerate_from}
use Rattle.std.proofs.Common.{◌≡◌, ℕ, ◌+◌, ◌<◌, ◌≤◌, Bool, true, false, List, [], ◌∷◌, ◌++◌, drop, length, map, filter, refl, sym, ap, subst, inl, inr, arith, append_assoc, Option, Some, None, IfSome, option_map, is_some}
use Rattle.std.proofs.lemmas.Bool.{cases_Bool}
use Rattle.block_machine.specs.block_config.Rules.{IsLegalConfig}
use Rattle.block_machine.specs.Words.{ReqResult, Instance, Mark, Request, CancelWriteAll, SetIndex, SetProtection, SetLock, SetRam, PutRam, ReadAll, WriteAll, Reply, Accepted, Refused, StatusIs, IndexIs, JobKind, Taken, Entry, Ask, Pick, Wrote, Post, Off, Found, Configuration}
use Rattle.block_machine.specs.State.{State, Job, Sweep, jobs_of}
use Rattle.block_machine.specs.Blocks.{job_kind, job_block}
use Rattle.block_machine.specs.Sweeps.{members_of, ids_where, after_member}
use Rattle.block_machine.specs.Reply.{reply_of}
use Rattle.block_machine.specs.Next.{Next, Nothing, PickJob, BeginSweep, PickMember, PostMember, EndSweep, next_in, next_of}
use Rattle.block_machine.specs.StartUp.{at_first}
use Rattle.block_machine.specs.Steps.{step, after, changed, accepted_by, asked, job_at, picked, wrote, posted, posted_next}
use Rattle.block_machine.specs.Legal.{MayPick, MayWrite, MayPost, MayPostNext, IsAllowed}
use Rattle.block_laws.specs.Consistent.{Each}
use Rattle.block_laws.specs.Laws.{JobsAreConfigured}
use Rattle.block_laws.proofs.Along.{kept_along}
use Rattle.block_laws.proofs.JobLists.{each_more, each_push, each_parts, each_waits, waiting_of}
use Rattle.block_laws.proofs.JobBlocks.{one_of}
use Rattle.block_laws.proofs.NextLaws.{next_is_waiting}
use Rattle.block_laws.proofs.NextFacts.{job_in, next_job_by}
use Rattle.block_laws.proofs.ConsistentSteps.{idle, left_of, member_block}
use Rattle.block_laws.proofs.PendingJobs.{free_block}

abbrev IsThere : Configuration → ℕ → Type 0
IsThere c id = id ≤ length c.blocks

abbrev IsOn : Configuration → Job → Type 0
IsOn c j = IsThere c (job_block j)

abbrev AreLeft : Configuration → Sweep → Type 0
AreLeft c sw = Each (IsThere c) sw.left

record ArePlaced (c : Configuration) (s : State) : Type 0 where
  jobs : Each (IsOn c) (jobs_of s)
  sweep : IfSome s.sweep (AreLeft c)

-- MEMBERS

ids_below : {X : Type 0} (n : ℕ) (test : X → Bool) (xs : List X) → Each (λ id. id < n + length xs) (map (λ (x : ℕ × X). x.0) (filter (λ (x : ℕ × X). test x.1) (enumerate_from n xs)))
ids_below n test [] = tt
ids_below n test (x ∷ xs) =
    let rest = each_more (λ id. id < n + 1 + length xs) (λ id. id < n + length (x ∷ xs)) (map (λ (x : ℕ × _). x.0) (filter (λ (x : ℕ × _). test x.1) (enumerate_from (n + 1) xs))) (λ id low. omega (arith, low)) (ids_below (n + 1) test xs) in
    elim (cases_Bool (test x)) [
      | inl on ↦ rw on (omega arith, rest)
      | inr off ↦ rw off rest
    ]

dropped : {X : Type 0} (xs : List X) → 1 ≤ length xs → 2 + length (drop 1 xs) ≡ length xs + 1
dropped [] some = absurd (omega (arith, some))
dropped (x ∷ xs) some = omega arith

members_there : (c : Configuration) (writes : Bool) → IsLegalConfig c → Each (IsThere c) (members_of c writes)
members_there c true legal =
    let low = legal.blocks_low in
    let size = dropped c.blocks (omega (arith, low)) in
    each_push (IsThere c) (ids_where (λ d. d.writeall) c) 1 (each_more (λ id. id < 2 + length (drop 1 c.blocks)) (IsThere c) (ids_where (λ d. d.writeall) c) (λ id less. omega (arith, less, size)) (ids_below 2 (λ d. d.writeall) (drop 1 c.blocks))) (omega (arith, low))
members_there c false legal =
    let low = legal.blocks_low in
    let size = dropped c.blocks (omega (arith, low)) in
    (omega (arith, low), each_more (λ id. id < 2 + length (drop 1 c.blocks)) (IsThere c) (ids_where (λ d. d.readall) c) (λ id less. omega (arith, less, size)) (ids_below 2 (λ d. d.readall) (drop 1 c.blocks)))

-- ASK

canceled : (c : Configuration) (o : Option Sweep) → IfSome o (AreLeft c) → IfSome (option_map {T = Sweep} (λ sw. record sw { canceled = true }) o) (AreLeft c)
canceled c None left = tt
canceled c (Some sw) left = left

changed_placed : (c : Configuration) (s : State) (r : Request) (m : ℕ) → IsLegalConfig c → ArePlaced c s → ArePlaced c (record (changed c s r) { count = s.count + 1; ops = m })
changed_placed c s (SetIndex block index) m legal p = record { jobs = p.jobs; sweep = p.sweep }
changed_placed c s (SetProtection block to) m legal p = record { jobs = p.jobs; sweep = p.sweep }
changed_placed c s (SetLock block to) m legal p = record { jobs = p.jobs; sweep = p.sweep }
changed_placed c s (SetRam block to) m legal p = record { jobs = p.jobs; sweep = p.sweep }
changed_placed c s (PutRam block content) m legal p = record { jobs = p.jobs; sweep = p.sweep }
changed_placed c s ReadAll m legal p = record { jobs = p.jobs; sweep = members_there c false legal }
changed_placed c s WriteAll m legal p = record { jobs = p.jobs; sweep = members_there c true legal }
changed_placed c s CancelWriteAll m legal p = record { jobs = p.jobs; sweep = canceled c s.sweep p.sweep }
changed_placed c s r m legal p = record { jobs = p.jobs; sweep = p.sweep }

accepted_placed : (c : Configuration) (cap : ℕ) (s : State) (r : Request) (kind : Option JobKind) (m : ℕ) → job_kind r ≡ kind → IsLegalConfig c → reply_of c cap s r ≡ Accepted → ArePlaced c s → ArePlaced c (record (accepted_by c s r kind) { count = s.count + 1; ops = m })
accepted_placed c cap s r None m is legal reply p = changed_placed c s r m legal p
accepted_placed c cap s r (Some kind) m is legal reply p =
    let there = (free_block c cap s r (ap (λ (o : Option JobKind). is_some o) is) reply).0 in
    record { jobs = subst (Each (IsOn c)) (append_assoc (option_to_list s.hand) s.waiting (job_at c s.count r ∷ [])) (each_push (IsOn c) (jobs_of s) (job_at c s.count r) p.jobs (omega (arith, there))); sweep = p.sweep }

asked_placed : (c : Configuration) (cap : ℕ) (s : State) (r : Request) (reply : Reply) (m : ℕ) → IsLegalConfig c → reply ≡ reply_of c cap s r → ArePlaced c s → ArePlaced c (record (asked c s r reply) { count = s.count + 1; ops = m })
asked_placed c cap s r Accepted m legal is p = accepted_placed c cap s r (job_kind r) m refl legal (sym is) p
asked_placed c cap s r (Refused x) m legal is p = record { jobs = p.jobs; sweep = p.sweep }
asked_placed c cap s r (StatusIs x) m legal is p = record { jobs = p.jobs; sweep = p.sweep }
asked_placed c cap s r (IndexIs x) m legal is p = record { jobs = p.jobs; sweep = p.sweep }

-- PICK

its_left : (c : Configuration) (s : State) (sw : Sweep) → s.sweep ≡ Some sw → ArePlaced c s → AreLeft c sw
its_left c s sw is p = subst (λ (o : Option Sweep). IfSome o (AreLeft c)) is p.sweep

each_rest : (P : ℕ → Type 0) (ids : List ℕ) → Each P ids → Each P (drop 1 ids)
each_rest P [] each = tt
each_rest P (id ∷ ids) each = each.1

picked_placed : (c : Configuration) (s : State) (block : ℕ) (kind : JobKind) (t : Taken) (m : ℕ) (n : Next) → next_of c s ≡ n → MayPick c s block kind t n → ArePlaced c s → ArePlaced c (record (picked c s t n) { count = s.count + 1; ops = m })
picked_placed c s block kind t m (PickJob j) is may p =
    let (before, more, at) = next_is_waiting c s.waiting j (next_job_by c s (next_in c s.waiting) s.hand s.sweep j (ap job_in is)) in
    let own = (each_parts (IsOn c) before j more (subst (Each (IsOn c)) at (waiting_of (IsOn c) s.hand s.waiting p.jobs))).0 in
    record { jobs = (own, each_waits (IsOn c) (λ x on. on) j.number s.hand s.waiting p.jobs); sweep = p.sweep }
picked_placed c s block kind t m (PickMember sw id) is may p =
    let at = idle c s sw (PickMember sw id) is refl in
    let (rest, left) = left_of c s sw id (PickMember sw id) is at.some refl in
    let all : Each (IsThere c) (id ∷ rest) = subst (Each (IsThere c)) left (its_left c s sw at.some p) in
    record { jobs = (subst (IsThere c) (sym (member_block sw.writes id)) all.0, each_waits (IsOn c) (λ x on. on) sw.number s.hand s.waiting p.jobs); sweep = each_rest (IsThere c) sw.left (its_left c s sw at.some p) }
picked_placed c s block kind t m (BeginSweep sw) is may p = record { jobs = p.jobs; sweep = its_left c s sw (idle c s sw (BeginSweep sw) is refl).some p }
picked_placed c s block kind t m (PostMember sw id) is may p = absurd may
picked_placed c s block kind t m (EndSweep sw) is may p = absurd may
picked_placed c s block kind t m Nothing is may p = absurd may

-- WROTE AND POST

in_hand_on : (c : Configuration) (s : State) (j : Job) → s.hand ≡ Some j → ArePlaced c s → Each (IsOn c) (j ∷ s.waiting)
in_hand_on c s j is p = subst (λ (o : Option Job). Each (IsOn c) (option_to_list o ++ s.waiting)) is p.jobs

wrote_placed : (c : Configuration) (s : State) (i : Instance) (mark : Mark) (m : ℕ) (o : Option Job) → s.hand ≡ o → MayWrite c s i mark o → ArePlaced c s → ArePlaced c (record (wrote s i mark o) { count = s.count + 1; ops = m })
wrote_placed c s i mark m None is may p = absurd may
wrote_placed c s i mark m (Some j) is may p = let jobs = in_hand_on c s j is p in record { jobs = (jobs.0, jobs.1); sweep = p.sweep }

left_after : (c : Configuration) (id : ℕ) (r : ReqResult) (sw : Sweep) (b : Bool) → sw.under_way ≡ b → AreLeft c sw → AreLeft c (after_member id r sw)
left_after c id r sw true is left = rw is left
left_after c id r sw false is left = rw is left

sweep_after : (c : Configuration) (id : ℕ) (r : ReqResult) (o : Option Sweep) → IfSome o (AreLeft c) → IfSome (option_map (after_member id r) o) (AreLeft c)
sweep_after c id r None left = tt
sweep_after c id r (Some sw) left = left_after c id r sw sw.under_way refl left

next_placed : (c : Configuration) (s : State) (block : ℕ) (r : ReqResult) (given : Option (List ℕ)) (refused m : ℕ) (n : Next) → next_of c s ≡ n → MayPostNext c s block (r, given) refused n → ArePlaced c s → ArePlaced c (record (posted_next c s r given n) { count = s.count + 1; ops = m })
next_placed c s block r given refused m (PostMember sw id) is may p =
    let left = its_left c s sw (idle c s sw (PostMember sw id) is refl).some p in
    record { jobs = p.jobs; sweep = left_after c id r (record sw { left = drop 1 sw.left }) sw.under_way refl (each_rest (IsThere c) sw.left left) }
next_placed c s block r given refused m (EndSweep sw) is may p = record { jobs = p.jobs; sweep = tt }
next_placed c s block r given refused m (PickJob j) is may p = absurd may
next_placed c s block r given refused m (PickMember sw id) is may p = absurd may
next_placed c s block r given refused m (BeginSweep sw) is may p = absurd may
next_placed c s block r given refused m Nothing is may p = absurd may

posted_placed : (c : Configuration) (s : State) (block : ℕ) (r : ReqResult) (given : Option (List ℕ)) (refused m : ℕ) (o : Option Job) → s.hand ≡ o → MayPost c s block (r, given) refused o → ArePlaced c s → ArePlaced c (record (posted c s r given o) { count = s.count + 1; ops = m })
posted_placed c s block r given refused m None is may p = next_placed c s block r given refused m (next_of c s) refl may p
posted_placed c s block r given refused m (Some j) is may p = record { jobs = (in_hand_on c s j is p).1; sweep = sweep_after c (job_block j) r s.sweep p.sweep }

-- ALONG A HISTORY

step_placed : (c : Configuration) (cap : ℕ) (s : State) (e : Entry) → IsLegalConfig c → IsAllowed c cap s e → ArePlaced c s → ArePlaced c (step c s e)
step_placed c cap s (Ask caller r reply) legal allowed p = asked_placed c cap s r reply s.ops legal allowed.replies p
step_placed c cap s (Pick block kind t ops) legal allowed p = picked_placed c s block kind t ops (next_of c s) refl allowed.1 p
step_placed c cap s (Wrote i mark ops) legal allowed p = wrote_placed c s i mark ops s.hand refl allowed.1 p
step_placed c cap s (Post block r given refused ops) legal allowed p = posted_placed c s block r given refused ops s.hand refl allowed.1 p
step_placed c cap s (Off ops) legal allowed p = record { jobs = p.jobs; sweep = p.sweep }
step_placed c cap s (Found marks ops) legal allowed p = record { jobs = tt; sweep = tt }

pub jobs_are_configured : JobsAreConfigured
jobs_are_configured c cap h j config legal has =
    one_of (IsOn c) (jobs_of (after c h)) j (kept_along c cap (ArePlaced c) (λ s e allowed p. step_placed c cap s e config allowed p) at_first h legal (record { jobs = tt; sweep = tt })).jobs has
