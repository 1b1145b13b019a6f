-- A PENDING block has a job that makes it so, and id 0 a request on all blocks.
use Rattle.std.specs.Prelude.{slice_set, get_or, option_to_list, IsSome}
use Rattle.std.specs.List.{enumerate_from}
use Rattle.std.proofs.Common.{◌≡◌, ◌≢◌, ℕ, zero, suc, ◌+◌, true, false, List, [], ◌∷◌, ◌++◌, map, Contains, refl, sym, ap, ◌∙◌, subst, ◌⊎◌, inl, inr, arith, Option, Some, None, option_map, is_some, if◌then◌else◌}
use Rattle.block_machine.specs.Words.{ReqResult, Pending, Instance, Mark, Request, SetIndex, SetProtection, SetLock, SetRam, PutRam, ReadAll, WriteAll, CancelWriteAll, Reply, Accepted, Refused, StatusIs, IndexIs, JobKind, Taken, Entry, Ask, Pick, Wrote, Post, Off, Found, BlockDesc, Configuration}
use Rattle.block_machine.specs.State.{State, BlockState, Job, Sweep, jobs_of}
use Rattle.block_machine.specs.Blocks.{block_at, no_block, is_pending, keeps_ram, asked_block, job_kind, job_block, kind_of, names_ram, desc_of}
use Rattle.block_machine.specs.Sweeps.{sweep_at, member_kind, after_member}
use Rattle.block_machine.specs.Next.{Next, Nothing, PickJob, BeginSweep, PickMember, PostMember, EndSweep, next_in, next_of}
use Rattle.block_machine.specs.StartUp.{at_first, started_block}
use Rattle.block_machine.specs.Steps.{step, after, changed, accepted_by, asked, picked_job, interrupted, without_job, picked, wrote, posted, posted_next, ended, job_at}
use Rattle.block_machine.specs.Legal.{MayPick, MayWrite, MayPost, MayPostNext, IsAllowed}
use Rattle.block_laws.specs.Consistent.{AreApart, IsConsistent}
use Rattle.block_laws.specs.Laws.{PendingHaveJobs}
use Rattle.block_laws.proofs.Along.{kept_along}
use Rattle.block_laws.proofs.JobLists.{apart_parts, without_split}
use Rattle.block_laws.proofs.NextLaws.{next_is_waiting}
use Rattle.block_laws.proofs.NextFacts.{job_in, next_job_by}
use Rattle.block_laws.proofs.ConsistentSteps.{IsIdle, idle, member_block, allowed_steps_stay_consistent, at_first_consistent}
use Rattle.block_laws.proofs.PostedResults.{posts_end}

-- one of these jobs is on this block
abbrev HasJob : ℕ → List Job → Type 0
HasJob id [] = ⊥
HasJob id (j ∷ js) = (job_block j ≡ id) ⊎ HasJob id js

abbrev IsOwed : Option Sweep → List Job → ℕ → Type 0
IsOwed sweep jobs id = ((id ≡ 0) × IsSome sweep) ⊎ HasJob id jobs

abbrev IsOn : List BlockState → ℕ → Type 0
IsOn bs id = is_pending (get_or bs id no_block).status ≡ true

abbrev AreOwed : State → Type 0
AreOwed s = (id : ℕ) → IsOn s.blocks id → IsOwed s.sweep (jobs_of s) id

-- LISTS OF JOBS

has_push : (id : ℕ) (jobs : List Job) (j : Job) → HasJob id jobs → HasJob id (jobs ++ j ∷ [])
has_push id [] j has = absurd has
has_push id (x ∷ jobs) j (inl own) = inl own
has_push id (x ∷ jobs) j (inr rest) = inr (has_push id jobs j rest)

has_last : (id : ℕ) (jobs : List Job) (j : Job) → job_block j ≡ id → HasJob id (jobs ++ j ∷ [])
has_last id [] j own = inl own
has_last id (x ∷ jobs) j own = inr (has_last id jobs j own)

has_split : (id : ℕ) (before : List Job) (j : Job) (more : List Job) → HasJob id (before ++ j ∷ more) → (job_block j ≡ id) ⊎ HasJob id (before ++ more)
has_split id [] j more has = has
has_split id (x ∷ before) j more (inl own) = inr (inl own)
has_split id (x ∷ before) j more (inr rest) = elim (has_split id before j more rest) [ inl own ↦ inl own | inr has ↦ inr (inr has) ]

asks_push : (id : ℕ) (o : Option Job) (waiting : List Job) (j : Job) → HasJob id (option_to_list o ++ waiting) → HasJob id (option_to_list o ++ (waiting ++ j ∷ []))
asks_push id None waiting j has = has_push id waiting j has
asks_push id (Some x) waiting j (inl own) = inl own
asks_push id (Some x) waiting j (inr has) = inr (has_push id waiting j has)

asks_last : (id : ℕ) (o : Option Job) (waiting : List Job) (j : Job) → job_block j ≡ id → HasJob id (option_to_list o ++ (waiting ++ j ∷ []))
asks_last id None waiting j own = has_last id waiting j own
asks_last id (Some x) waiting j own = inr (has_last id waiting j own)

picks_on : (id : ℕ) (o : Option Job) (t : Taken) (n : ℕ) (before : List Job) (j : Job) (more : List Job) → HasJob id (option_to_list o ++ (before ++ j ∷ more)) → HasJob id (picked_job t n j ∷ interrupted o (before ++ more))
picks_on id None t n before j more has = has_split id before j more has
picks_on id (Some x) t n before j more (inl own) = inr (inl own)
picks_on id (Some x) t n before j more (inr has) = elim (has_split id before j more has) [ inl own ↦ inl own | inr rest ↦ inr (inr rest) ]

contains : (id : ℕ) (jobs : List Job) → HasJob id jobs → (j : Job) × Contains jobs j × (job_block j ≡ id)
contains id [] has = absurd has
contains id (x ∷ jobs) (inl own) = (x, (0, omega arith, refl), own)
contains id (x ∷ jobs) (inr rest) = let (j, (k, within, is), own) = contains id jobs rest in (j, (suc k, omega arith, is), own)

-- ONE BLOCK CHANGES

-- a change that may make its block PENDING
set_on : (P : ℕ → Type 0) (bs : List BlockState) (n : ℕ) (b : BlockState) → (is_pending b.status ≡ true → P n) → ((id : ℕ) → IsOn bs id → P id) → (id : ℕ) → IsOn (slice_set bs n b) id → P id
set_on P [] n b new all id on = all id on
set_on P (x ∷ bs) zero b new all zero on = new on
set_on P (x ∷ bs) zero b new all (suc id) on = all (suc id) on
set_on P (x ∷ bs) (suc n) b new all zero on = all zero on
set_on P (x ∷ bs) (suc n) b new all (suc id) on = set_on (λ k. P (suc k)) bs n b new (λ k. all (suc k)) id on

-- and one behind which it isn't
set_off : (P : ℕ → Type 0) (bs : List BlockState) (n : ℕ) (b : BlockState) → is_pending b.status ≡ false → ((id : ℕ) → id ≢ n → IsOn bs id → P id) → (id : ℕ) → IsOn (slice_set bs n b) id → P id
set_off P [] n b off all id on = cc
set_off P (x ∷ bs) zero b off all zero on = cc
set_off P (x ∷ bs) zero b off all (suc id) on = all (suc id) (λ e. omega (arith, e)) on
set_off P (x ∷ bs) (suc n) b off all zero on = all zero (λ e. omega (arith, e)) on
set_off P (x ∷ bs) (suc n) b off all (suc id) on = set_off (λ k. P (suc k)) bs n b off (λ k apart. all (suc k) (λ e. apart (omega (arith, e)))) id on

-- ASK

keep_status : (c : Configuration) (s : State) (id : ℕ) (b : BlockState) → b.status ≡ (block_at s id).status → AreOwed s → (k : ℕ) → IsOn (slice_set s.blocks id b) k → IsOwed s.sweep (jobs_of s) k
keep_status c s id b same owed k on = set_on (IsOwed s.sweep (jobs_of s)) s.blocks id b (λ new. owed id (ap is_pending (sym same) ∙ new)) owed k on

sweep_on : (s : State) (sw : Sweep) → AreOwed s → (k : ℕ) → IsOn (slice_set s.blocks 0 (record (block_at s 0) { status = Pending })) k → IsOwed (Some sw) (jobs_of s) k
sweep_on s sw owed k on = set_on (IsOwed (Some sw) (jobs_of s)) s.blocks 0 (record (block_at s 0) { status = Pending }) (λ new. inl (refl, refl))
    (λ id was. elim (owed id was) [ inl (zeroth, some) ↦ inl (zeroth, refl) | inr has ↦ inr has ]) k on

some_still : (f : Sweep → Sweep) (o : Option Sweep) → IsSome o → IsSome (option_map f o)
some_still f None some = cc
some_still f (Some sw) some = refl

changed_owed : (c : Configuration) (s : State) (r : Request) (m : ℕ) → AreOwed s → AreOwed (record (changed c s r) { count = s.count + 1; ops = m })
changed_owed c s (SetIndex block index) m owed = keep_status c s block (record (block_at s block) { index = index }) refl owed
changed_owed c s (SetProtection block to) m owed = keep_status c s block (record (block_at s block) { protected = to }) refl owed
changed_owed c s (SetLock block to) m owed = keep_status c s block (record (block_at s block) { locked = to }) refl owed
changed_owed c s (SetRam block to) m owed = keep_status c s block (record (block_at s block) { valid = to; changed = to }) refl owed
changed_owed c s (PutRam block content) m owed = keep_status c s block (record (block_at s block) { ram = content }) refl owed
changed_owed c s ReadAll m owed = sweep_on s (sweep_at c s.count false) owed
changed_owed c s WriteAll m owed = sweep_on s (sweep_at c s.count true) owed
changed_owed c s CancelWriteAll m owed = λ id on. elim (owed id on) [ inl (zeroth, some) ↦ inl (zeroth, some_still (λ sw. record sw { canceled = true }) s.sweep some) | inr has ↦ inr has ]
changed_owed c s r m owed = owed

accepted_owed : (c : Configuration) (s : State) (r : Request) (kind : Option JobKind) (m : ℕ) → AreOwed s → AreOwed (record (accepted_by c s r kind) { count = s.count + 1; ops = m })
accepted_owed c s r None m owed = changed_owed c s r m owed
accepted_owed c s r (Some kind) m owed =
    let j = job_at c s.count r in
    set_on (IsOwed s.sweep (option_to_list s.hand ++ (s.waiting ++ j ∷ []))) s.blocks (asked_block r) (record (block_at s (asked_block r)) { status = Pending })
    (λ new. inr (asks_last (asked_block r) s.hand s.waiting j refl)) (λ id on. elim (owed id on) [ inl sweep ↦ inl sweep | inr has ↦ inr (asks_push id s.hand s.waiting j has) ])

asked_owed : (c : Configuration) (s : State) (r : Request) (reply : Reply) (m : ℕ) → AreOwed s → AreOwed (record (asked c s r reply) { count = s.count + 1; ops = m })
asked_owed c s r Accepted m owed = accepted_owed c s r (job_kind r) m owed
asked_owed c s r (Refused x) m owed = owed
asked_owed c s r (StatusIs x) m owed = owed
asked_owed c s r (IndexIs x) m owed = owed

-- PICK

job_owed : (c : Configuration) (s : State) (j : Job) (t : Taken) (n : ℕ) → next_in c s.waiting ≡ Some j → AreApart s.waiting → AreOwed s → (id : ℕ) → IsOn s.blocks id → IsOwed s.sweep (picked_job t n j ∷ interrupted s.hand (without_job j.number s.waiting)) id
job_owed c s j t n next apart owed id on =
    let (before, more, is) = next_is_waiting c s.waiting j next in
    let without : without_job j.number s.waiting ≡ before ++ more = ap (without_job j.number) is ∙ without_split before j more (apart_parts before j more (subst AreApart is apart)).0 in
    elim (owed id on) [
      | inl sweep ↦ inl sweep
      | inr has ↦ inr (rw without (picks_on id s.hand t n before j more (subst (λ (w : List Job). HasJob id (option_to_list s.hand ++ w)) is has)))
    ]

none_on : (c : Configuration) (s : State) (sw : Sweep) (id : ℕ) → IsIdle c s sw → HasJob id (jobs_of s) → ⊥
none_on c s sw id at has =
    let one : HasJob id (option_to_list s.hand ++ []) = subst (λ (w : List Job). HasJob id (option_to_list s.hand ++ w)) at.waiting has in
    subst (λ (o : Option Job). HasJob id (option_to_list o ++ [])) at.hand one

picked_owed : (c : Configuration) (s : State) (block : ℕ) (kind : JobKind) (t : Taken) (m : ℕ) (n : Next) → next_of c s ≡ n → MayPick c s block kind t n → IsConsistent c s → AreOwed s → AreOwed (record (picked c s t n) { count = s.count + 1; ops = m })
picked_owed c s block kind t m (PickJob j) is may h owed = job_owed c s j t (if is_some s.hand then 2 else 0) (next_job_by c s (next_in c s.waiting) s.hand s.sweep j (ap job_in is)) h.apart owed
picked_owed c s block kind t m (PickMember sw id) is may h owed =
    let at = idle c s sw (PickMember sw id) is refl in
    set_on (λ k. IsOwed (record (picked c s t (PickMember sw id)) { count = s.count + 1; ops = m }).sweep (jobs_of (picked c s t (PickMember sw id))) k) s.blocks id (record (block_at s id) { status = Pending })
    (λ new. inr (inl (member_block sw.writes id))) (λ k on. elim (owed k on) [ inl (zeroth, some) ↦ inl (zeroth, refl) | inr has ↦ absurd (none_on c s sw k at has) ])
picked_owed c s block kind t m (BeginSweep sw) is may h owed = λ id on. elim (owed id on) [ inl (zeroth, some) ↦ inl (zeroth, refl) | inr has ↦ inr has ]
picked_owed c s block kind t m (PostMember sw id) is may h owed = absurd may
picked_owed c s block kind t m (EndSweep sw) is may h owed = absurd may
picked_owed c s block kind t m Nothing is may h owed = absurd may

-- WROTE

in_hand_owed : (s : State) (j : Job) → s.hand ≡ Some j → AreOwed s → (id : ℕ) → IsOn s.blocks id → IsOwed s.sweep (j ∷ s.waiting) id
in_hand_owed s j is owed id on = subst (λ (o : Option Job). IsOwed s.sweep (option_to_list o ++ s.waiting) id) is (owed id on)

wrote_owed : (c : Configuration) (s : State) (i : Instance) (mark : Mark) (m : ℕ) (o : Option Job) → s.hand ≡ o → MayWrite c s i mark o → AreOwed s → AreOwed (record (wrote s i mark o) { count = s.count + 1; ops = m })
wrote_owed c s i mark m None is may owed = absurd may
wrote_owed c s i mark m (Some j) is may owed = λ id on. elim (in_hand_owed s j is owed id on) [ inl sweep ↦ inl sweep | inr (inl own) ↦ inr (inl own) | inr (inr rest) ↦ inr (inr rest) ]

-- POST

next_owed : (c : Configuration) (s : State) (block : ℕ) (r : ReqResult) (given : Option (List ℕ)) (refused m : ℕ) (n : Next) → is_pending r ≡ false → MayPostNext c s block (r, given) refused n → AreOwed s → AreOwed (record (posted_next c s r given n) { count = s.count + 1; ops = m })
next_owed c s block r given refused m (PostMember sw id) off may owed =
    set_off (λ k. IsOwed (posted_next c s r given (PostMember sw id)).sweep (jobs_of s) k) s.blocks id (ended (desc_of c id) (keeps_ram c id) (member_kind sw.writes) true r given (block_at s id)) off
    (λ k apart on. elim (owed k on) [ inl (zeroth, some) ↦ inl (zeroth, refl) | inr has ↦ inr has ])
next_owed c s block r given refused m (EndSweep sw) off may owed =
    set_off (IsOwed None (jobs_of s)) s.blocks 0 (record (block_at s 0) { status = r }) off (λ k apart on. elim (owed k on) [ inl (zeroth, some) ↦ absurd (apart zeroth) | inr has ↦ inr has ])
next_owed c s block r given refused m (PickJob j) off may owed = absurd may
next_owed c s block r given refused m (PickMember sw id) off may owed = absurd may
next_owed c s block r given refused m (BeginSweep sw) off may owed = absurd may
next_owed c s block r given refused m Nothing off may owed = absurd may

posted_owed : (c : Configuration) (s : State) (block : ℕ) (r : ReqResult) (given : Option (List ℕ)) (refused m : ℕ) (o : Option Job) → s.hand ≡ o → is_pending r ≡ false → MayPost c s block (r, given) refused o → AreOwed s → AreOwed (record (posted c s r given o) { count = s.count + 1; ops = m })
posted_owed c s block r given refused m None is off may owed = next_owed c s block r given refused m (next_of c s) off may owed
posted_owed c s block r given refused m (Some j) is off may owed =
    set_off (IsOwed (option_map (after_member (job_block j) r) s.sweep) s.waiting) s.blocks (job_block j) (ended (desc_of c (job_block j)) (keeps_ram c (job_block j)) (kind_of j) (names_ram j.request) r given (block_at s (job_block j))) off
    (λ k apart on. elim (in_hand_owed s j is owed k on) [
      | inl (zeroth, some) ↦ inl (zeroth, some_still (after_member (job_block j) r) s.sweep some)
      | inr (inl own) ↦ absurd (apart (sym own))
      | inr (inr rest) ↦ inr rest
    ])

-- FOUND

started_off : (c : Configuration) (marks : List (Instance × Mark)) (n : ℕ) (bs : List BlockDesc) (k : ℕ) → is_pending (get_or (map (λ (x : ℕ × BlockDesc). started_block c marks x.0 x.1) (enumerate_from n bs)) k no_block).status ≡ false
started_off c marks n [] k = refl
started_off c marks n (b ∷ bs) zero = refl
started_off c marks n (b ∷ bs) (suc k) = started_off c marks (n + 1) bs k

found_owed : (c : Configuration) (s : State) (marks : List (Instance × Mark)) (ops : ℕ) → AreOwed (step c s (Found marks ops))
found_owed c s marks ops zero on = cc
found_owed c s marks ops (suc k) on = let off = started_off c marks 1 c.blocks k in cc

-- ALONG A HISTORY

record IsRight (c : Configuration) (s : State) : Type 0 where
  sound : IsConsistent c s
  owed : AreOwed s

step_owed : (c : Configuration) (cap : ℕ) (s : State) (e : Entry) → IsAllowed c cap s e → IsConsistent c s → AreOwed s → AreOwed (step c s e)
step_owed c cap s (Ask caller r reply) allowed h owed = asked_owed c s r reply s.ops owed
step_owed c cap s (Pick block kind t ops) allowed h owed = picked_owed c s block kind t ops (next_of c s) refl allowed.1 h owed
step_owed c cap s (Wrote i mark ops) allowed h owed = wrote_owed c s i mark ops s.hand refl allowed.1 owed
step_owed c cap s (Post block r given refused ops) allowed h owed = posted_owed c s block r given refused ops s.hand refl (posts_end c s block r given refused s.hand allowed.1) allowed.1 owed
step_owed c cap s (Off ops) allowed h owed = owed
step_owed c cap s (Found marks ops) allowed h owed = found_owed c s marks ops

pub pending_have_jobs : PendingHaveJobs
pending_have_jobs c cap h id legal on =
    let right = kept_along c cap (IsRight c) (λ s e allowed was. record { sound = allowed_steps_stay_consistent c cap s e was.sound allowed; owed = step_owed c cap s e allowed was.sound was.owed }) at_first h legal (record { sound = at_first_consistent c; owed = λ k on. cc }) in
    elim (right.owed id on) [ inl sweep ↦ inl sweep | inr has ↦ inr (contains id (jobs_of (after c h)) has) ]
