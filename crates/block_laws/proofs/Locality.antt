-- An entry changes the state of one block at most.
use Rattle.std.specs.Prelude.{slice_set, get_or}
use Rattle.std.proofs.Common.{◌≡◌, ◌≢◌, ◌<◌, ◌==◌, ℕ, true, List, [], ◌∷◌, ◌++◌, inl, inr, arith, length, refl, sym, ap, is_some, ◌∙◌, subst, Option, Some, None}
use Rattle.std.proofs.lemmas.Bool.{cases_Bool}
use Rattle.std.proofs.lemmas.Bool.Decides.{nat_tests}
use Rattle.std.proofs.lemmas.List.{get_or-set_same, get_or-set_other}
use Rattle.block_machine.specs.Words.{ReqResult, Pending, Request, JobKind, Taken, Ask, Pick, Wrote, Post, Off, Found, Mark, Instance, Configuration}
use Rattle.block_machine.specs.State.{State, BlockState, Job}
use Rattle.block_machine.specs.Blocks.{status_of, is_pending, asked_block, job_kind, block_at, no_block, keeps_ram, names_ram, desc_of, job_block, kind_of}
use Rattle.block_machine.specs.Sweeps.{member_kind}
use Rattle.block_machine.specs.Next.{Next, Nothing, PickJob, BeginSweep, PickMember, PostMember, EndSweep, next_of}
use Rattle.block_machine.specs.Steps.{accepted_by, picked, posted, posted_next, wrote, ended}
use Rattle.block_machine.specs.Legal.{MayPick, MayPost, MayPostNext}
use Rattle.block_laws.specs.Laws.{EntriesAreLocal, JobsSplit, EntriesGiveStatus, JobIsFound}
use Rattle.block_laws.proofs.HistoryLaws.{asks_are_local}
use Rattle.block_laws.proofs.JobLists.{apart_parts, without_split}
use Rattle.block_laws.proofs.ConsistentSteps.{member_block}

other : (s : State) (n : ℕ) (b : BlockState) (id : ℕ) → id ≢ n → get_or (slice_set s.blocks n b) id no_block ≡ block_at s id
other s n b id apart = get_or-set_other s.blocks n id b no_block apart

picked_local : (c : Configuration) (s : State) (block : ℕ) (kind : JobKind) (t : Taken) (id : ℕ) (n : Next) → MayPick c s block kind t n → id ≢ block → block_at (picked c s t n) id ≡ block_at s id
picked_local c s block kind t id (PickJob j) may apart = refl
picked_local c s block kind t id (PickMember sw member) may apart = other s member (record (block_at s member) { status = Pending }) id (subst (λ (n : ℕ). id ≢ n) (may.same_block ∙ member_block sw.writes member) apart)
picked_local c s block kind t id (BeginSweep sw) may apart = refl
picked_local c s block kind t id (PostMember sw member) may apart = absurd may
picked_local c s block kind t id (EndSweep sw) may apart = absurd may
picked_local c s block kind t id Nothing may apart = absurd may

next_local : (c : Configuration) (s : State) (block : ℕ) (r : ReqResult) (given : Option (List ℕ)) (refused id : ℕ) (n : Next) → MayPostNext c s block (r, given) refused n → id ≢ block → block_at (posted_next c s r given n) id ≡ block_at s id
next_local c s block r given refused id (PostMember sw member) may apart = other s member (ended (desc_of c member) (keeps_ram c member) (member_kind sw.writes) true r given (block_at s member)) id (subst (λ (n : ℕ). id ≢ n) may.same_block apart)
next_local c s block r given refused id (EndSweep sw) may apart = other s 0 (record (block_at s 0) { status = r }) id (subst (λ (n : ℕ). id ≢ n) may.all_blocks apart)
next_local c s block r given refused id (PickJob j) may apart = absurd may
next_local c s block r given refused id (PickMember sw member) may apart = absurd may
next_local c s block r given refused id (BeginSweep sw) may apart = absurd may
next_local c s block r given refused id Nothing may apart = absurd may

posted_local : (c : Configuration) (s : State) (block : ℕ) (r : ReqResult) (given : Option (List ℕ)) (refused id : ℕ) (o : Option Job) → MayPost c s block (r, given) refused o → id ≢ block → block_at (posted c s r given o) id ≡ block_at s id
posted_local c s block r given refused id (Some j) may apart =
    other s (job_block j) (ended (desc_of c (job_block j)) (keeps_ram c (job_block j)) (kind_of j) (names_ram j.request) r given (block_at s (job_block j))) id (subst (λ (n : ℕ). id ≢ n) may.same_block apart)
posted_local c s block r given refused id None may apart = next_local c s block r given refused id (next_of c s) may apart

wrote_local : (s : State) (i : Instance) (mark : Mark) (o : Option Job) (id : ℕ) → block_at (wrote s i mark o) id ≡ block_at s id
wrote_local s i mark None id = refl
wrote_local s i mark (Some j) id = refl

pub entries_are_local : EntriesAreLocal
entries_are_local c cap s (Ask caller r reply) id allowed found apart = (asks_are_local c s caller r reply).1 id apart
entries_are_local c cap s (Pick block kind t ops) id allowed found apart = picked_local c s block kind t id (next_of c s) allowed.1 apart
entries_are_local c cap s (Wrote i mark ops) id allowed found apart = wrote_local s i mark s.hand id
entries_are_local c cap s (Post block r given refused ops) id allowed found apart = posted_local c s block r given refused id s.hand allowed.1 apart
entries_are_local c cap s (Off ops) id allowed found apart = refl
entries_are_local c cap s (Found marks ops) id allowed found apart = cc

pub jobs_split : JobsSplit
jobs_split before j after apart = let (others, rest) = apart_parts before j after apart in (without_split before j after others, rest)

one_more : (x : Job) (jobs : List Job) (j : Job) → ((before after : List Job) × (jobs ≡ before ++ j ∷ after)) → (before after : List Job) × (x ∷ jobs ≡ before ++ j ∷ after)
one_more x jobs j (before, after, is) = (x ∷ before, after, ap (λ (xs : List Job). x ∷ xs) is)

some_job : (x y : Job) → Some x ≡ Some y → x ≡ y
some_job x y is = cc

pub job_is_found : JobIsFound
job_is_found [] id j is = cc
job_is_found (x ∷ jobs) id j is = elim (cases_Bool (job_block x == id)) [
  | inl on ↦
      let own : x ≡ j = some_job x j (rw on at is) in
      let named : job_block x ≡ id = grind (arith, nat_tests, on) in
      (subst (λ (y : Job). job_block y ≡ id) own named, ([], jobs, ap (λ (y : Job). y ∷ jobs) own))
  | inr off ↦ let (named, rest) = job_is_found jobs id j (rw off at is) in (named, one_more x jobs j rest)
]

-- THE STATUS

status_set : (s : State) (id : ℕ) (b : BlockState) (r : ReqResult) → id < length s.blocks → b.status ≡ r → (get_or (slice_set s.blocks id b) id no_block).status ≡ r
status_set s id b r within is = ap (λ (x : BlockState). x.status) (get_or-set_same s.blocks id b no_block within) ∙ is

next_status : (c : Configuration) (s : State) (block : ℕ) (r : ReqResult) (given : Option (List ℕ)) (refused : ℕ) (n : Next) → MayPostNext c s block (r, given) refused n → block < length s.blocks → status_of (posted_next c s r given n) block ≡ r
next_status c s block r given refused (PostMember sw id) may within =
    let inside : id < length s.blocks = subst (λ (n : ℕ). n < length s.blocks) may.same_block within in
    subst (λ (n : ℕ). status_of (posted_next c s r given (PostMember sw id)) n ≡ r) (sym may.same_block) (status_set s id (ended (desc_of c id) (keeps_ram c id) (member_kind sw.writes) true r given (block_at s id)) r inside refl)
next_status c s block r given refused (EndSweep sw) may within =
    let inside : 0 < length s.blocks = subst (λ (n : ℕ). n < length s.blocks) may.all_blocks within in
    subst (λ (n : ℕ). status_of (posted_next c s r given (EndSweep sw)) n ≡ r) (sym may.all_blocks) (status_set s 0 (record (block_at s 0) { status = r }) r inside refl)
next_status c s block r given refused (PickJob j) may within = absurd may
next_status c s block r given refused (PickMember sw id) may within = absurd may
next_status c s block r given refused (BeginSweep sw) may within = absurd may
next_status c s block r given refused Nothing may within = absurd may

posted_status : (c : Configuration) (s : State) (block : ℕ) (r : ReqResult) (given : Option (List ℕ)) (refused : ℕ) (o : Option Job) → MayPost c s block (r, given) refused o → block < length s.blocks → status_of (posted c s r given o) block ≡ r
posted_status c s block r given refused (Some j) may within =
    let id = job_block j in
    let inside : job_block j < length s.blocks = subst (λ (n : ℕ). n < length s.blocks) may.same_block within in
    subst (λ (n : ℕ). status_of (posted c s r given (Some j)) n ≡ r) (sym may.same_block) (status_set s id (ended (desc_of c id) (keeps_ram c id) (kind_of j) (names_ram j.request) r given (block_at s id)) r inside refl)
posted_status c s block r given refused None may within = next_status c s block r given refused (next_of c s) may within

asked_status : (c : Configuration) (s : State) (r : Request) (kind : Option JobKind) → is_some kind ≡ true → asked_block r < length s.blocks → is_pending (status_of (accepted_by c s r kind) (asked_block r)) ≡ true
asked_status c s r None some within = cc
asked_status c s r (Some kind) some within = ap is_pending (status_set s (asked_block r) (record (block_at s (asked_block r)) { status = Pending }) Pending within refl)

pub entries_give_status : EntriesGiveStatus
entries_give_status c cap s block refused ops caller r given request =
    (λ allowed within. posted_status c s block r given refused s.hand allowed.1 within, λ some within. asked_status c s request (job_kind request) some within)
