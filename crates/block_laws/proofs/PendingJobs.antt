-- Each job of a legal history has its accepted request, its block is PENDING, and no other job is on it.
use Rattle.std.specs.Prelude.{slice_set, get_or, slice_get, option_to_list, unwrap_or}
use Rattle.std.proofs.Common.{◌≡◌, ◌≢◌, ℕ, zero, suc, ◌==◌, ◌+◌, ◌<◌, ◌||◌, nat_lt, Bool, true, false, List, [], ◌∷◌, ◌++◌, length, refl, sym, ap, ◌∙◌, subst, ◌⊎◌, inl, inr, arith, append_assoc, Option, Some, None, is_some}
use Rattle.std.proofs.lemmas.List.{get_or-set_same, get_or-set_other, length-set}
use Rattle.std.proofs.lemmas.Bool.Decides.{nat_tests}
use Rattle.block_machine.specs.Words.{Mark, Content, Invalid, Erased, Request, Read, Write, Restore, Erase, Invalidate, SetIndex, ReadAll, WriteAll, Accepted, UnknownBlock, BlockPending, JobKind, ReadJob, WriteJob, Taken, Entry, Ask, BlockDesc, Configuration}
use Rattle.block_machine.specs.State.{State, BlockState, Job}
use Rattle.block_machine.specs.Blocks.{no_block, status_of, is_pending, is_synchronized, asked_block, asked_content, job_kind, job_block, mark_by}
use Rattle.block_machine.specs.Sweeps.{member_request}
use Rattle.block_machine.specs.Reply.{reply_of}
use Rattle.block_machine.specs.Steps.{content_after, interrupted, picked_job}
use Rattle.block_machine.specs.Legal.{TakesBy, TakesForWrite}
use Rattle.block_machine.specs.Accepted.{AsksFor}
use Rattle.block_laws.specs.Consistent.{Each}
use Rattle.block_laws.proofs.JobLists.{each_more, each_push, each_parts}
use Rattle.block_laws.proofs.NextLaws.{accepted_pass}

-- REQUESTS

abbrev pub sweep_request : Bool → Request
sweep_request true = WriteAll
sweep_request false = ReadAll

-- a job does what was asked for, with the content that came with it; a member does it for a request on all blocks
abbrev pub Suits : Request → Request → Option (List ℕ × ℕ) → Type 0
Suits asked request content =
    ((asked ≡ request) × ((x : List ℕ × ℕ) → asked_content request ≡ Some x → content ≡ Some x))
    ⊎ ((writes : Bool) × (id : ℕ) × (asked ≡ sweep_request writes) × (request ≡ member_request writes id))

abbrev pub IsAsked : List Entry → ℕ → Request → Type 0
IsAsked h number asked = (caller : ℕ) × (slice_get h number ≡ Some (Ask caller asked Accepted))

abbrev pub HasAsk : List Entry → ℕ → Request → Option (List ℕ × ℕ) → Type 0
HasAsk h number request content = (asked : Request) × IsAsked h number asked × Suits asked request content

same_mark : (x y : Mark) → Some x ≡ Some y → x ≡ y
same_mark x y e = cc

asks_own : (request : Request) (content : Option (List ℕ × ℕ)) (m : Mark) → ((x : List ℕ × ℕ) → asked_content request ≡ Some x → content ≡ Some x) → mark_by (unwrap_or (job_kind request) ReadJob) content ≡ Some m → AsksFor request (asked_block request) m
asks_own (Write block (Some bytes) store) content m brings is = (refl, sym (same_mark (Content bytes) m (subst (λ (o : Option (List ℕ × ℕ)). mark_by WriteJob o ≡ Some m) (brings (bytes, 0) refl) is)))
asks_own (Write block None store) None m brings is = cc
asks_own (Write block None store) (Some x) m brings is = subst (λ (k : Mark). AsksFor (Write block None store) block k) (same_mark (Content x.0) m is) refl
asks_own (Invalidate block) content m brings is = (refl, sym (same_mark Invalid m is))
asks_own (Erase block) content m brings is = (refl, sym (same_mark Erased m is))
asks_own r content m brings is = cc

asks_member : (writes : Bool) (id : ℕ) (content : Option (List ℕ × ℕ)) (m : Mark) → mark_by (unwrap_or (job_kind (member_request writes id)) ReadJob) content ≡ Some m → AsksFor (sweep_request writes) (asked_block (member_request writes id)) m
asks_member true id None m is = cc
asks_member true id (Some x) m is = subst (λ (k : Mark). AsksFor WriteAll id k) (same_mark (Content x.0) m is) tt
asks_member false id content m is = cc

pub asks_for : (asked request : Request) (content : Option (List ℕ × ℕ)) (m : Mark) → Suits asked request content → mark_by (unwrap_or (job_kind request) ReadJob) content ≡ Some m → AsksFor asked (asked_block request) m
asks_for asked request content m (inl (same, brings)) is = subst (λ (r : Request). AsksFor r (asked_block request) m) (sym same) (asks_own request content m brings is)
asks_for asked request content m (inr (writes, id, all, own)) is =
    let at = asks_member writes id content m (subst (λ (r : Request). mark_by (unwrap_or (job_kind r) ReadJob) content ≡ Some m) own is) in
    subst (λ (r : Request). AsksFor r (asked_block request) m) (sym all) (subst (λ (r : Request). AsksFor (sweep_request writes) (asked_block r) m) (sym own) at)

-- a Pick leaves the content that a job has
keeps_write : (d : BlockDesc) (b : BlockState) (j : Job) (o : Option (List ℕ × ℕ)) (sync : Bool) (t : Taken) (x : List ℕ × ℕ) → TakesForWrite d b j o sync t → o ≡ Some x → content_after o t ≡ Some x
keeps_write d b j None sync t x takes is = cc
keeps_write d b j (Some y) sync t x takes is = ap (content_after (Some y)) takes ∙ is

keeps_content : (d : BlockDesc) (b : BlockState) (j : Job) (kind : JobKind) (t : Taken) (x : List ℕ × ℕ) → TakesBy d b j kind t → j.content ≡ Some x → content_after j.content t ≡ Some x
keeps_content d b j WriteJob t x takes is = keeps_write d b j j.content (is_synchronized d.ram) t x takes is
keeps_content d b j kind t x takes is = ap (content_after j.content) takes ∙ is

suits_after : (d : BlockDesc) (b : BlockState) (j : Job) (kind : JobKind) (t : Taken) (asked : Request) → TakesBy d b j kind t → Suits asked j.request j.content → Suits asked j.request (content_after j.content t)
suits_after d b j kind t asked takes (inl (same, brings)) = inl (same, λ x is. keeps_content d b j kind t x takes (brings x is))
suits_after d b j kind t asked takes (inr member) = inr member

pub ask_after : (h : List Entry) (d : BlockDesc) (b : BlockState) (j : Job) (kind : JobKind) (t : Taken) → TakesBy d b j kind t → HasAsk h j.number j.request j.content → HasAsk h j.number j.request (content_after j.content t)
ask_after h d b j kind t takes (asked, at, suits) = (asked, at, suits_after d b j kind t asked takes suits)

-- JOBS AND THEIR BLOCKS

-- a block that is there is PENDING
abbrev pub PendingAt : List BlockState → ℕ → Type 0
PendingAt blocks id = id < length blocks → is_pending (get_or blocks id no_block).status ≡ true

pub record IsJob (h : List Entry) (blocks : List BlockState) (j : Job) : Type 0 where
  pub pending : PendingAt blocks (job_block j)
  pub ask : HasAsk h j.number j.request j.content

abbrev pub HaveOtherBlocks : ℕ → List Job → Type 0
HaveOtherBlocks id jobs = Each (λ x. job_block x ≢ id) jobs

abbrev pub AreOnOtherBlocks : List Job → Type 0
AreOnOtherBlocks [] = Unit {0}
AreOnOtherBlocks (j ∷ js) = HaveOtherBlocks (job_block j) js × AreOnOtherBlocks js

pub record AreJobs (h : List Entry) (blocks : List BlockState) (jobs : List Job) : Type 0 where
  pub each : Each (IsJob h blocks) jobs
  pub apart : AreOnOtherBlocks jobs

blocks_push : (jobs : List Job) (j : Job) → AreOnOtherBlocks jobs → HaveOtherBlocks (job_block j) jobs → AreOnOtherBlocks (jobs ++ j ∷ [])
blocks_push [] j h apart = (tt, tt)
blocks_push (x ∷ jobs) j h apart = (each_push (λ y. job_block y ≢ job_block x) jobs j h.0 (λ e. apart.0 (sym e)), blocks_push jobs j h.1 apart.1)

pub blocks_parts : (before : List Job) (j : Job) (after : List Job) → AreOnOtherBlocks (before ++ j ∷ after) → HaveOtherBlocks (job_block j) (before ++ after) × AreOnOtherBlocks (before ++ after)
blocks_parts [] j after h = (h.0, h.1)
blocks_parts (x ∷ before) j after h =
    let (others, rest) = blocks_parts before j after h.1 in
    let (at, left) = each_parts (λ y. job_block y ≢ job_block x) before j after h.0 in
    ((λ e. at (sym e), others), (left, rest))

-- what blocks with a job on them keep
abbrev pub Looks : List BlockState → List BlockState → Type 0
Looks bs cs = (id : ℕ) → PendingAt bs id → PendingAt cs id × ((get_or cs id no_block).index ≡ (get_or bs id no_block).index)

pub jobs_look : (h : List Entry) (bs cs : List BlockState) (jobs : List Job) → Looks bs cs → AreJobs h bs jobs → AreJobs h cs jobs
jobs_look h bs cs jobs looks all = record { each = each_more (IsJob h bs) (IsJob h cs) jobs (λ j is. record { pending = (looks (job_block j) is.pending).0; ask = is.ask }) all.each; apart = all.apart }

-- one more
pub jobs_push : (h : List Entry) (blocks : List BlockState) (hand : Option Job) (waiting : List Job) (j : Job) → IsJob h blocks j → HaveOtherBlocks (job_block j) (option_to_list hand ++ waiting) → AreJobs h blocks (option_to_list hand ++ waiting) → AreJobs h blocks (option_to_list hand ++ (waiting ++ j ∷ []))
jobs_push h blocks hand waiting j is apart all = subst (AreJobs h blocks) (append_assoc (option_to_list hand) waiting (j ∷ [])) (record {
  each = each_push (IsJob h blocks) (option_to_list hand ++ waiting) j all.each is;
  apart = blocks_push (option_to_list hand ++ waiting) j all.apart apart;
})

-- one comes in hand
pub jobs_pick : (h : List Entry) (blocks : List BlockState) (o : Option Job) (t : Taken) (n : ℕ) (before : List Job) (j : Job) (after : List Job) → (HasAsk h j.number j.request j.content → HasAsk h j.number j.request (content_after j.content t)) → AreJobs h blocks (option_to_list o ++ (before ++ j ∷ after)) → AreJobs h blocks (picked_job t n j ∷ interrupted o (before ++ after))
jobs_pick h blocks None t n before j after asks all =
    let (is, rest) = each_parts (IsJob h blocks) before j after all.each in
    record { each = (record { pending = is.pending; ask = asks is.ask }, rest); apart = blocks_parts before j after all.apart }
jobs_pick h blocks (Some x) t n before j after asks all =
    let (is, rest) = each_parts (IsJob h blocks) (x ∷ before) j after all.each in
    record { each = (record { pending = is.pending; ask = asks is.ask }, (record { pending = rest.0.pending; ask = rest.0.ask }, rest.1)); apart = blocks_parts (x ∷ before) j after all.apart }

-- one that was posted leaves the others
others_pend : (h : List Entry) (bs : List BlockState) (id : ℕ) (b : BlockState) (jobs : List Job) → HaveOtherBlocks id jobs → Each (IsJob h bs) jobs → Each (IsJob h (slice_set bs id b)) jobs
others_pend h bs id b [] apart each = tt
others_pend h bs id b (x ∷ jobs) apart each = (
  record { pending = λ within. rw (get_or-set_other bs id (job_block x) b no_block apart.0) (each.0.pending (let size : length (slice_set bs id b) ≡ length bs = length-set bs id b in omega arith)); ask = each.0.ask },
  others_pend h bs id b jobs apart.1 each.1,
)

pub jobs_post : (h : List Entry) (bs : List BlockState) (j : Job) (jobs : List Job) (b : BlockState) → AreJobs h bs (j ∷ jobs) → AreJobs h (slice_set bs (job_block j) b) jobs
jobs_post h bs j jobs b all = record { each = others_pend h bs (job_block j) b jobs all.apart.0 all.each.1; apart = all.apart.1 }

-- CHANGES OF A BLOCK

-- one that keeps the status and the index, or makes it PENDING
pub looks_set : (bs : List BlockState) (id : ℕ) (b : BlockState) → (is_pending (get_or bs id no_block).status ≡ true → is_pending b.status ≡ true) → b.index ≡ (get_or bs id no_block).index → Looks bs (slice_set bs id b)
looks_set [] id b keeps same k pending = (λ within. pending within, refl)
looks_set (x ∷ bs) zero b keeps same zero pending = (λ within. keeps (pending (omega arith)), same)
looks_set (x ∷ bs) zero b keeps same (suc k) pending = (λ within. pending within, refl)
looks_set (x ∷ bs) (suc id) b keeps same zero pending = (λ within. pending (omega arith), refl)
looks_set (x ∷ bs) (suc id) b keeps same (suc k) pending = let (p, i) = looks_set bs id b keeps same k (λ within. pending (omega arith)) in (λ within. p (omega arith), i)

-- one that isn't PENDING has no job
pub looks_free : (bs : List BlockState) (id : ℕ) (b : BlockState) → is_pending (get_or bs id no_block).status ≡ false → Looks bs (slice_set bs id b)
looks_free [] id b free k pending = (λ within. pending within, refl)
looks_free (x ∷ bs) zero b free zero pending = let on = pending (omega arith) in cc
looks_free (x ∷ bs) zero b free (suc k) pending = (λ within. pending within, refl)
looks_free (x ∷ bs) (suc id) b free zero pending = (λ within. pending (omega arith), refl)
looks_free (x ∷ bs) (suc id) b free (suc k) pending = let (p, i) = looks_free bs id b free k (λ within. pending (omega arith)) in (λ within. p (omega arith), i)

pub pending_set : (bs : List BlockState) (id : ℕ) (b : BlockState) → is_pending b.status ≡ true → PendingAt (slice_set bs id b) id
pending_set bs id b on within = let size : length (slice_set bs id b) ≡ length bs = length-set bs id b in let inside : id < length bs = omega arith in rw (get_or-set_same bs id b no_block inside) on

-- ASK

known : (n size : ℕ) → ((n == 0) || nat_lt size n) ≡ false → n < size + 1
known n size is = grind (arith, nat_tests)

-- a request for a job names a block that is there and isn't PENDING
abbrev pub IsFree : Configuration → State → ℕ → Type 0
IsFree c s id = (id < length c.blocks + 1) × (is_pending (status_of s id) ≡ false)

pub free_block : (c : Configuration) (cap : ℕ) (s : State) (r : Request) → is_some (job_kind r) ≡ true → reply_of c cap s r ≡ Accepted → IsFree c s (asked_block r)
free_block c cap s (Read block false) job is = (known block _ (accepted_pass c cap s (Read block false) UnknownBlock is (0, omega arith, refl)), accepted_pass c cap s (Read block false) BlockPending is (3, omega arith, refl))
free_block c cap s (Read block true) job is = (known block _ (accepted_pass c cap s (Read block true) UnknownBlock is (0, omega arith, refl)), accepted_pass c cap s (Read block true) BlockPending is (4, omega arith, refl))
free_block c cap s (Write block (Some content) store) job is = (known block _ (accepted_pass c cap s (Write block (Some content) store) UnknownBlock is (0, omega arith, refl)), accepted_pass c cap s (Write block (Some content) store) BlockPending is (5, omega arith, refl))
free_block c cap s (Write block None store) job is = (known block _ (accepted_pass c cap s (Write block None store) UnknownBlock is (0, omega arith, refl)), accepted_pass c cap s (Write block None store) BlockPending is (5, omega arith, refl))
free_block c cap s (Restore block false) job is = (known block _ (accepted_pass c cap s (Restore block false) UnknownBlock is (0, omega arith, refl)), accepted_pass c cap s (Restore block false) BlockPending is (5, omega arith, refl))
free_block c cap s (Restore block true) job is = (known block _ (accepted_pass c cap s (Restore block true) UnknownBlock is (0, omega arith, refl)), accepted_pass c cap s (Restore block true) BlockPending is (6, omega arith, refl))
free_block c cap s (Erase block) job is = (known block _ (accepted_pass c cap s (Erase block) UnknownBlock is (0, omega arith, refl)), accepted_pass c cap s (Erase block) BlockPending is (5, omega arith, refl))
free_block c cap s (Invalidate block) job is = (known block _ (accepted_pass c cap s (Invalidate block) UnknownBlock is (0, omega arith, refl)), accepted_pass c cap s (Invalidate block) BlockPending is (4, omega arith, refl))
free_block c cap s r job is = cc

pub free_index : (c : Configuration) (cap : ℕ) (s : State) (block index : ℕ) → reply_of c cap s (SetIndex block index) ≡ Accepted → is_pending (status_of s block) ≡ false
free_index c cap s block index is = accepted_pass c cap s (SetIndex block index) BlockPending is (5, omega arith, refl)

-- so no job is on it
pub no_job_there : (h : List Entry) (blocks : List BlockState) (id : ℕ) (jobs : List Job) → id < length blocks → is_pending (get_or blocks id no_block).status ≡ false → Each (IsJob h blocks) jobs → HaveOtherBlocks id jobs
no_job_there h blocks id [] within free each = tt
no_job_there h blocks id (x ∷ jobs) within free each = (
  λ same. let on : is_pending (get_or blocks id no_block).status ≡ true = subst (PendingAt blocks) same each.0.pending within in cc,
  no_job_there h blocks id jobs within free each.1,
)
