-- What the pending jobs took.
use Rattle.std.specs.Prelude.{filter, slice_get, fold, option_to_list}
use Rattle.std.specs.List.{enumerate_from}
use Rattle.std.specs.Option.{is_some, option_map}
use Rattle.std.proofs.Common.{◌≡◌, ◌==◌, ◌&&◌, ◌<◌, ◌≤◌, ◌+◌, ◌-◌, ℕ, zero, suc, not, Bool, true, false, List, [], ◌∷◌, ◌++◌, length, refl, ap, ◌∙◌, subst, inl, inr, arith, Option, Some, None, if◌then◌else◌, length-append}
use Rattle.std.proofs.lemmas.Bool.{cases_Bool}
use Rattle.block_machine.specs.Words.{Request, Read, Write, Restore, Erase, Invalidate, SetIndex, GetIndex, SetProtection, SetLock, SetRam, PutRam, Status, ReadAll, WriteAll, CancelWriteAll, Accepted, Refused, StatusIs, IndexIs, ReqResult, JobKind, Taken, TookContent, Instance, Mark, Pick, Configuration}
use Rattle.block_machine.specs.State.{State, Job, Sweep, jobs_of}
use Rattle.block_machine.specs.Blocks.{desc_of, block_at, is_synchronized, names_ram, job_block, asked_block}
use Rattle.block_machine.specs.Sweeps.{member_job, member_request, is_picked}
use Rattle.block_machine.specs.Next.{Next, PickJob, BeginSweep, PickMember, PostMember, next_of, next_in, next_by, next_member}
use Rattle.block_machine.specs.Steps.{job_at, without_job, interrupted, content_after, picked_job, in_hand, wrote, posted, posted_next}
use Rattle.block_laws.specs.Consistent.{Each}
use Rattle.block_laws.proofs.NextLaws.{next_is_waiting}
use Rattle.script_walks.specs.Words.{Step, AskStep}
use Rattle.script_walks.specs.Walk.{stores_of, store_content, last_store, request_after, TakesStore}
use Rattle.nvm_script.specs.Played.{CanBePlayed}
use Rattle.script_walks.specs.Stores.{IsStored, IsTakenStored, TookStored, JobsTookStored}
use Rattle.script_walks.specs.StoreLaws.{AsksKeepStored, StartsKeepStored, StepsKeepStored}
use Rattle.script_walks.proofs.Newest.{stores_more}

-- LISTS OF JOBS

pub each_append : (P : Job → Type 0) (xs ys : List Job) → Each P xs → Each P ys → Each P (xs ++ ys)
each_append P [] ys left right = right
each_append P (x ∷ xs) ys left right = (left.0, each_append P xs ys left.1 right)

pub each_right : (P : Job → Type 0) (xs ys : List Job) → Each P (xs ++ ys) → Each P ys
each_right P [] ys all = all
each_right P (x ∷ xs) ys all = each_right P xs ys all.1

pub each_kept : (P : Job → Type 0) (keep : Job → Bool) (xs : List Job) → Each P xs → Each P (filter keep xs)
each_kept P keep [] all = tt
each_kept P keep (x ∷ xs) all = elim (cases_Bool (keep x)) [
  | inl on ↦ rw on (all.0, each_kept P keep xs all.1)
  | inr off ↦ rw off (each_kept P keep xs all.1)
]

each_mapped : (P Q : Job → Type 0) (xs : List Job) → ((j : Job) → P j → Q j) → Each P xs → Each Q xs
each_mapped P Q [] from all = tt
each_mapped P Q (x ∷ xs) from all = (from x all.0, each_mapped P Q xs from all.1)

-- the parts of the pending jobs
pub hand_stored : (P : Job → Type 0) (h : Option Job) (waiting : List Job) → Each P (option_to_list h ++ waiting) → Each P (option_to_list h)
hand_stored P None waiting all = tt
hand_stored P (Some j) waiting all = (all.0, tt)

pub waiting_stored : (P : Job → Type 0) (h : Option Job) (waiting : List Job) → Each P (option_to_list h ++ waiting) → Each P waiting
waiting_stored P None waiting all = all
waiting_stored P (Some j) waiting all = all.1

-- EACH PENDING JOB

-- the next job of those that wait is one of them
next_by_job : (c : Configuration) (s : State) (w h : Option Job) (sweep : Option Sweep) (j : Job) → next_by c s w h sweep ≡ PickJob j → w ≡ Some j
next_by_job c s (Some x) h sweep j is = cc
next_by_job c s None None (Some sw) j is = absurd (in_sweep sw.under_way is)
  where
    member : (ids : List ℕ) → next_member c s sw ids ≡ PickJob j → ⊥
    member [] is = cc
    member (id ∷ ids) is = elim (cases_Bool (is_picked (desc_of c id) (block_at s id) sw id)) [
      | inl on ↦ let no_ : PickMember sw id ≡ PickJob j = rw on at is in cc
      | inr off ↦ let no_ : PostMember sw id ≡ PickJob j = rw off at is in cc
    ]

    in_sweep : (b : Bool) → (if b then next_member c s sw (if sw.canceled then [] else sw.left) else BeginSweep sw) ≡ PickJob j → ⊥
    in_sweep true is = member (if sw.canceled then [] else sw.left) is
    in_sweep false is = cc
next_by_job c s None h sweep j is = cc

-- What holds of a job, whatever is reserved for it and whatever it wrote, stays so of each pending job where it is so of the one that is picked.
module _ (c : Configuration) (P : Job → Type 0) (stays : (j : Job) (reserved : ℕ) (written : List ℕ) → P j → P (record j { reserved = reserved; written = written })) where
  waits_on : (h : Option Job) (jobs : List Job) → Each P (option_to_list h) → Each P jobs → Each P (interrupted h jobs)
  waits_on None jobs hand waiting = waiting
  waits_on (Some h) jobs hand waiting = (stays h (h.reserved + 2) h.written hand.0, waiting)

  pub each_in_hand : (s : State) (j : Job) (t : Taken) → Each P (jobs_of s) → P (picked_job t (if is_some s.hand then 2 else 0) j) → Each P (jobs_of (in_hand c s j t))
  each_in_hand s j t all picked = (
    picked,
    waits_on s.hand (without_job j.number s.waiting) (hand_stored P s.hand s.waiting all) (each_kept P (λ x. not (x.number == j.number)) s.waiting (waiting_stored P s.hand s.waiting all)),
  )

  pub each_wrote : (s : State) (i : Instance) (mark : Mark) (h : Option Job) → s.hand ≡ h → Each P (jobs_of s) → Each P (jobs_of (wrote s i mark h))
  each_wrote s i mark None is all = all
  each_wrote s i mark (Some j) is all =
      let hand : Each P (option_to_list (Some j)) = subst (λ (h : Option Job). Each P (option_to_list h)) is (hand_stored P s.hand s.waiting all) in
      (stays j (j.reserved - 1) (j.written ++ i.index ∷ []) hand.0, waiting_stored P s.hand s.waiting all)

  each_next : (s : State) (r : ReqResult) (given : Option (List ℕ)) (n : Next) → Each P (jobs_of s) → Each P (jobs_of (posted_next c s r given n))
  each_next s r given (PostMember sw id) all = all
  each_next s r given n all = all

  pub each_posted : (s : State) (r : ReqResult) (given : Option (List ℕ)) (h : Option Job) → Each P (jobs_of s) → Each P (jobs_of (posted c s r given h))
  each_posted s r given None all = each_next s r given (next_of c s) all
  each_posted s r given (Some j) all = waiting_stored P s.hand s.waiting all

  -- so it is of the one that comes next
  pub next_has : (s : State) (j : Job) → next_of c s ≡ PickJob j → Each P (jobs_of s) → P j
  next_has s j is all =
      let (front, behind, at) = next_is_waiting c s.waiting j (next_by_job c s (next_in c s.waiting) s.hand s.sweep j is) in
      (each_right P front (j ∷ behind) (subst (λ (jobs : List Job). Each P jobs) at (waiting_stored P s.hand s.waiting all))).0

-- what a job took is stored where what it takes now is
pub content_stored : (c : Configuration) (before : List Step) (id : ℕ) (content : Option (List ℕ × ℕ)) (t : Taken) → IsTakenStored c before id t → IsStored c before id content → IsStored c before id (content_after content t)
content_stored c before id content (TookContent bytes number) is was = is
content_stored c before id content t is was = was

pub takes_by : (c : Configuration) (before : List Step) (copies : Bool) (block : ℕ) (kind : JobKind) (t : Taken) (ops : ℕ) → (copies ≡ true → IsTakenStored c before block t) → TakesStore c before copies (Pick block kind t ops)
takes_by c before true block kind (TookContent bytes number) ops is = is refl
takes_by c before copies block kind t ops is = tt

-- a member names RAM, and took nothing before
pub member_copies : (c : Configuration) (sw : Sweep) (id : ℕ)
    → is_synchronized (desc_of c id).ram ≡ (names_ram (member_job c sw id).request && is_synchronized (desc_of c (job_block (member_job c sw id))).ram)
member_copies c sw id = by sw.writes
  where
    by : (writes : Bool) → is_synchronized (desc_of c id).ram ≡ (names_ram (member_request writes id) && is_synchronized (desc_of c (asked_block (member_request writes id))).ram)
    by true = refl
    by false = refl

-- ONE STEP MORE

fewer : (id : ℕ) (before : List Step) (x : Step) → length (stores_of id before) ≤ length (stores_of id (before ++ x ∷ []))
fewer id before x = let more : length (stores_of id (before ++ x ∷ [])) ≡ length (stores_of id before) + length (stores_of id (x ∷ [])) = ap length (stores_more id before x) ∙ length-append (stores_of id before) (stores_of id (x ∷ [])) in omega (arith, more)

in_front : (xs ys : List (ℕ × List ℕ)) (n : ℕ) (y : List ℕ) → option_map (λ x. x.1) (slice_get xs n) ≡ Some y → option_map (λ x. x.1) (slice_get (xs ++ ys) n) ≡ Some y
in_front [] ys n y is = cc
in_front (x ∷ xs) ys zero y is = is
in_front (x ∷ xs) ys (suc n) y is = in_front xs ys n y is

content_stays : (c : Configuration) (before : List Step) (x : Step) (id n : ℕ) (y : List ℕ) → store_content c before id n ≡ Some y → store_content c (before ++ x ∷ []) id n ≡ Some y
content_stays c before x id zero y is = is
content_stays c before x id (suc n) y is =
    ap (λ (s : List (ℕ × List ℕ)). option_map (λ z. z.1) (slice_get s n)) (stores_more id before x) ∙ in_front (stores_of id before) (stores_of id (x ∷ [])) n y is

stored_stays : (c : Configuration) (before : List Step) (x : Step) (id : ℕ) (content : Option (List ℕ × ℕ)) → IsStored c before id content → IsStored c (before ++ x ∷ []) id content
stored_stays c before x id None is = tt
stored_stays c before x id (Some y) is = content_stays c before x id y.1 y.0 is

step_more : (c : Configuration) (before : List Step) (x : Step) (j : Job) → TookStored c before j → TookStored c (before ++ x ∷ []) j
step_more c before x j took = record {
  asked = λ copies. let old = took.asked copies in let more = fewer (job_block j) before x in omega (arith, old, more);
  content = λ copies. stored_stays c before x (job_block j) j.content (took.content copies);
}

pub steps_keep_stored : StepsKeepStored
steps_keep_stored c before s x all = each_mapped (TookStored c before) (TookStored c (before ++ x ∷ [])) (jobs_of s) (step_more c before x) all

-- REQUESTS

-- a caller's last store is no later than all that were made
last_small : (caller k last : ℕ) (stores : List (ℕ × List ℕ)) → last < k → fold (λ last x. if x.1.0 == caller then x.0 else last) last (enumerate_from k stores) < k + length stores
last_small caller k last [] small = omega arith
last_small caller k last (x ∷ xs) small = either (x.0 == caller) (last_small caller (k + 1) k xs (omega arith)) (last_small caller (k + 1) last xs (omega arith))
  where
    either : (b : Bool) → fold (λ last x. if x.1.0 == caller then x.0 else last) k (enumerate_from (k + 1) xs) < k + 1 + length xs
        → fold (λ last x. if x.1.0 == caller then x.0 else last) last (enumerate_from (k + 1) xs) < k + 1 + length xs
        → fold (λ last x. if x.1.0 == caller then x.0 else last) (if b then k else last) (enumerate_from (k + 1) xs) < k + length (x ∷ xs)
    either true own other = omega (arith, own)
    either false own other = omega (arith, other)

last_within : (caller id : ℕ) (before : List Step) → last_store caller id before ≤ length (stores_of id before)
last_within caller id before = let small = last_small caller 1 0 (stores_of id before) (omega arith) in omega (arith, small)

small_where : (caller block : ℕ) (before : List Step) (b : Bool) → (if b then last_store caller block before else 0) ≤ length (stores_of block before)
small_where caller block before true = last_within caller block before
small_where caller block before false = omega arith

-- the job of a request, as a step asks it
job_stored : (c : Configuration) (before : List Step) (n caller : ℕ) (r : Request) → CanBePlayed c (AskStep r) → TookStored c before (job_at c n (request_after c before caller r))
job_stored c before n caller (Write block None store) can = record {
  asked = λ copies. small_where caller block before (is_synchronized (desc_of c block).ram);
  content = λ copies. tt;
}
job_stored c before n caller (Write block (Some content) store) can = record { asked = λ copies. omega arith; content = λ copies. absurd (cc copies) }
job_stored c before n caller (Read block ram) can = record { asked = λ copies. omega arith; content = λ copies. tt }
job_stored c before n caller (Restore block ram) can = record { asked = λ copies. omega arith; content = λ copies. tt }
job_stored c before n caller r can = record { asked = λ copies. omega arith; content = λ copies. tt }

accept_keeps : (c : Configuration) (before : List Step) (s : State) (j : Job) → JobsTookStored c before s → TookStored c before j → Each (TookStored c before) (option_to_list s.hand ++ (s.waiting ++ j ∷ []))
accept_keeps c before s j all took =
    each_append (TookStored c before) (option_to_list s.hand) (s.waiting ++ j ∷ []) (hand_stored (TookStored c before) s.hand s.waiting all)
    (each_append (TookStored c before) s.waiting (j ∷ []) (waiting_stored (TookStored c before) s.hand s.waiting all) (took, tt))

pub asks_keep_stored : AsksKeepStored
asks_keep_stored c before s caller (Read block ram) Accepted can all = accept_keeps c before s (job_at c s.count (Read block ram)) all (job_stored c before s.count caller (Read block ram) can)
asks_keep_stored c before s caller (Write block None store) Accepted can all =
    accept_keeps c before s (job_at c s.count (request_after c before caller (Write block None store))) all (job_stored c before s.count caller (Write block None store) can)
asks_keep_stored c before s caller (Write block (Some content) store) Accepted can all =
    accept_keeps c before s (job_at c s.count (Write block (Some content) store)) all (job_stored c before s.count caller (Write block (Some content) store) can)
asks_keep_stored c before s caller (Restore block ram) Accepted can all = accept_keeps c before s (job_at c s.count (Restore block ram)) all (job_stored c before s.count caller (Restore block ram) can)
asks_keep_stored c before s caller (Erase block) Accepted can all = accept_keeps c before s (job_at c s.count (Erase block)) all (job_stored c before s.count caller (Erase block) can)
asks_keep_stored c before s caller (Invalidate block) Accepted can all = accept_keeps c before s (job_at c s.count (Invalidate block)) all (job_stored c before s.count caller (Invalidate block) can)
asks_keep_stored c before s caller (SetIndex block index) Accepted can all = all
asks_keep_stored c before s caller (GetIndex block) Accepted can all = all
asks_keep_stored c before s caller (SetProtection block on) Accepted can all = all
asks_keep_stored c before s caller (SetLock block on) Accepted can all = all
asks_keep_stored c before s caller (SetRam block on) Accepted can all = all
asks_keep_stored c before s caller (PutRam block content) Accepted can all = all
asks_keep_stored c before s caller (Status block) Accepted can all = all
asks_keep_stored c before s caller ReadAll Accepted can all = all
asks_keep_stored c before s caller WriteAll Accepted can all = all
asks_keep_stored c before s caller CancelWriteAll Accepted can all = all
asks_keep_stored c before s caller r (Refused refusal) can all = all
asks_keep_stored c before s caller r (StatusIs status) can all = all
asks_keep_stored c before s caller r (IndexIs index) can all = all

pub starts_keep_stored : StartsKeepStored
starts_keep_stored c before s marks ops = tt
