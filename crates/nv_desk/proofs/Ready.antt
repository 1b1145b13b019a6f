-- What each entry leaves of the places of contents.
use Rattle.std.specs.Prelude.{get_or, slice_set, is_some, option_map, IsSomeAnd}
use Rattle.std.proofs.Common.{◌≡◌, ◌≢◌, ◌≤◌, ◌<◌, ◌+◌, ℕ, zero, suc, true, false, List, [], ◌∷◌, ◌++◌, length, option_to_list, refl, sym, ap, ◌∙◌, subst, inl, inr, arith, Option, Some, None, IfSome, if◌then◌else◌}
use Rattle.std.proofs.lemmas.Bool.Decides.{eqb_tells}
use Rattle.std.proofs.lemmas.List.{get_or-set_same, get_or-set_other, get_or_append_left, length-set}
use Rattle.std.proofs.Math.Seq.{get_or-append_seam}
use Rattle.std.proofs.lemmas.Bool.{cases_lt}
use Rattle.block_machine.specs.Words.{Configuration, Instance, Mark, Request, Taken, TookNothing, TookContent, TookRefused, TookStale}
use Rattle.block_machine.specs.State.{State, BlockState, Job, jobs_of}
use Rattle.block_machine.specs.Blocks.{asked_block, asked_content, desc_of, is_pending, job_block, job_kind, no_block, status_of}
use Rattle.block_machine.specs.Next.{next_in}
use Rattle.block_machine.specs.Steps.{accepted, in_hand, job_at, picked_job, interrupted, without_job, content_after, wrote}
use Rattle.block_laws.specs.Consistent.{Each, AreApart}
use Rattle.block_laws.proofs.JobLists.{apart_parts, each_more, without_split}
use Rattle.block_laws.proofs.NextLaws.{next_is_waiting}
use Rattle.job_pending.specs.declared.take.Take.{Take}
use Rattle.job_pending.specs.declared.take.Take.TheVariants as take
use Rattle.job_pending.specs.Pending.{Pending, Agree, IsHeld, IsOther, StandApart, StandsApart}
use Rattle.job_pending.specs.Take.{taken_with}
use Rattle.nv_desk.specs.Picks.{copied_of, own_first, took_of}
use Rattle.nv_desk.specs.Places.{Ready, IsReady, AllReady, NoneHolds, AreReady, taken_from, put_back}
use Rattle.nv_desk.specs.Sound.{IsPendingJob}
use Rattle.nv_desk.proofs.Jobs.{accepted_job}

-- a job of a block has no content
abbrev Free : ℕ → Job → Type 0
Free id j = job_block j ≡ id → j.content ≡ None

-- NO PLACE CHANGES
pub ready_more : (c : Configuration) (old new : List Job) (places : Ready) → ((id : ℕ) → NoneHolds new id → NoneHolds old id) → AreReady c old places → AreReady c new places
ready_more c old new places less ready = λ id low none. ready id low (less id none)

-- where each place stands ready, it may be any job's
pub all_ready : (c : Configuration) (jobs : List Job) (places : Ready) → AllReady c places → AreReady c jobs places
all_ready c jobs places all = λ id low none. all id low

-- A PLACE IS TAKEN
pub ready_taken : (c : Configuration) (old new : List Job) (places : Ready) (block : ℕ) → (NoneHolds new block → ⊥) → ((id : ℕ) → NoneHolds new id → NoneHolds old id) → AreReady c old places
    → AreReady c new (slice_set places block None)
ready_taken c old new places block held less ready = λ id low none. elim (eqb_tells id block) [
  | inl (_, same) ↦ absurd (held (subst (NoneHolds new) same none))
  | inr (_, other) ↦ subst (λ (o : Option (List ℕ)). IsSomeAnd o (λ bytes. length bytes ≡ (desc_of c id).length)) (sym (get_or-set_other places block id None None other)) (ready id low (less id none))
]

-- A PLACE COMES BACK
pub ready_back : (c : Configuration) (old new : List Job) (places : Ready) (block : ℕ) (content : List ℕ) → block < length places → length content ≡ (desc_of c block).length
    → ((id : ℕ) → id ≢ block → NoneHolds new id → NoneHolds old id) → AreReady c old places → AreReady c new (slice_set places block (Some content))
ready_back c old new places block content place whole less ready = λ id low none. elim (eqb_tells id block) [
  | inl (_, same) ↦ subst (λ (n : ℕ). IsReady c (slice_set places block (Some content)) n) (sym same)
      (subst (λ (o : Option (List ℕ)). IsSomeAnd o (λ bytes. length bytes ≡ (desc_of c block).length)) (sym (get_or-set_same places block (Some content) None place)) whole)
  | inr (_, other) ↦ subst (λ (o : Option (List ℕ)). IsSomeAnd o (λ bytes. length bytes ≡ (desc_of c id).length)) (sym (get_or-set_other places block id (Some content) None other)) (ready id low (less id other none))
]

-- A JOB IS ACCEPTED
pushed : (P : Job → Type 0) (xs : List Job) (j : Job) → Each P (xs ++ j ∷ []) → Each P xs × P j
pushed P [] j each = (tt, each.0)
pushed P (x ∷ xs) j each = let (rest, last) = pushed P xs j each.1 in ((each.0, rest), last)

waits_last : (P : Job → Type 0) (o : Option Job) (waiting : List Job) (j : Job) → Each P (option_to_list o ++ (waiting ++ j ∷ [])) → Each P (option_to_list o ++ waiting) × P j
waits_last P None waiting j each = pushed P waiting j each
waits_last P (Some h) waiting j each = let (rest, last) = pushed P waiting j each.1 in ((each.0, rest), last)

-- one with a content takes its block's place
pub accepted_holds : (c : Configuration) (o : Option Job) (waiting : List Job) (j : Job) (places : Ready) → j.content ≢ None → AreReady c (option_to_list o ++ waiting) places
    → AreReady c (option_to_list o ++ (waiting ++ j ∷ [])) (slice_set places (job_block j) None)
accepted_holds c o waiting j places some ready =
    ready_taken c (option_to_list o ++ waiting) (option_to_list o ++ (waiting ++ j ∷ [])) places (job_block j) (λ none. some ((waits_last (Free (job_block j)) o waiting j none).1 refl))
    (λ id none. (waits_last (Free id) o waiting j none).0) ready

-- any other one takes none
pub accepted_free : (c : Configuration) (o : Option Job) (waiting : List Job) (j : Job) (places : Ready) → AreReady c (option_to_list o ++ waiting) places
    → AreReady c (option_to_list o ++ (waiting ++ j ∷ [])) places
accepted_free c o waiting j places ready = ready_more c (option_to_list o ++ waiting) (option_to_list o ++ (waiting ++ j ∷ [])) places (λ id none. (waits_last (Free id) o waiting j none).0) ready

-- A JOB IS PICKED
-- it had no content before where it has none behind
none_before : (content : Option (List ℕ × ℕ)) (t : Taken) → content_after content t ≡ None → content ≡ None
none_before content TookNothing none = none
none_before content (TookContent bytes store) none = cc
none_before content (TookRefused count) none = none
none_before content (TookStale asked got count) none = none

between : (P : Job → Type 0) (before : List Job) (j : Job) (behind : List Job) → P j → Each P (before ++ behind) → Each P (before ++ j ∷ behind)
between P [] j behind here each = (here, each)
between P (x ∷ before) j behind here each = (each.0, between P before j behind here each.1)

interrupted_free : (id : ℕ) (o : Option Job) (before : List Job) (j : Job) (behind : List Job) → Free id j → Each (Free id) (interrupted o (before ++ behind)) → Each (Free id) (option_to_list o ++ (before ++ j ∷ behind))
interrupted_free id None before j behind here each = between (Free id) before j behind here each
interrupted_free id (Some h) before j behind here each = (each.0, between (Free id) before j behind here each.1)

picked_less : (c : Configuration) (o : Option Job) (waiting : List Job) (j : Job) (t : Taken) (n : ℕ) → next_in c waiting ≡ Some j → AreApart waiting → (id : ℕ)
    → NoneHolds (picked_job t n j ∷ interrupted o (without_job j.number waiting)) id → NoneHolds (option_to_list o ++ waiting) id
picked_less c o waiting j t n next apart id none =
    let (before, behind, is) = next_is_waiting c waiting j next in
    let without : without_job j.number waiting ≡ before ++ behind = ap (without_job j.number) is ∙ without_split before j behind (apart_parts before j behind (subst AreApart is apart)).0 in
    subst (λ (js : List Job). Each (Free id) (option_to_list o ++ js)) (sym is)
    (interrupted_free id o before j behind (λ on. none_before j.content t (none.0 on)) (subst (λ (js : List Job). Each (Free id) (interrupted o js)) without none.1))

-- where it takes a copy it takes its block's place; one that is interrupted keeps its own
pub picked_copy : (c : Configuration) (o : Option Job) (waiting : List Job) (j : Job) (bytes : List ℕ) (store n : ℕ) (places : Ready) → next_in c waiting ≡ Some j → AreApart waiting
    → AreReady c (option_to_list o ++ waiting) places
    → AreReady c (picked_job (TookContent bytes store) n j ∷ interrupted o (without_job j.number waiting)) (slice_set places (job_block j) None)
picked_copy c o waiting j bytes store n places next apart ready =
    ready_taken c (option_to_list o ++ waiting) (picked_job (TookContent bytes store) n j ∷ interrupted o (without_job j.number waiting)) places (job_block j)
    (λ none. let is = none.0 refl in cc is) (picked_less c o waiting j (TookContent bytes store) n next apart) ready

-- else none
pub picked_free : (c : Configuration) (o : Option Job) (waiting : List Job) (j : Job) (t : Taken) (n : ℕ) (places : Ready) → next_in c waiting ≡ Some j → AreApart waiting
    → AreReady c (option_to_list o ++ waiting) places → AreReady c (picked_job t n j ∷ interrupted o (without_job j.number waiting)) places
picked_free c o waiting j t n places next apart ready =
    ready_more c (option_to_list o ++ waiting) (picked_job t n j ∷ interrupted o (without_job j.number waiting)) places (picked_less c o waiting j t n next apart) ready

-- A JOB ENDS
-- with a content, its place comes back
pub ended_holds : (c : Configuration) (j : Job) (waiting : List Job) (content : List ℕ) (places : Ready) → job_block j < length places → length content ≡ (desc_of c (job_block j)).length
    → AreReady c (j ∷ waiting) places → AreReady c waiting (slice_set places (job_block j) (Some content))
ended_holds c j waiting content places place whole ready =
    ready_back c (j ∷ waiting) waiting places (job_block j) content place whole (λ id other none. ((λ on. absurd (other (sym on))), none)) ready

-- else it is there
pub ended_free : (c : Configuration) (j : Job) (waiting : List Job) (places : Ready) → j.content ≡ None → AreReady c (j ∷ waiting) places → AreReady c waiting places
ended_free c j waiting places free ready = ready_more c (j ∷ waiting) waiting places (λ id none. ((λ on. free), none)) ready

-- WITH EACH ENTRY
by_content : (c : Configuration) (o : Option Job) (waiting : List Job) (j : Job) (places : Ready) (content : Option (List ℕ × ℕ)) → j.content ≡ content
    → AreReady c (option_to_list o ++ waiting) places
    → AreReady c (option_to_list o ++ (waiting ++ j ∷ [])) (taken_from places (job_block j) (option_map (λ x. x.0) content))
by_content c o waiting j places None is ready = accepted_free c o waiting j places ready
by_content c o waiting j places (Some x) is ready = accepted_holds c o waiting j places (λ none. cc) ready

-- a job that is accepted takes its content there
pub accepted_ready : (c : Configuration) (s : State) (r : Request) (places : Ready) → is_some (job_kind r) ≡ true → AreReady c (jobs_of s) places
    → AreReady c (jobs_of (accepted c s r)) (taken_from places (asked_block r) (option_map (λ x. x.0) (asked_content r)))
accepted_ready c s r places some ready =
    rw (accepted_job c s r (job_kind r) refl some) (by_content c s.hand s.waiting (job_at c s.count r) places (asked_content r) refl ready)

-- a job that is picked takes a copy there, if it takes one
pub picked_ready : (c : Configuration) (s : State) (j : Job) (t : Take) (lent : List ℕ) (places : Ready) → next_in c s.waiting ≡ Some j → AreApart s.waiting
    → AreReady c (jobs_of s) places
    → AreReady c (jobs_of (in_hand c s j (taken_with j.content (took_of t lent)))) (taken_from places (job_block j) (copied_of t lent))
picked_ready c s j (take.Copied store) lent places next apart ready = picked_copy c s.hand s.waiting j lent store (if is_some s.hand then 2 else 0) places next apart ready
picked_ready c s j t lent places next apart ready = picked_free c s.hand s.waiting j (taken_with j.content (took_of t lent)) (if is_some s.hand then 2 else 0) places next apart ready

-- so does a member of a request on all blocks, where no job is pending
pub member_ready : (c : Configuration) (j : Job) (t : Take) (lent : List ℕ) (n : ℕ) (places : Ready) → AreReady c [] places
    → AreReady c (picked_job (taken_with None (took_of t lent)) n j ∷ []) (taken_from places (job_block j) (copied_of t lent))
member_ready c j (take.Copied store) lent n places ready =
    ready_taken c [] (picked_job (TookContent lent store) n j ∷ []) places (job_block j) (λ none. let is = none.0 refl in cc is) (λ id none. tt) ready
member_ready c j t lent n places ready = ready_more c [] (picked_job (taken_with None (took_of t lent)) n j ∷ []) places (λ id none. tt) ready

-- one that writes keeps its content
pub wrote_ready : (c : Configuration) (s : State) (i : Instance) (mark : Mark) (places : Ready) (o : Option Job) → s.hand ≡ o → AreReady c (jobs_of s) places
    → AreReady c (jobs_of (wrote s i mark o)) places
wrote_ready c s i mark places None is ready = ready
wrote_ready c s i mark places (Some j) is ready = subst (λ (o : Option Job). AreReady c (option_to_list o ++ s.waiting) places) is ready

-- one that ends gives it back
pub ended_ready : (c : Configuration) (j : Job) (waiting : List Job) (places : Ready) (content : Option (List ℕ × ℕ)) → j.content ≡ content
    → job_block j < length places → IfSome content (λ x. length x.0 ≡ (desc_of c (job_block j)).length) → AreReady c (j ∷ waiting) places
    → AreReady c waiting (put_back places (job_block j) (option_map (λ x. x.0) content))
ended_ready c j waiting places None is place whole ready = ended_free c j waiting places is ready
ended_ready c j waiting places (Some x) is place whole ready = ended_holds c j waiting x.0 places place whole ready

-- the number of places stays
pub taken_length : (places : Ready) (block : ℕ) (content : Option (List ℕ)) → length (taken_from places block content) ≡ length places
taken_length places block None = refl
taken_length places block (Some content) = length-set places block None

pub back_length : (places : Ready) (block : ℕ) (content : Option (List ℕ)) → length (put_back places block content) ≡ length places
back_length places block None = refl
back_length places block (Some content) = length-set places block (Some content)

-- A PLACE IS READY
-- of a block that isn't PENDING
none_pending : (c : Configuration) (s : State) (id : ℕ) (jobs : List Job) → Each (IsPendingJob c s) jobs → is_pending (status_of s id) ≡ false → NoneHolds jobs id
none_pending c s id jobs pending free = each_more (IsPendingJob c s) (λ j. job_block j ≡ id → j.content ≡ None) jobs (λ j h is. cc (h.pending, is, free)) pending

-- one on which the next job, which has no content, waits
at_mid : (P : Job → Type 0) (before : List Job) (j : Job) (after : List Job) → Each P (before ++ j ∷ after) → P j
at_mid P [] j after each = each.0
at_mid P (x ∷ before) j after each = at_mid P before j after each.1

none_among : (before : List Job) (j : Job) (after : List Job) → j.content ≡ None → StandApart (before ++ j ∷ after)
    → NoneHolds (before ++ j ∷ after) (job_block j)
none_among [] j after none apart = (
  λ is. none,
  each_more (λ x. IsOther x j) (λ x. job_block x ≡ job_block j → x.content ≡ None) after (λ x other is. absurd (other.block is)) apart.0,
)
none_among (x ∷ before) j after none apart = (
  λ is. absurd ((at_mid (λ y. IsOther y x) before j after apart.0).block (sym is)),
  none_among before j after none apart.1,
)

none_held : (n : ℕ) (waiting : List Job) (o : Option Job) (before : List Job) (j : Job) (after : List Job) → waiting ≡ before ++ j ∷ after
    → IfSome o (IsHeld n waiting) → NoneHolds waiting (job_block j) → NoneHolds (option_to_list o ++ waiting) (job_block j)
none_held n waiting None before j after is held none = none
none_held n waiting (Some h) before j after is held none = (
  λ same. absurd ((at_mid (λ y. IsOther y h) before j after (subst (StandsApart h) is held.apart)).block (sym same)),
  none,
)

none_beside : (c : Configuration) (p : Pending) (s : State) (j : Job) → Agree c p s.waiting s.hand → next_in c s.waiting ≡ Some j → j.content ≡ None
    → NoneHolds (jobs_of s) (job_block j)
none_beside c p s j agree next none =
    let (before, after, is) = next_is_waiting c s.waiting j next in
    none_held p.slots.places s.waiting s.hand before j after is agree.hand_apart
    (subst (λ js. NoneHolds js (job_block j)) (sym is) (none_among before j after none (subst StandApart is agree.apart)))

-- PENDING blocks are known
known_pending : (bs : List BlockState) (id : ℕ) → is_pending (get_or bs id no_block).status ≡ true → id < length bs
known_pending [] id is = cc
known_pending (b ∷ bs) zero is = omega arith
known_pending (b ∷ bs) (suc id) is = omega (arith, known_pending bs id is)

pub next_place : (c : Configuration) (p : Pending) (s : State) (j : Job) (places : Ready) → Agree c p s.waiting s.hand → next_in c s.waiting ≡ Some j
    → is_pending (status_of s (job_block j)) ≡ true → length s.blocks ≡ length c.blocks + 1 → AreReady c (jobs_of s) places → j.content ≡ None → IsReady c places (job_block j)
next_place c p s j places agree next pending size ready none =
    ready (job_block j) (omega (arith, known_pending s.blocks (job_block j) pending, size)) (none_beside c p s j agree next none)

pub asked_place : (c : Configuration) (s : State) (id : ℕ) (places : Ready) → id ≤ length c.blocks → is_pending (status_of s id) ≡ false
    → Each (IsPendingJob c s) (jobs_of s) → AreReady c (jobs_of s) places → IsReady c places id
asked_place c s id places known free pending ready = ready id known (none_pending c s id (jobs_of s) pending free)

-- a content of the block's length fits there
fits_by : (n m : ℕ) (o : Option (List ℕ)) → n ≡ m → IsSomeAnd o (λ bytes. length bytes ≡ n) → IsSomeAnd o (λ bytes. length bytes ≡ m)
fits_by n m None same is = is
fits_by n m (Some x) same is = is ∙ same

pub asked_fits : (c : Configuration) (places : Ready) (id : ℕ) (content : Option (List ℕ × ℕ)) → IsReady c places id
    → IfSome content (λ x. length x.0 ≡ (desc_of c id).length) → IfSome content (λ x. IsSomeAnd (get_or places id None) (λ bytes. length bytes ≡ length x.0))
asked_fits c places id None is whole = tt
asked_fits c places id (Some x) is whole = fits_by (desc_of c id).length (length x.0) (get_or places id None) (sym whole) is

pub copy_fits : (c : Configuration) (places : Ready) (id : ℕ) (t : Take) (lent : List ℕ) (content : Option (List ℕ × ℕ)) → (content ≡ None → IsReady c places id)
    → IfSome (content_after content (taken_with content (took_of (own_first t content) lent))) (λ x. length x.0 ≡ (desc_of c id).length)
    → IfSome (copied_of (own_first t content) lent) (λ x. IsSomeAnd (get_or places id None) (λ bytes. length bytes ≡ length x))
copy_fits c places id (take.Copied store) lent None is whole = fits_by (desc_of c id).length (length lent) (get_or places id None) (sym whole) (is refl)
copy_fits c places id (take.Copied store) lent (Some x) is whole = tt
copy_fits c places id take.Nothing lent content is whole = tt
copy_fits c places id take.Own lent content is whole = tt
copy_fits c places id (take.Refused count) lent content is whole = tt
copy_fits c places id (take.Stale asked got count) lent content is whole = tt

-- MADE ONE BY ONE
pub ready_pushed : (c : Configuration) (n : ℕ) (places : Ready) (x : Option (List ℕ)) → length places ≡ n → ((id : ℕ) → id < n → IsReady c places id) → IsSomeAnd x (λ bytes. length bytes ≡ (desc_of c n).length)
    → (id : ℕ) → id < n + 1 → IsReady c (places ++ x ∷ []) id
ready_pushed c n places x many ready whole id low = elim (cases_lt id n) [
  | inl below ↦ subst (λ (o : Option (List ℕ)). IsSomeAnd o (λ bytes. length bytes ≡ (desc_of c id).length)) (sym (get_or_append_left places (x ∷ []) None id (omega (arith, below, many)))) (ready id below)
  | inr over ↦
      let is : id ≡ n = omega (arith, over, low) in
      let at : get_or (places ++ x ∷ []) n None ≡ x = ap (λ (k : ℕ). get_or (places ++ x ∷ []) k None) (sym many) ∙ get_or-append_seam places x [] None in
      subst (λ (k : ℕ). IsReady c (places ++ x ∷ []) k) (sym is) (subst (λ (o : Option (List ℕ)). IsSomeAnd o (λ bytes. length bytes ≡ (desc_of c n).length)) (sym at) whole)
]
