-- What an entry tells of its block's status.
use Rattle.std.specs.Prelude.{IfSome, option_to_list, nat_lt}
use Rattle.std.specs.List.{Contains, enumerate_from}
use Rattle.std.specs.Option.{option_and_then}
use Rattle.std.proofs.Common.{◌≡◌, ◌≢◌, ◌⊎◌, inl, inr, ℕ, zero, suc, ◌≤◌, ◌<◌, Bool, true, false, if◌then◌else◌, List, [], ◌∷◌, ◌++◌, length, map, get_or, is_some, Option, Some, None, refl, sym, ap, ◌∙◌, subst, arith, lt-ltb, ne_eqb, eqb}
use Rattle.std.proofs.lemmas.List.{get_or-set_same}
use Rattle.std.proofs.lemmas.List.Elements.{Contains-append_right}
use Rattle.std.proofs.lemmas.Bool.Decides.{eqb_tells}
use Rattle.nvm_core.specs.nv_base.Result.{code_of}
use Rattle.nvm_core.specs.block_machine.Words.{ReqResult, Fine, NotOk, Pending, IntegrityFailed, BlockSkipped, Invalidated, Canceled, RedundancyFailed, Restored, Request, Read, Write, Restore, Erase, Invalidate, SetIndex, GetIndex, SetProtection, SetLock, SetRam, PutRam, Status, ReadAll, WriteAll, CancelWriteAll, Reply, Accepted, Refused, StatusIs, IndexIs, JobKind, Taken, Entry, Ask, Pick, Wrote, Post, Off, Found, BlockDesc, Configuration}
use Rattle.nvm_core.specs.block_machine.State.{State, BlockState, Job, Sweep}
use Rattle.nvm_core.specs.block_machine.Blocks.{desc_of, block_at, no_block, status_of, is_pending, asked_block, job_kind}
use Rattle.nvm_core.specs.block_machine.Sweeps.{is_picked}
use Rattle.nvm_core.specs.block_machine.Next.{Next, Nothing, PickJob, BeginSweep, PickMember, PostMember, EndSweep, next_of, next_in, next_by, next_member}
use Rattle.nvm_core.proofs.block_laws.ConsistentSteps.{member_block, legal_states_are_consistent}
use Rattle.nvm_core.specs.block_machine.StartUp.{started_block}
use Rattle.nvm_core.specs.block_machine.Steps.{step, after, picked, wrote, with_block}
use Rattle.nvm_core.specs.block_machine.Legal.{IsAllowed, IsLegal, MayPick}
use Rattle.nvm_core.specs.block_laws.Laws.{entry_block}
use Rattle.nvm_core.specs.block_laws.Consistent.{IsConsistent, IsPendingSweep}
use Rattle.nvm_core.proofs.block_laws.HistoryLaws.{histories_step, beginnings_are_legal}
use Rattle.nvm_core.proofs.block_laws.Locality.{entries_are_local, entries_give_status}
use Rattle.nvm_core.proofs.block_laws.MarkOrigins.{stood}
use Rattle.nvm_core.proofs.block_laws.NextLaws.{next_is_waiting}
use Rattle.nvm_core.proofs.block_laws.JobBlocks.{jobs_are_pending, places_are_configured}
use Rattle.nvm_shared.specs.StatusWords.{off_word, told_at, told_by, pending_block, gives_by, gives, is_found}
use Rattle.nvm_shared.specs.Statuses.{IsTold, EntriesTellStatuses}
use Rattle.nvm_shared.proofs.WordsTold.{same, some_pair, told_if}
use Rattle.nvm_shared.proofs.WritingLegal.{allowed_behind}

-- WHAT IS TOLD
stays : (old new : ReqResult) (given : Option ℕ) → given ≡ None → new ≡ old → IsTold old new given
stays old new given nothing as_before = record { none = λ is. as_before; some = λ x is. let never : None ≡ Some x = sym nothing ∙ is in cc }

becomes : (old new : ReqResult) (given : Option ℕ) (y : ℕ) → given ≡ Some y → code_of new ≡ y → IsTold old new given
becomes old new given y one now = record {
  none = λ is. let never : Some y ≡ None = sym one ∙ is in cc;
  some = λ x is. let at : Some y ≡ Some x = sym one ∙ is in let same : y ≡ x = cc in now ∙ same;
}

pending_code : (r : ReqResult) → is_pending r ≡ true → code_of r ≡ 2
pending_code Pending is = refl
pending_code Fine is = cc
pending_code NotOk is = cc
pending_code IntegrityFailed is = cc
pending_code BlockSkipped is = cc
pending_code Invalidated is = cc
pending_code Canceled is = cc
pending_code RedundancyFailed is = cc
pending_code Restored is = cc

pub own_at : (status block : ℕ) → block < off_word → gives_by (told_at status block) block ≡ Some status
own_at status block low = ap (λ (b : Bool). gives_by (told_if b status block) block) (lt-ltb block off_word low) ∙ same block status

-- REQUESTS
with_same : (s : State) (id : ℕ) (change : BlockState → BlockState) → id < length s.blocks → block_at (with_block id change s) id ≡ change (block_at s id)
with_same s id change within = get_or-set_same s.blocks id (change (block_at s id)) no_block within

keeps : (s : State) (id : ℕ) (change : BlockState → BlockState) → ((b : BlockState) → (change b).status ≡ b.status) → id < length s.blocks
    → status_of (with_block id change s) id ≡ status_of s id
keeps s id change same within = ap (λ (b : BlockState). b.status) (with_same s id change within) ∙ same (block_at s id)

module _ (c : Configuration) (s : State) (caller : ℕ) where
  asked_job : (r : Request) → (cap : ℕ) → is_some (job_kind r) ≡ true → pending_block r ≡ Some (asked_block r) → asked_block r < length s.blocks → asked_block r < off_word
      → IsTold (status_of s (asked_block r)) (status_of (step c s (Ask caller r Accepted)) (asked_block r)) (gives (Ask caller r Accepted) (asked_block r))
  asked_job r cap makes block within low =
      becomes (status_of s (asked_block r)) (status_of (step c s (Ask caller r Accepted)) (asked_block r)) (gives (Ask caller r Accepted) (asked_block r)) 2
      (ap (λ (o : Option ℕ). gives_by (option_and_then (told_at (code_of Pending)) o) (asked_block r)) block ∙ own_at 2 (asked_block r) low)
      (pending_code (status_of (step c s (Ask caller r Accepted)) (asked_block r)) ((entries_give_status c cap s 0 0 0 caller Fine None r).1 makes within))

  asked : (cap : ℕ) (r : Request) (reply : Reply) → asked_block r < length s.blocks → asked_block r < off_word
      → IsTold (status_of s (asked_block r)) (status_of (step c s (Ask caller r reply)) (asked_block r)) (gives (Ask caller r reply) (asked_block r))
  asked cap (Read block ram) Accepted within low = asked_job (Read block ram) cap refl refl within low
  asked cap (Write block content store) Accepted within low = asked_job (Write block content store) cap refl refl within low
  asked cap (Restore block ram) Accepted within low = asked_job (Restore block ram) cap refl refl within low
  asked cap (Erase block) Accepted within low = asked_job (Erase block) cap refl refl within low
  asked cap (Invalidate block) Accepted within low = asked_job (Invalidate block) cap refl refl within low
  asked cap (SetIndex block index) Accepted within low = stays _ _ _ refl (keeps s block (λ b. record b { index = index }) (λ b. refl) within)
  asked cap (GetIndex block) Accepted within low = stays _ _ _ refl refl
  asked cap (SetProtection block on) Accepted within low = stays _ _ _ refl (keeps s block (λ b. record b { protected = on }) (λ b. refl) within)
  asked cap (SetLock block on) Accepted within low = stays _ _ _ refl (keeps s block (λ b. record b { locked = on }) (λ b. refl) within)
  asked cap (SetRam block on) Accepted within low = stays _ _ _ refl (keeps s block (λ b. record b { valid = on; changed = on }) (λ b. refl) within)
  asked cap (PutRam block content) Accepted within low = stays _ _ _ refl (keeps s block (λ b. record b { ram = content }) (λ b. refl) within)
  asked cap (Status block) Accepted within low = stays _ _ _ refl refl
  asked cap ReadAll Accepted within low = becomes _ _ _ 2 (own_at 2 0 low) (ap (λ (b : BlockState). code_of b.status) (with_same s 0 (λ b. record b { status = Pending }) within))
  asked cap WriteAll Accepted within low = becomes _ _ _ 2 (own_at 2 0 low) (ap (λ (b : BlockState). code_of b.status) (with_same s 0 (λ b. record b { status = Pending }) within))
  asked cap CancelWriteAll Accepted within low = stays _ _ _ refl refl
  asked cap r (Refused why) within low = stays _ _ _ refl refl
  asked cap r (StatusIs status) within low = stays _ _ _ refl refl
  asked cap r (IndexIs index) within low = stays _ _ _ refl refl

-- PICKS
-- what comes next in a request on all blocks is of a member, or its end
abbrev IsOfMembers : Next → Type 0
IsOfMembers (PickMember sw id) = Unit {0}
IsOfMembers (PostMember sw id) = Unit {0}
IsOfMembers (EndSweep sw) = Unit {0}
IsOfMembers n = ⊥

of_member : (c : Configuration) (s : State) (sw : Sweep) (ids : List ℕ) → IsOfMembers (next_member c s sw ids)
of_member c s sw [] = tt
of_member c s sw (id ∷ ids) = by (is_picked (desc_of c id) (block_at s id) sw id)
  where
    by : (b : Bool) → IsOfMembers (if b then PickMember sw id else PostMember sw id)
    by true = tt
    by false = tt

next_job : (c : Configuration) (s : State) (j : Job) (n : Option Job) (hand : Option Job) (sweep : Option Sweep) → next_by c s n hand sweep ≡ PickJob j → n ≡ Some j
next_job c s j (Some k) hand sweep is = let same : k ≡ j = cc in ap (λ (x : Job). Some x) same
next_job c s j None None (Some sw) is = absurd (never sw.under_way is)
  where
    never : (b : Bool) → (if b then next_member c s sw (if sw.canceled then [] else sw.left) else BeginSweep sw) ≡ PickJob j → ⊥
    never true is = subst IsOfMembers is (of_member c s sw (if sw.canceled then [] else sw.left))
    never false is = cc
next_job c s j None None None is = cc
next_job c s j None (Some k) sweep is = cc

next_sweep : (c : Configuration) (s : State) (sw : Sweep) (n : Option Job) (hand : Option Job) (sweep : Option Sweep) → next_by c s n hand sweep ≡ BeginSweep sw → sweep ≡ Some sw
next_sweep c s sw (Some k) hand sweep is = cc
next_sweep c s sw None None (Some x) is = by x.under_way is
  where
    by : (b : Bool) → (if b then next_member c s x (if x.canceled then [] else x.left) else BeginSweep x) ≡ BeginSweep sw → Some x ≡ Some sw
    by true is = absurd (subst IsOfMembers is (of_member c s x (if x.canceled then [] else x.left)))
    by false is = let same : x ≡ sw = cc in ap (λ (y : Sweep). Some y) same
next_sweep c s sw None None None is = cc
next_sweep c s sw None (Some k) sweep is = cc

swept : (s : State) (o : Option Sweep) (sw : Sweep) → o ≡ Some sw → IfSome o (IsPendingSweep s) → IsPendingSweep s sw
swept s (Some x) sw is pending = let same : x ≡ sw = cc in subst (IsPendingSweep s) same pending
swept s None sw is pending = cc

module _ (c : Configuration) (cap : ℕ) (h : List Entry) (legal : IsLegal c cap h) (consistent : IsConsistent c (after c h)) where
  abbrev s : State
  s = after c h

  picked_by : (block : ℕ) (kind : JobKind) (t : Taken) (n : Next) → next_of c s ≡ n → MayPick c s block kind t n → block < length s.blocks → is_pending (status_of (picked c s t n) block) ≡ true
  picked_by block kind t (PickJob j) is may within =
      let (front, rest, at) = next_is_waiting c s.waiting j (next_job c s j (next_in c s.waiting) s.hand s.sweep is) in
      let here : Contains (option_to_list s.hand ++ s.waiting) j = Contains-append_right (option_to_list s.hand) s.waiting j (subst (λ (l : List Job). Contains l j) (sym at) (Contains-append_right front (j ∷ rest) j (0, omega arith, refl))) in
      subst (λ (b : ℕ). is_pending (status_of s b) ≡ true) (sym may.same_block)
      (jobs_are_pending c cap h j legal here (subst (λ (b : ℕ). b < length s.blocks) may.same_block within))
  picked_by block kind t (PickMember sw id) is may within =
      let at : block ≡ id = may.same_block ∙ member_block sw.writes id in
      subst (λ (b : ℕ). is_pending (status_of (picked c s t (PickMember sw id)) b) ≡ true) (sym at)
      (ap (λ (b : BlockState). is_pending b.status) (with_same s id (λ b. record b { status = Pending }) (subst (λ (b : ℕ). b < length s.blocks) at within)))
  picked_by block kind t (BeginSweep sw) is may within =
      subst (λ (b : ℕ). is_pending (status_of s b) ≡ true) (sym may.all_blocks)
      (swept s s.sweep sw (next_sweep c s sw (next_in c s.waiting) s.hand s.sweep is) consistent.sweep).pending
  picked_by block kind t (PostMember sw id) is may within = absurd may
  picked_by block kind t (EndSweep sw) is may within = absurd may
  picked_by block kind t Nothing is may within = absurd may

-- ALL ENTRIES
wrote_blocks : (s : State) (i : _) (mark : _) (hand : Option Job) → (wrote s i mark hand).blocks ≡ s.blocks
wrote_blocks s i mark None = refl
wrote_blocks s i mark (Some j) = refl

-- the block whose word an entry changes is its own
told_of : (status block word x : ℕ) → told_at status block ≡ Some (word, x) → word ≡ block
told_of status block word x is = by (nat_lt block off_word) is
  where
    by : (b : Bool) → told_if b status block ≡ Some (word, x) → word ≡ block
    by true is = sym (some_pair (block, status) (word, x) is)
    by false is = cc

gives_own : (o : Option (ℕ × ℕ)) (block : ℕ) → ((word x : ℕ) → o ≡ Some (word, x) → word ≡ block) → (b : ℕ) → b ≢ block → gives_by o b ≡ None
gives_own None block own b apart = refl
gives_own (Some p) block own b apart = off b (λ same. apart (sym same ∙ own p.0 p.1 refl))
  where
    off : (b : ℕ) → (p.0 ≡ b → ⊥) → gives_by (Some p) b ≡ None
    off b not = ap (λ (t : Bool). if t then Some p.1 else None) (ne_eqb p.0 b not)

not_own : (e : Entry) (b : ℕ) → is_found e ≡ false → b < off_word → b ≢ entry_block e → gives e b ≡ None
not_own (Ask caller r Accepted) b is low apart = gives_own (told_by (Ask caller r Accepted)) (asked_block r) (by r) b apart
  where
    by : (r : Request) (word x : ℕ) → told_by (Ask caller r Accepted) ≡ Some (word, x) → word ≡ asked_block r
    by (Read block ram) word x is = told_of 2 block word x is
    by (Write block content store) word x is = told_of 2 block word x is
    by (Restore block ram) word x is = told_of 2 block word x is
    by (Erase block) word x is = told_of 2 block word x is
    by (Invalidate block) word x is = told_of 2 block word x is
    by ReadAll word x is = told_of 2 0 word x is
    by WriteAll word x is = told_of 2 0 word x is
    by r word x is = cc
not_own (Ask caller r (Refused why)) b is low apart = refl
not_own (Ask caller r (StatusIs status)) b is low apart = refl
not_own (Ask caller r (IndexIs index)) b is low apart = refl
not_own (Pick block kind t ops) b is low apart = gives_own (told_by (Pick block kind t ops)) block (told_of 2 block) b apart
not_own (Wrote i mark ops) b is low apart = refl
not_own (Post block r given refused ops) b is low apart = gives_own (told_by (Post block r given refused ops)) block (told_of (code_of r) block) b apart
not_own (Off ops) b is low apart = ap (λ (t : Bool). if t then Some 1 else None) (ne_eqb off_word b (λ same. absurd (omega (arith, low, same))))
not_own (Found marks ops) b is low apart = cc

-- a start-up gives each block the status 0
found_from : (c : Configuration) (marks : _) (xs : List (ℕ × BlockDesc)) (k : ℕ) → code_of (get_or (map (λ x. started_block c marks x.0 x.1) xs) k no_block).status ≡ 0
found_from c marks [] k = refl
found_from c marks (x ∷ xs) zero = refl
found_from c marks (x ∷ xs) (suc k) = found_from c marks xs k

found_at : (c : Configuration) (s : State) (marks : _) (ops k : ℕ) → code_of (status_of (step c s (Found marks ops)) k) ≡ 0
found_at c s marks ops zero = refl
found_at c s marks ops (suc k) = found_from c marks (enumerate_from 1 c.blocks) k

module _ (c : Configuration) (cap : ℕ) (h : List Entry) (legal : IsLegal c cap h) where
  own : (e : Entry) → is_found e ≡ false → IsAllowed c cap (after c h) e → entry_block e < length (after c h).blocks → entry_block e < off_word
      → IsTold (status_of (after c h) (entry_block e)) (status_of (step c (after c h) e) (entry_block e)) (gives e (entry_block e))
  own (Ask caller r reply) is allowed within low = asked c (after c h) caller cap r reply within low
  own (Pick block kind t ops) is allowed within low = becomes _ _ _ 2 (own_at 2 block low)
      (pending_code _ (picked_by c cap h legal (legal_states_are_consistent c cap h legal) block kind t (next_of c (after c h)) refl allowed.1 within))
  own (Wrote i mark ops) is allowed within low = stays _ _ _ refl (ap (λ (bs : List BlockState). (get_or bs 0 no_block).status) (wrote_blocks (after c h) i mark (after c h).hand))
  own (Post block r given refused ops) is allowed within low = becomes _ _ _ (code_of r) (own_at (code_of r) block low)
      (ap code_of ((entries_give_status c cap (after c h) block refused ops 0 r given ReadAll).0 allowed within))
  own (Off ops) is allowed within low = stays _ _ _ refl refl
  own (Found marks ops) is allowed within low = cc

  each : (e : Entry) (block : ℕ) → is_found e ≡ false → IsAllowed c cap (after c h) e → block < length (after c h).blocks → block < off_word
      → IsTold (status_of (after c h) block) (status_of (step c (after c h) e) block) (gives e block)
  each e block is allowed within low = by (eqb_tells block (entry_block e))
    where
      by : ((eqb block (entry_block e) ≡ true) × (block ≡ entry_block e)) ⊎ ((eqb block (entry_block e) ≡ false) × (block ≢ entry_block e))
          → IsTold (status_of (after c h) block) (status_of (step c (after c h) e) block) (gives e block)
      by (inl (on, here)) = subst (λ (b : ℕ). IsTold (status_of (after c h) b) (status_of (step c (after c h) e) b) (gives e b)) (sym here)
          (own e is allowed (subst (λ (b : ℕ). b < length (after c h).blocks) here within) (subst (λ (b : ℕ). b < off_word) here low))
      by (inr (off, apart)) = stays _ _ _ (not_own e block is low apart) (ap (λ (b : BlockState). b.status) (entries_are_local c cap (after c h) e block allowed is apart))

  entry : (e : Entry) (block : ℕ) → IsAllowed c cap (after c h) e → block ≤ length c.blocks → block < off_word
      → IsTold (status_of (after c h) block) (status_of (step c (after c h) e) block) (gives e block)
  entry (Found marks ops) block allowed few low = becomes _ _ _ 0 refl (found_at c (after c h) marks ops block)
  entry e block allowed few low =
      let count = (places_are_configured c cap h legal (stood c cap (after c h) e allowed refl)).0 in each e block refl allowed (omega (arith, count, few)) low

pub entries_tell : EntriesTellStatuses
entries_tell c cap h e block legal few low =
    subst (λ (t : State). IsTold (status_of (after c h) block) (status_of t block) (gives e block)) (sym (histories_step c h e))
    (entry c cap h (beginnings_are_legal c cap h (e ∷ []) legal) e block (allowed_behind c cap h e legal) few low)
