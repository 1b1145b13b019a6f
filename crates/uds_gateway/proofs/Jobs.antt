-- What each entry does to the job of a request.
use Rattle.std.specs.Prelude.{drop, find, option_map, is_some, ◌-◌}
use Rattle.std.specs.Option.{option_map_or}
use Rattle.std.proofs.Common.{◌≡◌, ◌+◌, ℕ, Bool, true, false, List, [], ◌∷◌, ◌++◌, Option, Some, None, if◌then◌else◌, refl, sym, ap, ◌∙◌, subst, inl, inr}
use Rattle.std.proofs.lemmas.Bool.{cases_Bool, eq-eqb}
use Rattle.nvm_moves.specs.block_machine.Words.{ReqResult, Instance, Mark, JobKind, Taken, Request, Read, Write, Restore, Erase, Invalidate, SetIndex, GetIndex, SetProtection, SetLock, SetRam, PutRam, Status, ReadAll, WriteAll, CancelWriteAll, Reply, Accepted, Refused, Refusal, UnknownBlock, NotStarted, Ask, Pick, Wrote, Post, Configuration}
use Rattle.nvm_moves.specs.block_machine.State.{State, Job, Sweep}
use Rattle.nvm_moves.specs.block_machine.Blocks.{asked_block, job_block}
use Rattle.nvm_moves.specs.block_machine.Reply.{holds, tested, reply_of}
use Rattle.nvm_moves.specs.block_machine.Next.{Next, PickJob, Nothing, next_of}
use Rattle.nvm_moves.specs.block_machine.Results.{Answer}
use Rattle.nvm_moves.specs.block_machine.Sweeps.{after_member}
use Rattle.nvm_moves.specs.block_machine.Legal.{MayPick, MayPostNext}
use Rattle.nvm_moves.specs.block_machine.Steps.{job_at, step, picked, picked_job, wrote, posted}
use Rattle.uds_gateway.specs.Jobs.{HasNone, HasOne, Waits, IsInHand, IsOwn}

-- WHAT COMES NEXT

pub next_waiting : (c : Configuration) (asked : Request) (s : State) → (w : Waits asked s) → next_of c s ≡ PickJob w.job
next_waiting c asked s w = rw (w.hand, w.waiting) refl

pub next_in_hand : (c : Configuration) (asked : Request) (s : State) → IsInHand asked s → next_of c s ≡ Nothing
next_in_hand c asked s h = rw (h.hand, h.waiting) refl

-- with nothing waiting and no sweep nothing comes next, and the other way round
pub none_next : (c : Configuration) (s : State) → HasNone s → next_of c s ≡ Nothing
none_next c s n = rw (n.hand, n.waiting, n.sweep) refl

-- A REQUEST

-- a reply that accepts comes while the power is on
not_off : (p : Refusal → Bool) (xs : List Refusal) (reply : Reply) → option_map_or Refused (find p (UnknownBlock ∷ NotStarted ∷ xs)) reply ≡ Accepted → p NotStarted ≡ false
not_off p xs reply is = elim (cases_Bool (p UnknownBlock)) [
  | inl unknown ↦ absurd (cc (rw unknown at is))
  | inr known ↦ elim (cases_Bool (p NotStarted)) [ inl off ↦ absurd (cc (rw (known, off) at is)) | inr on ↦ on ]
]

pub accepted_on : (c : Configuration) (cap : ℕ) (s : State) (asked : Request) → IsOwn asked → reply_of c cap s asked ≡ Accepted → s.off ≡ false
accepted_on c cap s (Read block true) own is = absurd (cc own)
accepted_on c cap s (Read block false) own is = not_off (λ x. holds c cap s x (Read block false)) (drop 2 (tested (Read block false))) Accepted is
accepted_on c cap s (Write block None store) own is = absurd own
accepted_on c cap s (Write block (Some content) store) own is = not_off (λ x. holds c cap s x (Write block (Some content) store)) (drop 2 (tested (Write block (Some content) store))) Accepted is
accepted_on c cap s (Restore block ram) own is = absurd own
accepted_on c cap s (Erase block) own is = absurd own
accepted_on c cap s (Invalidate block) own is = absurd own
accepted_on c cap s (SetIndex block index) own is = absurd own
accepted_on c cap s (GetIndex block) own is = absurd own
accepted_on c cap s (SetProtection block on) own is = absurd own
accepted_on c cap s (SetLock block on) own is = absurd own
accepted_on c cap s (SetRam block on) own is = absurd own
accepted_on c cap s (PutRam block content) own is = absurd own
accepted_on c cap s (Status block) own is = absurd own
accepted_on c cap s ReadAll own is = absurd own
accepted_on c cap s WriteAll own is = absurd own
accepted_on c cap s CancelWriteAll own is = absurd own

-- so with none pending before it has its job alone
pub accepted_one : (c : Configuration) (cap : ℕ) (s : State) (caller : ℕ) (asked : Request) → IsOwn asked → HasNone s → reply_of c cap s asked ≡ Accepted → HasOne asked (step c s (Ask caller asked Accepted))
accepted_one c cap s caller (Read block ram) own n is = record {
  on = accepted_on c cap s (Read block ram) own is;
  sweep = n.sweep;
  job = inl (record { job = job_at c s.count (Read block ram); request = refl; hand = n.hand; waiting = ap (λ (js : List Job). js ++ job_at c s.count (Read block ram) ∷ []) n.waiting });
}
accepted_one c cap s caller (Write block content store) own n is = record {
  on = accepted_on c cap s (Write block content store) own is;
  sweep = n.sweep;
  job = inl (record { job = job_at c s.count (Write block content store); request = refl; hand = n.hand; waiting = ap (λ (js : List Job). js ++ job_at c s.count (Write block content store) ∷ []) n.waiting });
}
accepted_one c cap s caller (Restore block ram) own n is = absurd own
accepted_one c cap s caller (Erase block) own n is = absurd own
accepted_one c cap s caller (Invalidate block) own n is = absurd own
accepted_one c cap s caller (SetIndex block index) own n is = absurd own
accepted_one c cap s caller (GetIndex block) own n is = absurd own
accepted_one c cap s caller (SetProtection block on) own n is = absurd own
accepted_one c cap s caller (SetLock block on) own n is = absurd own
accepted_one c cap s caller (SetRam block on) own n is = absurd own
accepted_one c cap s caller (PutRam block content) own n is = absurd own
accepted_one c cap s caller (Status block) own n is = absurd own
accepted_one c cap s caller ReadAll own n is = absurd own
accepted_one c cap s caller WriteAll own n is = absurd own
accepted_one c cap s caller CancelWriteAll own n is = absurd own

-- a refused one changes nothing
pub refused_none : (c : Configuration) (s : State) (caller : ℕ) (asked : Request) (why : Refusal) → HasNone s → HasNone (step c s (Ask caller asked (Refused why)))
refused_none c s caller asked why n = record { hand = n.hand; waiting = n.waiting; sweep = n.sweep }

-- THE DRIVER'S ENTRIES

-- a Pick takes it in hand
pub picks_one : (c : Configuration) (s : State) (asked : Request) (block ops : ℕ) (kind : JobKind) (t : Taken) → HasOne asked s → MayPick c s block kind t (next_of c s) → HasOne asked (step c s (Pick block kind t ops))
picks_one c s asked block ops kind t one may = elim one.job [
  | inl w ↦ subst (λ (n : Next). HasOne asked (record (picked c s t n) { count = s.count + 1; ops = ops })) (sym (next_waiting c asked s w)) (record {
    on = one.on;
    sweep = one.sweep;
    job = inr (record {
      job = picked_job t (if is_some s.hand then 2 else 0) w.job;
      request = w.request;
      hand = refl;
      waiting = rw (w.hand, w.waiting, eq-eqb w.job.number w.job.number refl) refl;
    });
  })
  | inr h ↦ absurd (subst (λ (n : Next). MayPick c s block kind t n) (next_in_hand c asked s h) may)
]

-- a Wrote leaves it there
pub writes_one : (c : Configuration) (s : State) (asked : Request) (i : Instance) (mark : Mark) (ops : ℕ) → HasOne asked s → HasOne asked (step c s (Wrote i mark ops))
writes_one c s asked i mark ops one = elim one.job [
  | inl w ↦ subst (λ (h : Option Job). HasOne asked (record (wrote s i mark h) { count = s.count + 1; ops = ops })) (sym w.hand) (record {
    on = one.on;
    sweep = one.sweep;
    job = inl (record { job = w.job; request = w.request; hand = w.hand; waiting = w.waiting });
  })
  | inr h ↦ subst (λ (x : Option Job). HasOne asked (record (wrote s i mark x) { count = s.count + 1; ops = ops })) (sym h.hand) (record {
    on = one.on;
    sweep = one.sweep;
    job = inr (record { job = record h.job { reserved = h.job.reserved - 1; written = h.job.written ++ i.index ∷ [] }; request = h.request; hand = refl; waiting = h.waiting });
  })
]

-- a Post is of the job in hand, and leaves none
pub posts_none : (c : Configuration) (s : State) (asked : Request) (j : Job) (block refused ops : ℕ) (r : ReqResult) (given : Option (List ℕ)) → HasOne asked s → s.hand ≡ Some j → HasNone (step c s (Post block r given refused ops)) × (job_block j ≡ asked_block asked)
posts_none c s asked j block refused ops r given one hand = elim one.job [
  | inl w ↦ absurd (cc (sym w.hand ∙ hand))
  | inr h ↦ (
    subst (λ (x : Option Job). HasNone (record (posted c s r given x) { count = s.count + 1; ops = ops })) (sym h.hand) (record {
      hand = refl;
      waiting = h.waiting;
      sweep = ap (λ (x : Option Sweep). option_map (after_member (job_block h.job) r) x) one.sweep;
    }),
    ap (λ (x : Job). job_block x) (some_same (sym hand ∙ h.hand)) ∙ ap asked_block h.request,
  )
]
  where
    some_same : {x y : Job} → Some x ≡ Some y → x ≡ y
    some_same is = cc is

-- without one in hand none comes
pub posts_in_hand : (c : Configuration) (s : State) (asked : Request) (block refused : ℕ) (answer : Answer) → HasOne asked s → s.hand ≡ None → MayPostNext c s block answer refused (next_of c s) → ⊥
posts_in_hand c s asked block refused answer one none may = elim one.job [
  | inl w ↦ subst (λ (n : Next). MayPostNext c s block answer refused n) (next_waiting c asked s w) may
  | inr h ↦ cc (sym none ∙ h.hand)
]

-- nor does nothing come next
pub never_rests : (c : Configuration) (s : State) (asked : Request) → HasOne asked s → s.hand ≡ None → next_of c s ≡ Nothing → ⊥
never_rests c s asked one none nothing = elim one.job [
  | inl w ↦ is_next (sym (next_waiting c asked s w) ∙ nothing)
  | inr h ↦ cc (sym none ∙ h.hand)
]
  where
    is_next : {j : Job} → PickJob j ≡ Nothing → ⊥
    is_next is = cc is

-- A REPLY

-- what is proved of reads to the caller's buffer and writes with their content is so of both
pub own_cases : (P : Request → Type 0) → ((block : ℕ) → P (Read block false)) → ((block : ℕ) (content : List ℕ) → P (Write block (Some content) 0)) → (asked : Request) → IsOwn asked → P asked
own_cases P read write (Read block ram) own = subst (λ (x : Bool). P (Read block x)) (sym own) (read block)
own_cases P read write (Write block (Some content) store) own = subst (λ (n : ℕ). P (Write block (Some content) n)) (sym own) (write block content)
own_cases P read write (Write block None store) own = absurd own
own_cases P read write (Restore block ram) own = absurd own
own_cases P read write (Erase block) own = absurd own
own_cases P read write (Invalidate block) own = absurd own
own_cases P read write (SetIndex block index) own = absurd own
own_cases P read write (GetIndex block) own = absurd own
own_cases P read write (SetProtection block on) own = absurd own
own_cases P read write (SetLock block on) own = absurd own
own_cases P read write (SetRam block on) own = absurd own
own_cases P read write (PutRam block content) own = absurd own
own_cases P read write (Status block) own = absurd own
own_cases P read write ReadAll own = absurd own
own_cases P read write WriteAll own = absurd own
own_cases P read write CancelWriteAll own = absurd own

-- it is accepted or refused
abbrev pub IsYesOrNo : Reply → Type 0
IsYesOrNo Accepted = Unit {0}
IsYesOrNo (Refused why) = Unit {0}
IsYesOrNo reply = ⊥

yes_or_no : (why : Option Refusal) → IsYesOrNo (option_map_or Refused why Accepted)
yes_or_no None = tt
yes_or_no (Some why) = tt

pub own_reply : (c : Configuration) (cap : ℕ) (s : State) (asked : Request) → IsOwn asked → IsYesOrNo (reply_of c cap s asked)
own_reply c cap s =
    own_cases (λ r. IsYesOrNo (reply_of c cap s r)) (λ block. yes_or_no (find (λ x. holds c cap s x (Read block false)) (tested (Read block false))))
    (λ block content. yes_or_no (find (λ x. holds c cap s x (Write block (Some content) 0)) (tested (Write block (Some content) 0))))
