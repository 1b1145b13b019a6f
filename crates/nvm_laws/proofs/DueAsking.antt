-- A request, beside what is due.
use Rattle.std.specs.Prelude.{IfSome, ◌==◌, if◌then◌else◌, not, ◌&&◌, option_to_list}
use Rattle.std.specs.List.{list_all}
use Rattle.std.proofs.Common.{◌≡◌, ◌⊎◌, inl, inr, ℕ, ◌+◌, ◌<◌, ◌≤◌, Bool, true, false, List, [], ◌∷◌, ◌++◌, length, Option, Some, None, refl, sym, ap, ◌∙◌, subst, arith, append_assoc, length-append}
use Rattle.std.proofs.lemmas.List.{append-nil}
use Rattle.memif.specs.Told.{DeviceTold, plans}
use Rattle.block_machine.specs.Words.{Request, Write, SetIndex, SetProtection, SetLock, SetRam, PutRam, ReadAll, WriteAll, CancelWriteAll, Reply, Accepted, JobKind, Entry, Ask, Pending, Configuration}
use Rattle.block_machine.specs.State.{State, BlockState, Job}
use Rattle.block_machine.specs.block_config.Sizes.{instances_of}
use Rattle.block_machine.specs.Blocks.{asked_block, block_at, desc_of, is_pending, job_block, job_kind, rank_of, status_of}
use Rattle.block_machine.specs.Next.{first_of_two, next_in}
use Rattle.block_machine.specs.Reply.{reply_of}
use Rattle.block_machine.specs.Steps.{step, changed, accepted_by, asked, job_at}
use Rattle.nv_desk_copies.specs.nv_desk.Desk.{DeskState, state_of}
use Rattle.nv_desk_copies.specs.nv_desk.Sound.{IsPendingJob}
use Rattle.job_progress.specs.Hand.{HandState}
use Rattle.block_laws.proofs.HistoryLaws.{histories_step, entries_are_counted}
use Rattle.job_progress.proofs.Asking.{pending_stay}
use Rattle.block_laws.proofs.NextLaws.{next_is_waiting}
use Rattle.nvm_laws.specs.Due.{IsDue, IsDueInHand, IsDueNext, pages_now, post_first}
use Rattle.nvm_laws.specs.DueLaws.{AcceptedAreDue, AreReplied, AsksKeepDue, PlansKeepDue, RequestsKeepDue, RequestsKeepDueInHand, IsUrgentRequest, with_entries}
use Rattle.nvm_laws.proofs.DueOrder.{next_with, stays_first, comes_first}
use Rattle.nvm_laws.proofs.DueBlocks.{added, status_index, same_pages}

-- WHAT A REQUEST CHANGES
-- the job in hand stays, and at most one job waits more, with the number of this entry
abbrev WaitsMore : State → State → Type 0
WaitsMore s t = (t.waiting ≡ s.waiting) ⊎ ((j : Job) × (t.waiting ≡ s.waiting ++ j ∷ []) × (j.number ≡ s.count))

abbrev IsBeside : State → State → Type 0
IsBeside s t = (t.hand ≡ s.hand) × WaitsMore s t

changed_beside : (c : Configuration) (s : State) (r : Request) → IsBeside s (changed c s r)
changed_beside c s (SetIndex block index) = (refl, inl refl)
changed_beside c s (SetProtection block on) = (refl, inl refl)
changed_beside c s (SetLock block on) = (refl, inl refl)
changed_beside c s (SetRam block on) = (refl, inl refl)
changed_beside c s (PutRam block content) = (refl, inl refl)
changed_beside c s ReadAll = (refl, inl refl)
changed_beside c s WriteAll = (refl, inl refl)
changed_beside c s CancelWriteAll = (refl, inl refl)
changed_beside c s r = (refl, inl refl)

accepted_beside : (c : Configuration) (s : State) (r : Request) (kind : Option JobKind) → IsBeside s (accepted_by c s r kind)
accepted_beside c s r (Some kind) = (refl, inr (job_at c s.count r, refl, refl))
accepted_beside c s r None = changed_beside c s r

asked_beside : (c : Configuration) (s : State) (r : Request) (reply : Reply) → IsBeside s (asked c s r reply)
asked_beside c s r Accepted = accepted_beside c s r (job_kind r)
asked_beside c s r reply = (refl, inl refl)

-- the next job stays the next one
still_next : (c : Configuration) (s t : State) (j : Job) → WaitsMore s t → (rank_of c j).immediate ≡ true → j.number < s.count → next_in c s.waiting ≡ Some j → next_in c t.waiting ≡ Some j
still_next c s t j (inl same) urgent earlier next = ap (next_in c) same ∙ next
still_next c s t j (inr (x, more, last)) urgent earlier next =
    let less : j.number < x.number = omega (arith, earlier, last) in
    ap (next_in c) more ∙ next_with c s.waiting x ∙ ap (λ (o : Option Job). first_of_two c o x) next ∙ stays_first c j x urgent less

longer : {X : Type 0} (xs : List X) (x : X) → length (xs ++ x ∷ []) ≡ length xs + 1
longer xs x = length-append xs (x ∷ [])

-- A REQUEST MORE
module _ (desk : DeskState) (hand : Option HandState) (d : DeviceTold) (caller : ℕ) (r : Request) (reply : Reply) where
  state_is : state_of (added (Ask caller r reply) desk) ≡ step desk.config (state_of desk) (Ask caller r reply)
  state_is = histories_step desk.config desk.entries (Ask caller r reply)

  held_is : (state_of (added (Ask caller r reply) desk)).hand ≡ (state_of desk).hand
  held_is = ap (λ (t : State). t.hand) state_is ∙ (asked_beside desk.config (state_of desk) r reply).0

  waits_is : WaitsMore (state_of desk) (state_of (added (Ask caller r reply) desk))
  waits_is = by (asked_beside desk.config (state_of desk) r reply).1
    where
      by : WaitsMore (state_of desk) (asked desk.config (state_of desk) r reply) → WaitsMore (state_of desk) (state_of (added (Ask caller r reply) desk))
      by (inl same) = inl (ap (λ (t : State). t.waiting) state_is ∙ same)
      by (inr more) = inr (more.0, ap (λ (t : State). t.waiting) state_is ∙ more.1, more.2)

  pages_stay : (id : ℕ) → reply ≡ reply_of desk.config desk.cap (state_of desk) r → is_pending (status_of (state_of desk) id) ≡ true
      → pages_now (added (Ask caller r reply) desk) d.fixed id ≡ pages_now desk d.fixed id
  pages_stay id is pending =
      let block : block_at (state_of (added (Ask caller r reply) desk)) id ≡ block_at (state_of desk) id =
      ap (λ (t : State). block_at t id) state_is ∙ pending_stay desk.config desk.cap (state_of desk) caller r reply id is pending in
      same_pages desk.config (state_of desk) (state_of (added (Ask caller r reply) desk)) d.fixed id (ap (λ (b : BlockState). b.index) block)

  -- its block stays PENDING
  status_stays : (id : ℕ) → reply ≡ reply_of desk.config desk.cap (state_of desk) r → is_pending (status_of (state_of desk) id) ≡ true
      → is_pending (status_of (state_of (added (Ask caller r reply) desk)) id) ≡ true
  status_stays id is pending =
      ap (λ (t : State). is_pending (status_of t id)) state_is ∙ ap (λ (b : BlockState). is_pending b.status) (pending_stay desk.config desk.cap (state_of desk) caller r reply id is pending) ∙ pending

  next_stays : (number turns : ℕ) → reply ≡ reply_of desk.config desk.cap (state_of desk) r → (due : IsDueNext number turns (record { desk = desk; hand = hand; device = d }))
      → is_pending (status_of (state_of desk) (job_block due.job)) ≡ true
      → (later : IsDueNext number turns (record { desk = added (Ask caller r reply) desk; hand = hand; device = d }))
      × (is_pending (status_of (state_of (added (Ask caller r reply) desk)) (job_block later.job)) ≡ true)
  next_stays number turns is due pending =
      let pages : pages_now (added (Ask caller r reply) desk) d.fixed (job_block due.job) ≡ pages_now desk d.fixed (job_block due.job) = pages_stay (job_block due.job) is pending in
      let count : length (desk.entries ++ Ask caller r reply ∷ []) ≡ length desk.entries + 1 = longer desk.entries (Ask caller r reply) in
      let all : (state_of desk).count ≡ length desk.entries = entries_are_counted desk.config desk.entries in
      let less : due.job.number < (state_of desk).count = omega (arith, all, due.earlier, due.is.accepted) in (
        record {
          job = due.job;
          is = due.is;
          earlier = omega (arith, count, due.earlier);
          next = still_next desk.config (state_of desk) (state_of (added (Ask caller r reply) desk)) due.job waits_is due.is.urgent.is_urgent less due.next;
          standard = subst (λ (o : Option Job). IfSome o (λ h. (rank_of desk.config h).immediate ≡ false)) (sym held_is) due.standard;
          ready = omega (arith, pages, due.ready);
          within = omega (arith, pages, due.within);
        },
        status_stays (job_block due.job) is pending,
      )

  held_stays : (number turns : ℕ) → IsDueInHand number turns (record { desk = desk; hand = hand; device = d })
      → IsDueInHand number turns (record { desk = added (Ask caller r reply) desk; hand = hand; device = d })
  held_stays number turns due = record {
    job = due.job;
    is = due.is;
    held = held_is ∙ due.held;
    driver = due.driver;
    drives = due.drives;
    ready = due.ready;
    within = due.within;
  }

  due_stays : (number turns : ℕ) → reply ≡ reply_of desk.config desk.cap (state_of desk) r
      → IfSome (next_in desk.config (state_of desk).waiting) (IsPendingJob desk.config (state_of desk))
      → IsDue number turns (record { desk = desk; hand = hand; device = d }) → IsDue number turns (record { desk = added (Ask caller r reply) desk; hand = hand; device = d })
  due_stays number turns is pending (inl due) =
      let own : IsPendingJob desk.config (state_of desk) due.job = rw due.next at pending in inl (next_stays number turns is due own.pending).0
  due_stays number turns is pending (inr due) = inr (held_stays number turns due)

pub asks_keep_due : AsksKeepDue
asks_keep_due desk new hand d caller r reply number turns adds is pending due =
    subst (λ (x : DeskState). IsDue number turns (record { desk = x; hand = hand; device = d })) (sym adds)
    (due_stays desk hand d caller r reply number turns is pending due)

-- ANY NUMBER OF REQUESTS
module _ (hand : Option HandState) (d : DeviceTold) (number turns : ℕ) where
  none_more : (desk : DeskState) → desk ≡ with_entries desk []
  none_more desk = ap (λ (h : List Entry). record desk { entries = h }) (sym (append-nil desk.entries))

  one_more : (desk : DeskState) (e : Entry) (es : List Entry) → with_entries (added e desk) es ≡ with_entries desk (e ∷ es)
  one_more desk e es = ap (λ (h : List Entry). record desk { entries = h }) (append_assoc desk.entries (e ∷ []) es)

  replied_on : (desk : DeskState) (caller : ℕ) (r : Request) (reply : Reply) (es : List Entry) → AreReplied desk.config desk.cap (step desk.config (state_of desk) (Ask caller r reply)) es
      → AreReplied desk.config desk.cap (state_of (added (Ask caller r reply) desk)) es
  replied_on desk caller r reply es are = subst (λ (s : State). AreReplied desk.config desk.cap s es) (sym (histories_step desk.config desk.entries (Ask caller r reply))) are

  pub many_held : (desk : DeskState) (more : List Entry) → AreReplied desk.config desk.cap (state_of desk) more
      → IsDueInHand number turns (record { desk = desk; hand = hand; device = d }) → IsDueInHand number turns (record { desk = with_entries desk more; hand = hand; device = d })
  many_held desk [] are due = subst (λ (x : DeskState). IsDueInHand number turns (record { desk = x; hand = hand; device = d })) (none_more desk) due
  many_held desk (Ask caller r reply ∷ es) are due =
      subst (λ (x : DeskState). IsDueInHand number turns (record { desk = x; hand = hand; device = d })) (one_more desk (Ask caller r reply) es)
      (many_held (added (Ask caller r reply) desk) es (replied_on desk caller r reply es are.1) (held_stays desk hand d caller r reply number turns due))
  many_held desk (e ∷ es) are due = absurd are

  pub many_next : (desk : DeskState) (more : List Entry) → AreReplied desk.config desk.cap (state_of desk) more
      → (due : IsDueNext number turns (record { desk = desk; hand = hand; device = d })) → is_pending (status_of (state_of desk) (job_block due.job)) ≡ true
      → IsDueNext number turns (record { desk = with_entries desk more; hand = hand; device = d })
  many_next desk [] are due pending = subst (λ (x : DeskState). IsDueNext number turns (record { desk = x; hand = hand; device = d })) (none_more desk) due
  many_next desk (Ask caller r reply ∷ es) are due pending =
      let next = next_stays desk hand d caller r reply number turns are.0 due pending in
      subst (λ (x : DeskState). IsDueNext number turns (record { desk = x; hand = hand; device = d })) (one_more desk (Ask caller r reply) es)
      (many_next (added (Ask caller r reply) desk) es (replied_on desk caller r reply es are.1) next.0 next.1)
  many_next desk (e ∷ es) are due pending = absurd are

pub requests_keep_due : RequestsKeepDue
requests_keep_due desk hand d more number turns are pending (inl due) =
    inl (many_next hand d number turns desk more are due (rw due.next at pending))
requests_keep_due desk hand d more number turns are pending (inr due) = inr (many_held hand d number turns desk more are due)

pub requests_keep_due_in_hand : RequestsKeepDueInHand
requests_keep_due_in_hand desk hand d more number turns are due = many_held hand d number turns desk more are due

-- ONE THAT IS ACCEPTED
first_true : (a b : Bool) → (a && b) ≡ true → a ≡ true
first_true true b is = refl
first_true false b is = cc

second_true : (a b : Bool) → (a && b) ≡ true → b ≡ true
second_true true b is = is
second_true false b is = cc

-- a test of all jobs holds of each
one_of : (p : Job → Bool) (before : List Job) (j : Job) (after : List Job) → list_all p (before ++ j ∷ after) ≡ true → p j ≡ true
one_of p [] j after all = first_true (p j) (list_all p after) all
one_of p (x ∷ before) j after all = one_of p before j after (second_true (p x) (list_all p (before ++ j ∷ after)) all)

not_true : (t : Bool) → not t ≡ true → t ≡ false
not_true true is = cc
not_true false is = refl

standard_hand : (c : Configuration) (o : Option Job) (jobs : List Job) → list_all (λ j. not (rank_of c j).immediate) (option_to_list o ++ jobs) ≡ true
    → IfSome o (λ h. (rank_of c h).immediate ≡ false) × (list_all (λ j. not (rank_of c j).immediate) jobs ≡ true)
standard_hand c None jobs all = (tt, all)
standard_hand c (Some h) jobs all = (
  not_true (rank_of c h).immediate (first_true (not (rank_of c h).immediate) (list_all (λ j. not (rank_of c j).immediate) jobs) all),
  second_true (not (rank_of c h).immediate) (list_all (λ j. not (rank_of c j).immediate) jobs) all,
)

standard_next : (c : Configuration) (jobs : List Job) → list_all (λ j. not (rank_of c j).immediate) jobs ≡ true → (x : Job) → next_in c jobs ≡ Some x
    → (rank_of c x).immediate ≡ false
standard_next c jobs all x next =
    let (before, after, is) = next_is_waiting c jobs x next in
    not_true (rank_of c x).immediate
    (one_of (λ j. not (rank_of c j).immediate) before x after (subst (λ (xs : List Job). list_all (λ j. not (rank_of c j).immediate) xs ≡ true) is all))

module _ (desk : DeskState) (hand : Option HandState) (d : DeviceTold) (caller block : ℕ) (content : Option (List ℕ)) (store : ℕ) where
  write_due : instances_of (desc_of desk.config block) ≤ 64 → IsUrgentRequest (Write block content store) (record { desk = desk; hand = hand; device = d })
      → IsDue (length desk.entries) (pages_now desk d.fixed block + 4 + post_first hand) (record { desk = added (Ask caller (Write block content store) Accepted) desk; hand = hand; device = d })
  write_due few urgent =
      let request = Write block content store in
      let behind : state_of (added (Ask caller request Accepted) desk) ≡ step desk.config (state_of desk) (Ask caller request Accepted) = histories_step desk.config desk.entries (Ask caller request Accepted) in
      let count : length (desk.entries ++ Ask caller request Accepted ∷ []) ≡ length desk.entries + 1 = longer desk.entries (Ask caller request Accepted) in
      let standard = standard_hand desk.config (state_of desk).hand (state_of desk).waiting urgent.alone in
      let index : (block_at (state_of (added (Ask caller request Accepted) desk)) block).index ≡ (block_at (state_of desk) block).index =
      ap (λ (t : State). (block_at t block).index) behind ∙ status_index (state_of desk) block block Pending in
      let pages : pages_now (added (Ask caller request Accepted) desk) d.fixed block ≡ pages_now desk d.fixed block =
      same_pages desk.config (state_of desk) (state_of (added (Ask caller request Accepted) desk)) d.fixed block index in
      let job = job_at desk.config (state_of desk).count request in
      inl (record {
        job = job;
        is = record {
          accepted = entries_are_counted desk.config desk.entries;
          urgent = record { is_urgent = urgent.immediate; is_write = refl; few = few; of_first = urgent.of_first };
        };
        earlier = omega (arith, count);
        next = ap (λ (t : State). next_in desk.config t.waiting) behind ∙ next_with desk.config (state_of desk).waiting job
            ∙ comes_first desk.config (next_in desk.config (state_of desk).waiting) job urgent.immediate (standard_next desk.config (state_of desk).waiting standard.1);
        standard = subst (λ (o : Option Job). IfSome o (λ h. (rank_of desk.config h).immediate ≡ false)) (sym (ap (λ (t : State). t.hand) behind)) standard.0;
        ready = omega (arith, pages, urgent.ready);
        within = omega (arith, pages);
      })

accepted_due : (desk : DeskState) (hand : Option HandState) (d : DeviceTold) (caller : ℕ) (r : Request)
    → instances_of (desc_of desk.config (asked_block r)) ≤ 64 → IsUrgentRequest r (record { desk = desk; hand = hand; device = d })
    → IsDue (length desk.entries) (pages_now desk d.fixed (asked_block r) + 4 + post_first hand) (record { desk = added (Ask caller r Accepted) desk; hand = hand; device = d })
accepted_due desk hand d caller (Write block content store) few urgent = write_due desk hand d caller block content store few urgent
accepted_due desk hand d caller r few urgent = let never = urgent.immediate in cc

pub accepted_are_due : AcceptedAreDue
accepted_are_due desk new hand d caller r adds few urgent =
    subst (λ (x : DeskState). IsDue (length desk.entries) (pages_now desk d.fixed (asked_block r) + 4 + post_first hand) (record { desk = x; hand = hand; device = d })) (sym adds)
    (accepted_due desk hand d caller r few urgent)

-- THE PLAN OF A POWER CUT
-- a device in whose place another stands that serves urgent writes alike
stand_in : (number turns : ℕ) (desk : DeskState) (hand : Option HandState) (d e : DeviceTold) → e.fixed ≡ d.fixed → e.stand ≡ d.stand → e.ready ≡ d.ready → e.wait ≡ d.wait
    → IsDue number turns (record { desk = desk; hand = hand; device = d }) → IsDue number turns (record { desk = desk; hand = hand; device = e })
stand_in number turns desk hand d e fixed stand ready wait (inl due) = inl (record {
  job = due.job;
  is = rw fixed due.is;
  earlier = due.earlier;
  next = due.next;
  standard = due.standard;
  ready = rw (fixed, ready) due.ready;
  within = rw fixed due.within;
})
stand_in number turns desk hand d e fixed stand ready wait (inr due) = inr (record {
  job = due.job;
  is = rw fixed due.is;
  held = due.held;
  driver = due.driver;
  drives = due.drives;
  ready = rw (fixed, stand, ready) due.ready;
  within = rw (fixed, stand, wait) due.within;
})

planned : (number turns : ℕ) (desk : DeskState) (hand : Option HandState) (d : DeviceTold) (nth keep : ℕ) (a b : Bool) → IsDue number turns (record { desk = desk; hand = hand; device = d })
    → IsDue number turns (record { desk = desk; hand = hand; device = if a then record d { first = plans nth keep d.first } else (if b then record d { second = plans nth keep d.second } else d) })
planned number turns desk hand d nth keep true b due = stand_in number turns desk hand d _ refl refl refl refl due
planned number turns desk hand d nth keep false true due = stand_in number turns desk hand d _ refl refl refl refl due
planned number turns desk hand d nth keep false false due = due

pub plans_keep_due : PlansKeepDue
plans_keep_due desk hand d which nth keep number turns due = planned number turns desk hand d nth keep (which == 0) (which == 1) due
