-- What is due, while requests come beside one device.
use Rattle.nvm_moves.proofs.Common.{IfSome, IsTrue, not, option_to_list, ◌≡◌, inl, inr, ℕ, zero, suc, ◌+◌, ◌≤◌, arith, Bool, true, false, List, [], ◌∷◌, ◌++◌, length, Option, Some, None, refl, sym, ap, ◌∙◌, subst, append_assoc, and_parts, DeviceTold, Request, Write, Reply, Accepted, Entry, Ask, Configuration, State, Job, is_pending, job_block, rank_of, status_of, reply_of, next_in, step, DeskState, state_of, HandState, IsDue, post_first, with_entries, IsOfBlock, IsDueFor, free_turns, pages_in, histories_step, asked_hand, more_due, Moment, Move, urgent_block, not_true, AreServed, IsAskedDue, IsDueWithin, list_all, Each, AreReplied, NextIsPending, entries_are_counted, next_is_waiting, accepted_are_due, many_held, many_next, accepted_of_block, jobs_below, stays_of_block, each_right, urgent_is, asked_stays, is_sized, HasBlocks, OfFirst}
use Rattle.nvm_moves.proofs.Served.{served_as, served_more}
use Rattle.nvm_moves.proofs.AskedBlocks.{accepted_pending, pending_on}
use Rattle.nvm_moves.proofs.TurnEntries.{none_more}

-- A DESK WITH MORE
one_more : (desk : DeskState) (e : Entry) (es : List Entry) → with_entries (with_entries desk (e ∷ [])) es ≡ with_entries desk (e ∷ es)
one_more desk e es = ap (λ (h : List Entry). record desk { entries = h }) (append_assoc desk.entries (e ∷ []) es)

state_more : (desk : DeskState) (e : Entry) → state_of (with_entries desk (e ∷ [])) ≡ step desk.config (state_of desk) e
state_more desk e = histories_step desk.config desk.entries e

-- ONE REQUEST
-- the block of the next job is the one that its entry accepted
of_next : (number id : ℕ) (c : Configuration) (s : State) (j : Job) → IsOfBlock number id s → next_in c s.waiting ≡ Some j → j.number ≡ number → job_block j ≡ id
of_next number id c s j of next is =
    let (before, behind, at) = next_is_waiting c s.waiting j next in
    (each_right (λ (x : Job). x.number ≡ number → job_block x ≡ id) before (j ∷ behind) (subst (λ xs. Each (λ (x : Job). x.number ≡ number → job_block x ≡ id) xs) at of.jobs.waiting)).0 is

-- the block of what is due is PENDING, where that of what is next is, and that of what is in hand
due_pending : (number turns id : ℕ) (desk : DeskState) (hand : Option HandState) (d : DeviceTold) → NextIsPending desk.config (state_of desk) → IfSome (state_of desk).hand (λ j. is_pending (status_of (state_of desk) (job_block j)) ≡ true)
    → IsOfBlock number id (state_of desk) → IsDue number turns (record { desk = desk; hand = hand; device = d }) → is_pending (status_of (state_of desk) id) ≡ true
due_pending number turns id desk hand d next held of (inl due) =
    let own : is_pending (status_of (state_of desk) (job_block due.job)) ≡ true = subst (λ (o : Option Job). IfSome o (λ j. is_pending (status_of (state_of desk) (job_block j)) ≡ true)) due.next next in
    subst (λ (k : ℕ). is_pending (status_of (state_of desk) k) ≡ true) (of_next number id desk.config (state_of desk) due.job of due.next due.is.accepted) own
due_pending number turns id desk hand d next held of (inr due) =
    let own : is_pending (status_of (state_of desk) (job_block due.job)) ≡ true = subst (λ (o : Option Job). IfSome o (λ j. is_pending (status_of (state_of desk) (job_block j)) ≡ true)) due.held held in
    let block : job_block due.job ≡ id = (subst (λ (o : Option Job). IfSome o (λ j. j.number ≡ number → job_block j ≡ id)) due.held of.jobs.hand) due.is.accepted in
    subst (λ (k : ℕ). is_pending (status_of (state_of desk) k) ≡ true) block own

pub more_asked : (id a b : ℕ) (desk : DeskState) (hand : Option HandState) (d : DeviceTold) → a ≤ b → IsAskedDue id a desk hand d → IsAskedDue id b desk hand d
more_asked id a b desk hand d less was = record { number = was.number; due = more_due was.number a b _ less was.due; block = was.block; on = was.on; pending = was.pending }

module _ (hand : Option HandState) (d : DeviceTold) where
  due_on : (desk : DeskState) (caller : ℕ) (r : Request) (reply : Reply) (number id turns : ℕ) → reply ≡ reply_of desk.config desk.cap (state_of desk) r → IsOfBlock number id (state_of desk) → is_pending (status_of (state_of desk) id) ≡ true
      → IsDue number turns (record { desk = desk; hand = hand; device = d }) → IsDue number turns (record { desk = with_entries desk (Ask caller r reply ∷ []); hand = hand; device = d })
  due_on desk caller r reply number id turns is of pending (inl due) =
      let same = of_next number id desk.config (state_of desk) due.job of due.next due.is.accepted in
      inl (many_next hand d number turns desk (Ask caller r reply ∷ []) (is, tt) due (subst (λ (k : ℕ). is_pending (status_of (state_of desk) k) ≡ true) (sym same) pending))
  due_on desk caller r reply number id turns is of pending (inr due) = inr (many_held hand d number turns desk (Ask caller r reply ∷ []) (is, tt) due)

  -- it stays due
  asked_on : (desk : DeskState) (caller : ℕ) (r : Request) (reply : Reply) (id turns : ℕ) → reply ≡ reply_of desk.config desk.cap (state_of desk) r → IsAskedDue id turns desk hand d
      → IsAskedDue id turns (with_entries desk (Ask caller r reply ∷ [])) hand d
  asked_on desk caller r reply id turns is was =
      let c = desk.config in
      let e = Ask caller r reply in
      let behind = state_more desk e in record {
        number = was.number;
        due = due_on desk caller r reply was.number id turns is was.block was.pending was.due;
        block = subst (IsOfBlock was.number id) (sym behind) (stays_of_block c (state_of desk) (Some e) was.number id was.block);
        on = ap (λ (s : State). s.off) behind ∙ (asked_stays c (state_of desk) r reply).off ∙ was.on;
        pending = ap (λ (s : State). is_pending (status_of s id)) behind ∙ pending_on c desk.cap (state_of desk) caller r reply id is was.pending;
      }

  -- within a turn too
  within_on : (desk : DeskState) (caller : ℕ) (r : Request) (reply : Reply) (one : Bool) (id turns : ℕ) → reply ≡ reply_of desk.config desk.cap (state_of desk) r → IsDueWithin hand d desk one id turns
      → IsDueWithin hand d (with_entries desk (Ask caller r reply ∷ [])) one id turns
  within_on desk caller r reply one id turns is (inl (number, due, of, on)) =
      let e = Ask caller r reply in
      let behind = state_more desk e in inl (
        number,
        many_held hand d number turns desk (e ∷ []) (is, tt) due,
        subst (IsOfBlock number id) (sym behind) (stays_of_block desk.config (state_of desk) (Some e) number id of),
        ap (λ (s : State). s.off) behind ∙ (asked_stays desk.config (state_of desk) r reply).off ∙ on,
      )
  within_on desk caller r reply one id turns is (inr (less, first, sooner, due)) = inr (less, first, sooner, asked_on desk caller r reply id less is due)

-- AN URGENT WRITE
-- the job in hand is a standard one
abbrev pub IsStandard : Configuration → State → Type 0
IsStandard c s = IfSome s.hand (λ j. (rank_of c j).immediate ≡ false)

standard_in : (c : Configuration) (o : Option Job) (jobs : List Job) → IsTrue (list_all (λ j. not (rank_of c j).immediate) (option_to_list o ++ jobs)) → IfSome o (λ j. (rank_of c j).immediate ≡ false)
standard_in c None jobs all = tt
standard_in c (Some j) jobs all = not_true (rank_of c j).immediate (and_parts (not (rank_of c j).immediate) (list_all (λ x. not (rank_of c x).immediate) jobs) all).0

-- what is known of the device in such a state: what may go on is ready
abbrev pub IsRoomy : (free : ℕ → Type 0) → Configuration → State → DeviceTold → Type 0
IsRoomy free c s d = s.off ≡ false → IsStandard c s → (n : ℕ) → free n → n ≤ d.ready

module _ (hand : Option HandState) (d : DeviceTold) (free : ℕ → Type 0) where
  -- once it is accepted it is due
  asked_due : (desk : DeskState) (caller : ℕ) (r : Request) (reply : Reply) (id : ℕ) → HasBlocks desk.config d.fixed → OfFirst d.fixed id → IsTrue (state_of desk).started → IsRoomy free desk.config (state_of desk) d → urgent_block desk.config (state_of desk) (Some (Ask caller r reply)) ≡ Some id
      → free (pages_in d.fixed desk.config (state_of desk) id) → IsAskedDue id (pages_in d.fixed desk.config (state_of desk) id + 4 + post_first hand) (with_entries desk (Ask caller r reply ∷ [])) hand d
  asked_due desk caller r reply id blocks first started roomy urgent room =
      let c = desk.config in
      let s = state_of desk in
      let ask = urgent_is c s (Ask caller r reply) id urgent in
      let write = Write id ask.content ask.store in
      let e = Ask ask.caller write Accepted in
      let count = entries_are_counted c desk.entries in
      let behind = state_more desk e in
      let due = accepted_are_due desk (with_entries desk (e ∷ [])) hand d ask.caller write refl (blocks.few id) (record {
        immediate = ask.immediate;
        alone = ask.alone;
        of_first = blocks.first id first;
        ready = roomy ask.on (standard_in c s.hand s.waiting ask.alone) (pages_in d.fixed c s id) room;
      }) in
      subst (λ (x : Entry). IsAskedDue id (pages_in d.fixed c s id + 4 + post_first hand) (with_entries desk (x ∷ [])) hand d) (sym ask.entry) (record {
        number = length desk.entries;
        due = due;
        block = subst (λ (n : ℕ). IsOfBlock n id (state_of (with_entries desk (e ∷ [])))) count
            (subst (IsOfBlock s.count id) (sym behind) (accepted_of_block c s ask.caller id ask.content ask.store (jobs_below c desk.entries)));
        on = ap (λ (x : State). x.off) behind ∙ (asked_stays c s write Accepted).off ∙ ask.on;
        pending = ap (λ (x : State). is_pending (status_of x id)) behind ∙ accepted_pending c desk.cap s ask.caller id ask.content ask.store (is_sized c desk.entries) started ask.immediate;
      })

-- ANY NUMBER OF REQUESTS
-- each leaves the moment
abbrev pub asked_moves : Moment → List Entry → List Move
asked_moves now [] = []
asked_moves now (e ∷ es) = record { entry = Some e; behind = now } ∷ asked_moves now es

-- one of them, where what is due stays so, and so is what it makes due
ask_served : (hand : Option HandState) (d : DeviceTold) (more : ℕ) (free : ℕ → ℕ → ℕ → Type 0) (since : ℕ) (now : Moment) (desk : DeskState) (caller : ℕ) (r : Request) (reply : Reply) (P Q : Bool → ℕ → ℕ → Type 0) → HasBlocks desk.config d.fixed → IsTrue (state_of desk).started
    → IsRoomy (free since now.ops) desk.config (state_of desk) d → ((one : Bool) (id turns : ℕ) → P one id turns → Q one id turns)
    → ((id turns : ℕ) → IsAskedDue id (turns + 4 + post_first hand) (with_entries desk (Ask caller r reply ∷ [])) hand d → Q true id (turns + more))
    → AreServed (OfFirst d.fixed) more desk.config (pages_in d.fixed desk.config) free P Q since now (state_of desk) (asked_moves now (Ask caller r reply ∷ []))
ask_served hand d more free since now desk caller r reply P Q blocks started roomy keeps takes = record {
  dues = λ one id turns due. inr (inl (refl, keeps one id turns due));
  urgent = (λ such id urgent room. takes id (pages_in d.fixed desk.config (state_of desk) id) (asked_due hand d (free since now.ops) desk caller r reply id blocks (such id urgent) started roomy urgent room), tt);
}

module _ (hand : Option HandState) (d : DeviceTold) (more : ℕ) (free : ℕ → ℕ → ℕ → Type 0) (since : ℕ) (now : Moment)
    -- what is due at each desk: it stays so, and so is what is accepted
    (P : DeskState → Bool → ℕ → ℕ → Type 0)
    (keeps : (desk : DeskState) (caller : ℕ) (r : Request) (reply : Reply) (one : Bool) (id turns : ℕ) → reply ≡ reply_of desk.config desk.cap (state_of desk) r → P desk one id turns → P (with_entries desk (Ask caller r reply ∷ [])) one id turns)
    (takes : (desk : DeskState) (id turns : ℕ) → IsAskedDue id (turns + 4 + post_first hand) desk hand d → P desk true id (turns + more)) where
  asks_served : (desk : DeskState) (es : List Entry) → HasBlocks desk.config d.fixed → AreReplied desk.config desk.cap (state_of desk) es → IsTrue (state_of desk).started → IsRoomy (free since now.ops) desk.config (state_of desk) d
      → AreServed (OfFirst d.fixed) more desk.config (pages_in d.fixed desk.config) free (P desk) (P (with_entries desk es)) since now (state_of desk) (asked_moves now es)
  asks_served desk [] blocks replied started roomy =
      subst (λ (x : DeskState). AreServed (OfFirst d.fixed) more desk.config (pages_in d.fixed desk.config) free (P desk) (P x) since now (state_of desk) []) (none_more desk) (record { dues = λ one id turns due. due; urgent = tt })
  asks_served desk (Ask caller r reply ∷ es) blocks replied started roomy =
      let c = desk.config in
      let s = state_of desk in
      let e = Ask caller r reply in
      let next = with_entries desk (e ∷ []) in
      let behind = state_more desk e in
      let power = asked_stays c s r reply in
      let rest : AreServed (OfFirst d.fixed) more c (pages_in d.fixed c) free (P next) (P (with_entries desk (e ∷ es))) since now (step c s e) (asked_moves now es) =
      subst (λ (x : DeskState). AreServed (OfFirst d.fixed) more c (pages_in d.fixed c) free (P next) (P x) since now (step c s e) (asked_moves now es)) (one_more desk e es)
      (subst (λ (x : State). AreServed (OfFirst d.fixed) more c (pages_in d.fixed c) free (P next) (P (with_entries next es)) since now x (asked_moves now es)) behind
      (asks_served next es blocks (subst (λ (x : State). AreReplied c desk.cap x es) (sym behind) replied.1) (ap (λ (x : State). x.started) behind ∙ power.started ∙ started)
      (subst (λ (x : State). IsRoomy (free since now.ops) c x d) (sym behind)
      (λ on standard. roomy (sym power.off ∙ on) (subst (λ (o : Option Job). IfSome o (λ j. (rank_of c j).immediate ≡ false)) (asked_hand c s r reply) standard))))) in
      served_more (OfFirst d.fixed) more c (pages_in d.fixed c) free (P desk) (P next) (P (with_entries desk (e ∷ es))) since now s (asked_moves now (e ∷ [])) (asked_moves now es)
      (ask_served hand d more free since now desk caller r reply (P desk) (P next) blocks started roomy (λ one id turns due. keeps desk caller r reply one id turns replied.0 due) (takes next)) rest
  asks_served desk (e ∷ es) blocks replied started roomy = absurd replied

-- BETWEEN TURNS, AND WITHIN ONE
module _ (hand : Option HandState) (d : DeviceTold) (more : ℕ) (free : ℕ → ℕ → ℕ → Type 0) (since : ℕ) (now : Moment) (desk : DeskState) (es : List Entry) (blocks : HasBlocks desk.config d.fixed) (replied : AreReplied desk.config desk.cap (state_of desk) es)
    (started : IsTrue (state_of desk).started) (roomy : IsRoomy (free since now.ops) desk.config (state_of desk) d) where
  abbrev Served_by : (DeskState → Bool → ℕ → ℕ → Type 0) → Type 0
  Served_by P = AreServed (OfFirst d.fixed) more desk.config (pages_in d.fixed desk.config) free (P desk) (P (with_entries desk es)) since now (state_of desk) (asked_moves now es)

  abbrev Asked_at : DeskState → Bool → ℕ → ℕ → Type 0
  Asked_at x one id turns = IsAskedDue id (turns + free_turns one hand) x hand d

  abbrev Due_at : DeskState → Bool → ℕ → ℕ → Type 0
  Due_at x one id turns = IsDueFor id one turns (record { desk = x; hand = hand; device = d })

  pub between_served : 4 ≤ more → NextIsPending desk.config (state_of desk) → IfSome (state_of desk).hand (λ j. is_pending (status_of (state_of desk) (job_block j)) ≡ true) → Served_by Due_at
  between_served least next held =
      served_as (OfFirst d.fixed) more desk.config (pages_in d.fixed desk.config) free (Asked_at desk) (Due_at desk) (Asked_at (with_entries desk es)) (Due_at (with_entries desk es)) since now (state_of desk) (asked_moves now es)
      (λ one id turns was. record { number = was.number; due = was.due; block = was.block; on = was.on; pending = due_pending was.number (turns + free_turns one hand) id desk hand d next held was.block was.due })
      (λ one id turns was. record { number = was.number; due = was.due; block = was.block; on = was.on })
      (asks_served hand d more free since now Asked_at (λ x caller r reply one id turns is due. asked_on hand d x caller r reply id (turns + free_turns one hand) is due)
      (λ x id turns due. more_asked id (turns + 4 + post_first hand) (turns + more + post_first hand) x hand d (omega (arith, least)) due) desk es blocks replied started roomy)

  -- this turn, and four
  at_least : (n : ℕ) → 5 ≤ n → (less : ℕ) × (n ≡ less + 1) × (4 ≤ less)
  at_least zero least = absurd (omega (arith, least))
  at_least (suc n) least = (n, omega arith, omega (arith, least))

  takes_within : post_first hand ≡ 0 → (x : DeskState) (id turns : ℕ) → (less : ℕ) × (more ≡ less + 1) × (4 ≤ less) → IsAskedDue id (turns + 4 + post_first hand) x hand d → IsDueWithin hand d x true id (turns + more)
  takes_within none x id turns (less, is, few) due = inr (turns + less, refl, omega (arith, is), more_asked id (turns + 4 + post_first hand) (turns + less) x hand d (omega (arith, none, few)) due)

  pub within_served : 5 ≤ more → post_first hand ≡ 0 → Served_by (IsDueWithin hand d)
  within_served least none =
      asks_served hand d more free since now (IsDueWithin hand d) (within_on hand d) (λ x id turns due. takes_within none x id turns (at_least more least) due) desk es blocks replied started roomy

-- one request, where what is due is told to stay so
pub one_served : (hand : Option HandState) (d : DeviceTold) (more : ℕ) (free : ℕ → ℕ → ℕ → Type 0) (since : ℕ) (now : Moment) (desk : DeskState) (caller : ℕ) (r : Request) (reply : Reply) → HasBlocks desk.config d.fixed → IsTrue (state_of desk).started
    → IsRoomy (free since now.ops) desk.config (state_of desk) d → 4 ≤ more
    → ((number turns : ℕ) → IsDue number turns (record { desk = desk; hand = hand; device = d }) → IsDue number turns (record { desk = with_entries desk (Ask caller r reply ∷ []); hand = hand; device = d }))
    → AreServed (OfFirst d.fixed) more desk.config (pages_in d.fixed desk.config) free (λ one id turns. IsDueFor id one turns (record { desk = desk; hand = hand; device = d })) (λ one id turns. IsDueFor id one turns (record { desk = with_entries desk (Ask caller r reply ∷ []); hand = hand; device = d })) since now
    (state_of desk) (asked_moves now (Ask caller r reply ∷ []))
one_served hand d more free since now desk caller r reply blocks started roomy least keeps =
    let c = desk.config in
    let e = Ask caller r reply in
    let behind = state_more desk e in
    ask_served hand d more free since now desk caller r reply _ _ blocks started roomy
    (λ one id turns was. record {
      number = was.number;
      due = keeps was.number (turns + free_turns one hand) was.due;
      block = subst (IsOfBlock was.number id) (sym behind) (stays_of_block c (state_of desk) (Some e) was.number id was.block);
      on = ap (λ (x : State). x.off) behind ∙ (asked_stays c (state_of desk) r reply).off ∙ was.on;
    })
    (λ id pages was. let due = more_asked id (pages + 4 + post_first hand) (pages + more + post_first hand) (with_entries desk (e ∷ [])) hand d (omega (arith, least)) was in
    record { number = due.number; due = due.due; block = due.block; on = due.on })
