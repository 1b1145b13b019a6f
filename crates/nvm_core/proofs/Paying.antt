-- What a turn pays, since a count of faults.
use Rattle.std.specs.Prelude.{IfSome, min, option_map}
use Rattle.std.specs.List.{Contains}
use Rattle.std.specs.Option.{option_map_or}
use Rattle.std.proofs.Common.{◌≡◌, ◌<◌, ◌≤◌, ◌+◌, ◌⊎◌, ℕ, zero, suc, Bool, true, false, if◌then◌else◌, List, [], ◌∷◌, ◌++◌, length, Option, Some, None, refl, sym, ap, ◌∙◌, subst, inl, inr, arith, length-append}
use Rattle.std.proofs.lemmas.Bool.Decides.{leb_tells}
use Rattle.nvm_laws.specs.nv_base.Count.{last_count, WereCounted}
use Rattle.nvm_laws.specs.nv_base.Marks.{instance_of}
use Rattle.nvm_laws.specs.memif.declared.answer.DeviceTurn.TheVariants as turn
use Rattle.nvm_laws.specs.memif.declared.answer.JobResult.TheVariants.{JobOk}
use Rattle.nvm_laws.specs.memif.Told.{DeviceTold, Part, First, Second, PartTold, Stand, Open, Ended as At, part_at, part_of_block, is_part, faults_of, ops_of}
use Rattle.nvm_laws.specs.memif.Clock.{Clock, SameClock}
use Rattle.nvm_laws.specs.memif.Calls.{Works, JobTurns}
use Rattle.nvm_laws.specs.memif.Trials.{Lasts}
use Rattle.nvm_laws.proofs.memif.Turning.{turn_lasts, same_lasts}
use Rattle.nvm_laws.specs.block_machine.Words.{ReqResult, JobKind, Mark, Entry, Ask, Pick, Wrote, Post, Off, Found, Taken, Configuration}
use Rattle.nvm_laws.specs.block_machine.State.{State, Job}
use Rattle.nvm_laws.specs.block_machine.Blocks.{job_block, rank_of}
use Rattle.nvm_laws.specs.block_machine.StartUp.{at_first}
use Rattle.nvm_laws.specs.block_machine.Steps.{step}
use Rattle.nvm_laws.specs.block_machine.Prices.{price_in_faults, faults_of as faults_in}
use Rattle.nvm_laws.specs.block_machine.Results.{own_of, took_none}
use Rattle.nvm_laws.specs.block_machine.Next.{Next, Nothing, PickJob, BeginSweep, PickMember, PostMember, EndSweep, next_of}
use Rattle.nvm_laws.specs.promise_blocks.Payment.{Worn, IsExcused, price_for, ArePaid, IsPaid}
use Rattle.nvm_laws.specs.promise_blocks.OverDevice.{is_of}
use Rattle.nvm_laws.specs.nvm_device_laws.Turn.{settled_by, wrote_by}
use Rattle.nvm_laws.specs.nvm_device_laws.Tries.{AreTriesPaid, IsWornOut, IsWornNext, is_hand_urgent, counted_at, counted_from, tries_of_done}
use Rattle.nvm_laws.specs.job_programs.Program.{Program, next_in}
use Rattle.nvm_laws.specs.job_programs.Laws.{failed_of}
use Rattle.nvm_laws.specs.job_programs.Failures.{failed_tries}
use Rattle.nvm_laws.specs.ram_blocks.Told.{Told}
use Rattle.nvm_laws.specs.nv_desk.Desk.{DeskState, state_of}
use Rattle.nvm_laws.specs.nv_desk_copies.Posts.{IsPostedNext}
use Rattle.nvm_laws.specs.job_progress.Hand.{HandState}
use Rattle.nvm_laws.specs.job_progress.JobInHand.{IsInHand, IsPaired}
use Rattle.nvm_laws.specs.job_progress.Begins.{hand_for}
use Rattle.nvm_laws.specs.Keeps.{StackKeeps, StaysKept}
use Rattle.nvm_laws.proofs.Keeping.{slots_told, stays_told}
use Rattle.nvm_laws.specs.Halves.{IsHalf, AddsPost}
use Rattle.nvm_laws.specs.Turns.{hand_by, AddsBy}
use Rattle.nvm_laws.specs.declared.turned.Turned.{Turned}
use Rattle.nvm_laws.specs.declared.turned.Turned.TheVariants as turned
use Rattle.nvm_laws.specs.declared.turned.Act.TheVariants.{Ended}
use Rattle.nvm_laws.specs.AtDevice.{AtDevice, GoesOn}
use Rattle.nvm_laws.proofs.Turning.{off_stand, hand_same}
use Rattle.nvm_laws.proofs.Paying.{wrote_urgency}
use Rattle.nvm_laws.proofs.block_laws.HistoryLaws.{histories_step}
use Rattle.nvm_laws.proofs.Operations.{same_job}
use Rattle.nvm_laws.proofs.Picking.{done_is, failures_are}
use Rattle.nvm_core.specs.OperationStart.{LeavesDevice}
use Rattle.nvm_core.specs.BehindDevice.{TurnsDevice, asked_by}
use Rattle.nvm_core.specs.Paying.{counted_of, TriesSince, OwesSince, PaysSince, has_urgent, worn_so_far}
use Rattle.nvm_core.proofs.Owing.{costs}
use Rattle.nvm_core.proofs.Trying.{none_since, since_stays, since_goes_on}

-- THE COUNT BEFORE THE FIRST START-UP
-- another one of a part
abbrev pub rebased : Part → ℕ → (Part → PartTold) → Part → PartTold
rebased First n before First = record (before First) { faults = n }
rebased First n before Second = before Second
rebased Second n before First = before First
rebased Second n before Second = record (before Second) { faults = n }

here : (q : Part) (n : ℕ) (before : Part → PartTold) → (rebased q n before q).faults ≡ n
here First n before = refl
here Second n before = refl

module _ (before : Part → PartTold) (desk : DeskState) (h : HandState) (d : DeviceTold) (clock : Clock) (kept : StackKeeps before desk (Some h) d clock) where
  abbrev PaidAt : Part → ℕ → Type 0
  PaidAt p n = IsPaid (is_of p d.fixed) desk.config clock.worn n (part_at p d).faults desk.entries

  paid_from : (q p : Part) (n : ℕ) → PaidAt q n → PaidAt p (before p).faults → PaidAt p (rebased q n before p).faults
  paid_from First First n own other = own
  paid_from First Second n own other = other
  paid_from Second First n own other = other
  paid_from Second Second n own other = own

  abbrev own_part : Part
  own_part = part_of_block d.fixed h.program.block

  -- from it on all is kept, where the history is paid, and the tries of the job in hand are
  kept_from : (n : ℕ) → PaidAt own_part n → AreTriesPaid (is_of own_part d.fixed) desk.config clock.worn (has_urgent desk) (record { ops = 0; faults = n }) (counted_at own_part d) desk.entries h.program
      → StackKeeps (rebased own_part n before) desk (Some h) d clock
  kept_from n paid tries = record {
    started = kept.started;
    keeps = record {
      device = kept.keeps.device;
      over = record {
        cut = kept.keeps.over.cut;
        found = kept.keeps.over.found;
        counts = kept.keeps.over.counts;
        at_end = kept.keeps.over.at_end;
        legal = kept.keeps.over.legal;
        paid = λ p. paid_from own_part p n paid (kept.keeps.over.paid p);
        begins = kept.keeps.over.begins;
        counted = kept.keeps.over.counted;
        off = kept.keeps.over.off;
      };
      few = kept.keeps.few;
      base = kept.keeps.base;
      based = kept.keeps.based;
      marks = kept.keeps.marks;
      settled = kept.keeps.settled;
      finds = kept.keeps.finds;
    };
    fits = kept.fits;
    paid = subst (λ (k : ℕ). AreTriesPaid (is_of own_part d.fixed) desk.config clock.worn (has_urgent desk) (record { ops = 0; faults = k }) (counted_at own_part d) desk.entries h.program) (sym (here own_part n before)) tries;
    order = kept.order;
    starts = kept.starts;
  }

-- A POST
in_total : (l x y : ℕ) → l ≤ x → l ≤ min (x + y) l
in_total l x y full = omega (arith, full)

other_total : (l x y : ℕ) → l ≤ x → l ≤ min (y + x) l
other_total l x y full = omega (arith, full)

full_in : (p : Part) (d : DeviceTold) → last_count ≤ (part_at p d).faults → last_count ≤ faults_of d
full_in First d full = in_total last_count d.first.faults d.second.faults full
full_in Second d full = other_total last_count d.second.faults d.first.faults full

fewer : (n m a b : ℕ) → m ≤ n → WereCounted n a b → WereCounted m a b
fewer n m a b less (inl more) = inl (omega (arith, less, more))
fewer n m a b less (inr full) = inr full

-- of a job in hand, whose entry is of its part
module _ (desk desk_new : DeskState) (h : HandState) (d : DeviceTold) (clock clock_new : Clock) (keeps : StaysKept desk (Some h) d clock desk_new None d clock_new)
    (same : (k n : ℕ) (urgent : Bool) → clock_new.worn k n urgent → clock.worn k n urgent) (e : Entry) (entries : desk_new.entries ≡ desk.entries ++ e ∷ []) (config : desk_new.config ≡ desk.config)
    (before : Part → PartTold) (kept : StackKeeps before desk (Some h) d clock) where
  abbrev q : Part
  q = part_of_block d.fixed h.program.block

  abbrev of : ℕ → Bool
  of = is_of q d.fixed

  abbrev now : ℕ
  now = (part_at q d).faults

  abbrev AreTried : ℕ → Type 0
  AreTried slack = (n m : ℕ) → n + (m + slack) ≤ now → ArePaid of desk.config clock.worn m at_first desk.entries
      → AreTriesPaid of desk.config clock.worn (has_urgent desk) (record { ops = 0; faults = n }) (counted_at q d) desk.entries h.program

  pays : (slack : ℕ) → AreTried slack → (n m : ℕ) → n + (m + slack) ≤ now → ArePaid of desk.config clock.worn m at_first desk.entries
      → IsPaid of desk.config clock_new.worn n now (desk.entries ++ e ∷ [])
  pays slack tried n m within paid =
      let new = stays_told desk (Some h) d clock desk_new None d clock_new keeps (rebased q n before) (kept_from before desk h d clock kept n (record { faults = m; counted = inl (omega (arith, within)); pay = paid }) (tried n m within paid)) (slots_told before desk (Some h) d clock kept) in
      subst (λ (k : ℕ). IsPaid of desk.config clock_new.worn k now (desk.entries ++ e ∷ [])) (here q n before)
      (subst (λ (es : List Entry). IsPaid of desk.config clock_new.worn (rebased q n before q).faults now es) entries
      (subst (λ (c : Configuration). IsPaid of c clock_new.worn (rebased q n before q).faults now desk_new.entries) config (new.keeps.over.paid q)))

  abbrev Costs : ℕ → Type 0
  Costs slack = (price_for of desk.config (state_of desk) e ≤ slack) ⊎ IsExcused desk.config clock_new.worn (state_of desk) e

  cost : (slack m : ℕ) → AreTried slack → now < last_count → m + slack ≤ now → ArePaid of desk.config clock.worn m at_first desk.entries → Costs slack
  cost slack m tried few within paid = costs of desk.config clock.worn clock_new.worn same desk.entries e slack now few (pays slack tried) m within paid

  tried_all : AreTried (failed_tries h.program)
  tried_all n m within paid = inl (m, inl (omega (arith, within)), paid)

  tried_next : IsWornNext clock.worn (has_urgent desk) d.ops h.program (next_in h.program) → AreTried (tries_of_done h.program)
  tried_next next n m within paid = inr (inl ((m, inl (omega (arith, within)), paid), next))

  tried_none : ((index : ℕ) × Contains (failed_of h.program.indices h.program.done) index × IsWornOut clock.worn (has_urgent desk) d.ops h.program index) → AreTried 0
  tried_none out n m within paid = inr (inr out)

  module _ (since : ℕ) (own : price_in_faults desk.config (state_of desk) e ≡ price_for of desk.config (state_of desk) e) (owes : OwesSince (has_urgent desk) since (Some h) d clock) where
    abbrev Paid : Type 0
    Paid = WereCounted (price_in_faults desk.config (state_of desk) e) since (faults_of d) ⊎ IsExcused desk.config clock_new.worn (state_of desk) e

    by_cost : (slack : ℕ) → WereCounted slack since (faults_of d) → Costs slack → Paid
    by_cost slack counted (inl cheap) = inl (fewer slack (price_in_faults desk.config (state_of desk) e) since (faults_of d) (omega (arith, own, cheap)) counted)
    by_cost slack counted (inr excused) = inr excused

    nothing : WereCounted 0 since (faults_of d)
    nothing = inl (let less = owes.0 in omega (arith, less))

    done_fewer : tries_of_done h.program ≤ failed_tries h.program
    done_fewer = omega arith

    done_counted : WereCounted (failed_tries h.program) since (faults_of d) → WereCounted (tries_of_done h.program) since (faults_of d)
    done_counted all = fewer (failed_tries h.program) (tries_of_done h.program) since (faults_of d) done_fewer all

    by_tries : now < last_count → TriesSince clock.worn (has_urgent desk) since (counted_of d) h.program
        → AreTriesPaid of desk.config clock.worn (has_urgent desk) (counted_from (before q)) (counted_at q d) desk.entries h.program → Paid
    by_tries few tries (inr (inr out)) =
        let paid = kept.keeps.over.paid q in
        elim paid.counted [
          | inl more ↦ by_cost 0 nothing (cost 0 paid.faults (tried_none out) few (omega (arith, more)) paid.pay)
          | inr full ↦ absurd (omega (arith, full, few))
        ]
    by_tries few (inl all) (inl (m, inl more, paid)) = by_cost (failed_tries h.program) all (cost (failed_tries h.program) m tried_all few (omega (arith, more)) paid)
    by_tries few (inr (inl (done, next))) (inl (m, inl more, paid)) =
        by_cost (tries_of_done h.program) done (cost (tries_of_done h.program) m (tried_next next) few (omega (arith, more, done_fewer)) paid)
    by_tries few (inr (inr out)) (inl (m, inl more, paid)) = by_cost 0 nothing (cost 0 m (tried_none out) few (omega (arith, more)) paid)
    by_tries few (inl all) (inr (inl ((m, inl more, paid), next))) =
        by_cost (tries_of_done h.program) (done_counted all) (cost (tries_of_done h.program) m (tried_next next) few (omega (arith, more)) paid)
    by_tries few (inr (inl (done, next))) (inr (inl ((m, inl more, paid), other))) =
        by_cost (tries_of_done h.program) done (cost (tries_of_done h.program) m (tried_next next) few (omega (arith, more)) paid)
    by_tries few (inr (inr out)) (inr (inl ((m, inl more, paid), next))) = by_cost 0 nothing (cost 0 m (tried_none out) few (omega (arith, more)) paid)
    by_tries few tries (inl (m, inr full, paid)) = absurd (omega (arith, full, few))
    by_tries few tries (inr (inl ((m, inr full, paid), next))) = absurd (omega (arith, full, few))

    pub post_paid : Paid
    post_paid = elim (leb_tells last_count now) [
      | inl full ↦ inl (inr (full_in q d full.1))
      | inr few ↦ by_tries few.1 owes.1 kept.paid
    ]

-- PRICES
-- with no job in hand
free_alone : (c : Configuration) (s : State) (e : Entry) → s.hand ≡ None → price_in_faults c s e ≡ 0
free_alone c s (Post block r given zero ops) none = ap (λ (o : Option Job). option_map_or (λ j. faults_in (own_of c s (job_block j)) (r, given) j) o 0) none
free_alone c s (Post block r given (suc n) ops) none = refl
free_alone c s (Ask caller r reply) none = refl
free_alone c s (Pick block kind t ops) none = refl
free_alone c s (Wrote i mark ops) none = refl
free_alone c s (Off ops) none = refl
free_alone c s (Found marks ops) none = refl

-- by the operations that its Post tells
excused_by : (c : Configuration) (worn : Worn) (s : State) (n block : ℕ) (r : ReqResult) (given : Option (List ℕ)) (refused ops : ℕ) → ops ≤ n → IsExcused c worn s (Post block r given refused ops)
    → IsExcused c (λ k m urgent. (k ≤ n) × worn k m urgent) s (Post block r given refused ops)
excused_by c worn s n block r given refused ops few (j, hand, some, was) =
    (j, hand, some, record { index = was.index; failed = was.failed; moment = was.moment; by_then = was.by_then; is = (let then_ = was.by_then in omega (arith, then_, few), was.is) })

-- a block is of its own part
part_is : (q : Part) → is_part q q ≡ true
part_is First = refl
part_is Second = refl

own_price : (c : Configuration) (s : State) (d : DeviceTold) (block other : ℕ) (r : ReqResult) (given : Option (List ℕ)) (refused ops : ℕ) → other ≡ block
    → price_in_faults c s (Post block r given refused ops) ≡ price_for (is_of (part_of_block d.fixed other) d.fixed) c s (Post block r given refused ops)
own_price c s d block other r given refused ops same =
    sym (ap (λ (b : Bool). if b then price_in_faults c s (Post block r given refused ops) else 0)
    (ap (λ (b : ℕ). is_part (part_of_block d.fixed b) (part_of_block d.fixed block)) same ∙ part_is (part_of_block d.fixed block)))

-- WHAT WAS ADDED
no_longer : (h : List Entry) (e : Entry) → h ≡ h ++ e ∷ [] → ⊥
no_longer h e is = let count = ap length is in let more = length-append h (e ∷ []) in omega (arith, count, more)

last_same : (h : List Entry) (a b : Entry) → h ++ a ∷ [] ≡ h ++ b ∷ [] → a ≡ b
last_same [] a b is = cc is
last_same (x ∷ h) a b is = last_same h a b (cc is)

counted_free : (since now : ℕ) (price : ℕ) → since ≤ now → price ≡ 0 → WereCounted price since now
counted_free since now price less none = inl (omega (arith, less, none))

-- an entry without a price, or none
module _ (since now : ℕ) (old new : DeskState) (worn : Worn) (less : since ≤ now) where
  abbrev PaidNow : Entry → Type 0
  PaidNow e = WereCounted (price_in_faults old.config (state_of old) e) since now ⊎ IsExcused old.config worn (state_of old) e

  free_paid : (x : Entry) → new.entries ≡ old.entries ++ x ∷ [] → price_in_faults old.config (state_of old) x ≡ 0 → (e : Entry) → new.entries ≡ old.entries ++ e ∷ [] → PaidNow e
  free_paid x has none e is =
      let same = last_same old.entries x e (sym has ∙ is) in
      inl (counted_free since now (price_in_faults old.config (state_of old) e) less (ap (price_in_faults old.config (state_of old)) (sym same) ∙ none))

  none_paid : new ≡ old → (e : Entry) → new.entries ≡ old.entries ++ e ∷ [] → PaidNow e
  none_paid same e is = absurd (no_longer old.entries e (ap (λ (x : DeskState). x.entries) (sym same) ∙ is))

-- THE PICK
begun : (c : Configuration) (s : State) (o : Option Job) (urgent : Bool) (since : ℕ) (d : DeviceTold) (clock : Clock) → since ≤ faults_of d → OwesSince urgent since (option_map (hand_for c s) o) d clock
begun c s None urgent since d clock less = (less, tt)
begun c s (Some j) urgent since d clock less =
    (less, none_since clock.worn urgent since (counted_of d) (hand_for c s j).program less (done_is c s j (took_none j.taken)) (failures_are c s j (took_none j.taken)))

-- A TURN THAT IS ITS FIRST HALF
module _ (since : ℕ) (old new : DeskState) (hand hand_new : Option HandState) (d d_new : DeviceTold) (clock clock_new : Clock) (leaves : LeavesDevice d d_new) (same : SameClock clock clock_new)
    (paired : IsPaired old.config (state_of old) hand d) (keeps : StaysKept old hand d clock new hand_new d_new clock_new)
    (before : Part → PartTold) (kept : StackKeeps before old hand d clock) (owes : OwesSince (has_urgent old) since hand d clock) where
  as_many : faults_of d_new ≡ faults_of d
  as_many = ap faults_of leaves

  as_late : d_new.ops ≡ d.ops
  as_late = ap (λ (x : DeviceTold). x.ops) leaves

  half_stays : (held : Option HandState) → OwesSince (has_urgent old) since held d clock → OwesSince (has_urgent old) since held d_new clock_new
  half_stays held = since_stays old.config since (has_urgent old) d clock d_new clock_new (omega (arith, as_late)) (omega (arith, as_many)) (λ k n urgent by_then is. (same.worn k n urgent).1 is) held

  abbrev worn_now : Worn
  worn_now = worn_so_far d_new clock_new

  less_now : since ≤ faults_of d_new
  less_now = let less = owes.0 in omega (arith, less, as_many)

  -- a Post of the job in hand
  posted_so : (h : HandState) → hand ≡ Some h → hand_new ≡ None → d_new ≡ d → (block : ℕ) (r : ReqResult) (given : Option (List ℕ)) (refused ops : ℕ) (j : Job) → (state_of old).hand ≡ Some j → block ≡ job_block j
      → new ≡ record old { entries = old.entries ++ Post block r given refused ops ∷ [] }
      → WereCounted (price_in_faults old.config (state_of old) (Post block r given refused ops)) since (faults_of d_new) ⊎ IsExcused old.config clock_new.worn (state_of old) (Post block r given refused ops)
  posted_so h held none still block r given refused ops j in_hand on adds =
      let e : Entry = Post block r given refused ops in
      let own : IsInHand old.config (state_of old) h d = subst (λ (x : Option HandState). IsPaired old.config (state_of old) x d) held paired in
      let job : own.job ≡ j = same_job own.job j (state_of old).hand own.hand in_hand in
      let of_block : h.program.block ≡ block = ap (λ (x : Program). x.block) own.working.is ∙ ap job_block job ∙ sym on in
      subst (λ (n : ℕ). WereCounted (price_in_faults old.config (state_of old) e) since n ⊎ IsExcused old.config clock_new.worn (state_of old) e) (sym as_many)
      (post_paid old new h d clock clock_new
      (subst (λ (x : Option HandState). StaysKept old x d clock new None d clock_new) held
      (subst (λ (x : Option HandState). StaysKept old hand d clock new x d clock_new) none (subst (λ (x : DeviceTold). StaysKept old hand d clock new hand_new x clock_new) still keeps)))
      (λ k n urgent worn. (same.worn k n urgent).0 worn) e (ap (λ (x : DeskState). x.entries) adds) (ap (λ (x : DeskState). x.config) adds) before (subst (λ (x : Option HandState). StackKeeps before old x d clock) held kept) since
      (own_price old.config (state_of old) d block h.program.block r given refused ops of_block)
      (subst (λ (x : Option HandState). OwesSince (has_urgent old) since x d clock) held owes))

  posted : (h : HandState) → hand ≡ Some h → hand_new ≡ None → d_new ≡ d → (block : ℕ) (r : ReqResult) (given : Option (List ℕ)) (refused ops : ℕ) (j : Job) → (state_of old).hand ≡ Some j → block ≡ job_block j
      → ops ≤ d_new.ops → new ≡ record old { entries = old.entries ++ Post block r given refused ops ∷ [] } → (e : Entry) → new.entries ≡ old.entries ++ e ∷ [] → PaidNow since (faults_of d_new) old new worn_now less_now e
  posted h held none still block r given refused ops j in_hand on by_then adds e is =
      let post : Post block r given refused ops ≡ e = last_same old.entries (Post block r given refused ops) e (sym (ap (λ (x : DeskState). x.entries) adds) ∙ is) in
      subst (λ (x : Entry). PaidNow since (faults_of d_new) old new worn_now less_now x) post (elim (posted_so h held none still block r given refused ops j in_hand on adds) [
        | inl counted ↦ inl counted
        | inr excused ↦ inr (excused_by old.config clock_new.worn (state_of old) d_new.ops block r given refused ops by_then excused)
      ])

  posts : (Fits : Type 0) (ops : ℕ) (copies behind : List Told) → AddsPost Fits ops old new copies behind → hand_new ≡ None → d_new ≡ d → (held : Option HandState) → hand ≡ held
      → ops ≤ d_new.ops → (e : Entry) → new.entries ≡ old.entries ++ e ∷ [] → PaidNow since (faults_of d_new) old new worn_now less_now e
  posts Fits ops copies behind adds none still None no_hand by_then e is =
      let alone : (state_of old).hand ≡ None = (subst (λ (x : Option HandState). IsPaired old.config (state_of old) x d) no_hand paired).0 in
      inl (counted_free since (faults_of d_new) (price_in_faults old.config (state_of old) e) less_now (free_alone old.config (state_of old) e alone))
  posts Fits ops copies behind adds none still (Some h) held by_then e is = elim adds [
    | inl post ↦ posted h held none still (job_block post.job) post.is.result post.is.given post.is.refused ops post.job post.hand refl by_then post.is.adds e is
    | inr next ↦ inl (counted_free since (faults_of d_new) (price_in_faults old.config (state_of old) e) less_now (free_alone old.config (state_of old) e next.0))
  ]

  -- a Post is no Pick
  pick_post : (h : List Entry) (block ops posted_block n m : ℕ) (kind : JobKind) (t : Taken) (r : ReqResult) (given : Option (List ℕ)) → h ++ Post posted_block r given n m ∷ [] ≡ h ++ Pick block kind t ops ∷ [] → ⊥
  pick_post h block ops posted_block n m kind t r given is = let same = last_same h (Post posted_block r given n m) (Pick block kind t ops) is in cc same

  no_pick_next : (next : Next) (ops : ℕ) (copies behind : List Told) → IsPostedNext next ops old new copies behind → (block k : ℕ) (kind : JobKind) (t : Taken) → new.entries ≡ old.entries ++ Pick block kind t k ∷ [] → ⊥
  no_pick_next (PostMember sw id) ops copies behind post block k kind t is = pick_post old.entries block k _ _ _ kind t _ _ (sym (ap (λ (y : DeskState). y.entries) post.adds) ∙ is)
  no_pick_next (EndSweep sw) ops copies behind post block k kind t is = pick_post old.entries block k _ _ _ kind t _ _ (sym (ap (λ (y : DeskState). y.entries) post.adds) ∙ is)
  no_pick_next Nothing ops copies behind post block k kind t is = post
  no_pick_next (PickJob j) ops copies behind post block k kind t is = post
  no_pick_next (BeginSweep sw) ops copies behind post block k kind t is = post
  no_pick_next (PickMember sw id) ops copies behind post block k kind t is = post

  no_pick_posted : (Fits : Type 0) (ops : ℕ) (copies behind : List Told) → AddsPost Fits ops old new copies behind → (block k : ℕ) (kind : JobKind) (t : Taken) → new.entries ≡ old.entries ++ Pick block kind t k ∷ [] → ⊥
  no_pick_posted Fits ops copies behind adds block k kind t is = elim adds [
    | inl post ↦ pick_post old.entries block k _ _ _ kind t _ _ (sym (ap (λ (y : DeskState). y.entries) post.is.adds) ∙ is)
    | inr next ↦ no_pick_next (next_of old.config (state_of old)) ops copies behind next.1 block k kind t is
  ]

  half_stood : new ≡ old → hand_new ≡ hand → OwesSince (has_urgent new) since hand_new d_new clock_new
  half_stood same_desk same_hand =
      subst (λ (x : DeskState). OwesSince (has_urgent x) since hand_new d_new clock_new) (sym same_desk)
      (subst (λ (x : Option HandState). OwesSince (has_urgent old) since x d_new clock_new) (sym same_hand) (half_stays hand owes))

  pub half_pays : (answer : Turned) (Holds : ℕ → Taken → Type 0) (Fits : Type 0) (copies behind : List Told) → IsHalf (Ended answer) Holds Fits old new copies behind d_new → AtDevice (Ended answer) hand d new hand_new d_new
      → PaysSince since old new hand_new d d_new clock_new
  half_pays turned.Off Holds Fits copies behind half at = record {
    owes = half_stood half.0.0 at.0;
    anew = λ block ops kind t is. absurd (no_longer old.entries (Pick block kind t ops) (ap (λ (x : DeskState). x.entries) (sym half.0.0) ∙ is));
    pays = none_paid since (faults_of d_new) old new worn_now less_now half.0.0;
  }
  half_pays turned.Idle Holds Fits copies behind half at = record {
    owes = half_stood half.0.0 at.0;
    anew = λ block ops kind t is. absurd (no_longer old.entries (Pick block kind t ops) (ap (λ (x : DeskState). x.entries) (sym half.0.0) ∙ is));
    pays = none_paid since (faults_of d_new) old new worn_now less_now half.0.0;
  }
  half_pays turned.Picked Holds Fits copies behind half at = record {
    owes = subst (λ (x : Option HandState). OwesSince (has_urgent new) since x d_new clock_new) (sym at.0) (begun new.config (state_of new) (state_of new).hand (has_urgent new) since d_new clock_new less_now);
    anew = λ block ops kind t is. subst (λ (x : Option HandState). OwesSince (has_urgent new) (faults_of d) x d_new clock_new) (sym at.0) (begun new.config (state_of new) (state_of new).hand (has_urgent new) (faults_of d) d_new clock_new (omega (arith, as_many)));
    pays = free_paid since (faults_of d_new) old new worn_now less_now (Pick half.0 half.1.kind half.1.taken (ops_of d_new)) (ap (λ (x : DeskState). x.entries) half.1.adds) refl;
  }
  half_pays turned.Posted Holds Fits copies behind half at = record {
    owes = subst (λ (x : Option HandState). OwesSince (has_urgent new) since x d_new clock_new) (sym at.1) (less_now, tt);
    anew = λ block ops kind t is. absurd (no_pick_posted Fits (ops_of d_new) copies behind half block ops kind t is);
    pays = posts Fits (ops_of d_new) copies behind half at.1 at.2 hand refl (omega arith);
  }
  half_pays turned.Worked Holds Fits copies behind half at = absurd half

  -- where the device's turn comes next
  pub half_goes : (held : Option HandState) → hand ≡ held → GoesOn held d hand_new d_new → OwesSince (has_urgent old) since hand_new d_new clock_new
  half_goes None none goes = subst (λ (x : Option HandState). OwesSince (has_urgent old) since x d_new clock_new) (sym goes.0) (less_now, tt)
  half_goes (Some h) some goes =
      subst (λ (x : Option HandState). OwesSince (has_urgent old) since x d_new clock_new) (sym goes.1)
      (half_stays (Some h) (subst (λ (x : Option HandState). OwesSince (has_urgent old) since x d clock) some owes))

-- A TURN OF THE DEVICE
module _ (c : Configuration) (s : State) (since : ℕ) (hand : Option HandState) (old new : DeviceTold) (clock clock_new : Clock) (grows : faults_of old ≤ faults_of new)
    (paired : IsPaired c s hand old) (started : IfSome hand (λ h. h.started ≡ true)) (owes : OwesSince (is_hand_urgent c s) since hand old clock) where
  by_lasts : Lasts old clock new clock_new → (held : Option HandState) → hand ≡ held → OwesSince (is_hand_urgent c s) since held new clock_new
  by_lasts lasts held is = since_stays c since (is_hand_urgent c s) old clock new clock_new lasts.ops grows lasts.past.worn held (subst (λ (x : Option HandState). OwesSince (is_hand_urgent c s) since x old clock) is owes)

  stood : Lasts old clock new clock_new → new.stand ≡ old.stand → OwesSince (is_hand_urgent c s) since (hand_by old.stand new.stand hand) new clock_new
  stood lasts same = subst (λ (x : Option HandState). OwesSince (is_hand_urgent c s) since x new clock_new) (sym (hand_same old.stand new.stand hand same)) (by_lasts lasts hand refl)

  moved : Lasts old clock new clock_new → (p : Part) → Works p old new clock_new → (a b : Stand) → old.stand ≡ a → JobTurns p a b old new clock_new → (held : Option HandState) → hand ≡ held
      → OwesSince (is_hand_urgent c s) since (hand_by a b held) new clock_new
  moved lasts p works (Open j) (Open k) was turns held is = by_lasts lasts held is
  moved lasts p works (Open j) (At r given) was turns None is = by_lasts lasts None is
  moved lasts p works (Open j) (At r given) was turns (Some h) is =
      let own : IsInHand c s h old = subst (λ (x : Option HandState). IsPaired c s x old) is paired in
      since_goes_on c since (is_hand_urgent c s) old clock new clock_new lasts.ops grows lasts.past.worn s h own
      (sym (ap (λ (o : Option Job). option_map_or (λ k. (rank_of c k).immediate) o false) own.hand)) (subst (λ (x : Option HandState). IfSome x (λ y. y.started ≡ true)) is started) p works j r given was turns.0 turns.1 (subst (λ (x : Option HandState). OwesSince (is_hand_urgent c s) since x old clock) is owes)
  moved lasts p works (At r given) b was turns held is = by_lasts lasts held is

  pub device_owes : (answer : Turned) → TurnsDevice answer old clock new clock_new → OwesSince (is_hand_urgent c s) since (hand_by old.stand new.stand hand) new clock_new
  device_owes turned.Idle turns = stood (turn_lasts turn.Idle old clock new clock_new turns).0 (ap (λ (d : DeviceTold). d.stand) turns.0.1)
  device_owes turned.Off turns = stood (turn_lasts turn.Off old clock new clock_new turns).0 (off_stand old clock new clock_new turns)
  device_owes turned.Worked turns = moved (turn_lasts turn.Worked old clock new clock_new turns).0 turns.0.1.0 turns.0.1.1 old.stand new.stand refl turns.0.1.1.job hand refl
  device_owes turned.Picked turns = absurd turns
  device_owes turned.Posted turns = absurd turns

-- what it adds has no price
wrote_free : (c : Configuration) (s : State) (number : ℕ) (mark : Option Mark) (ops : ℕ) → IfSome (wrote_by number mark ops) (λ e. price_in_faults c s e ≡ 0)
wrote_free c s number None ops = tt
wrote_free c s number (Some mark) ops = refl

settled_free : (c : Configuration) (s : State) (a b : Stand) (ops : ℕ) → IfSome (settled_by a b ops) (λ e. price_in_faults c s e ≡ 0)
settled_free c s (Open j) (At JobOk given) ops = wrote_free c s j.number j.mark ops
settled_free c s a b ops = tt

pub asked_free : (c : Configuration) (s : State) (answer : Turned) (a b : Stand) (ops : ℕ) → IfSome (asked_by answer a b ops) (λ e. price_in_faults c s e ≡ 0)
asked_free c s turned.Off a b ops = refl
asked_free c s turned.Idle a b ops = settled_free c s a b ops
asked_free c s turned.Worked a b ops = settled_free c s a b ops
asked_free c s turned.Picked a b ops = settled_free c s a b ops
asked_free c s turned.Posted a b ops = settled_free c s a b ops

-- and it leaves the rank of the job in hand
settled_urgency : (c : Configuration) (s : State) (a b : Stand) (ops : ℕ) → IfSome (settled_by a b ops) (λ e. is_hand_urgent c s ≡ is_hand_urgent c (step c s e))
settled_urgency c s (Open j) (At JobOk given) ops = by j.mark
  where
    by : (mark : Option Mark) → IfSome (wrote_by j.number mark ops) (λ e. is_hand_urgent c s ≡ is_hand_urgent c (step c s e))
    by None = tt
    by (Some m) = wrote_urgency c s (instance_of (record { 0 = j.number })) m ops
settled_urgency c s a b ops = tt

asked_urgency : (c : Configuration) (s : State) (answer : Turned) (a b : Stand) (ops : ℕ) → IfSome (asked_by answer a b ops) (λ e. is_hand_urgent c s ≡ is_hand_urgent c (step c s e))
asked_urgency c s turned.Off a b ops = refl
asked_urgency c s turned.Idle a b ops = settled_urgency c s a b ops
asked_urgency c s turned.Worked a b ops = settled_urgency c s a b ops
asked_urgency c s turned.Picked a b ops = settled_urgency c s a b ops
asked_urgency c s turned.Posted a b ops = settled_urgency c s a b ops

added_urgency : (between new : DeskState) (o : Option Entry) → IfSome o (λ e. is_hand_urgent between.config (state_of between) ≡ is_hand_urgent between.config (step between.config (state_of between) e))
    → AddsBy o between new → has_urgent between ≡ has_urgent new
added_urgency between new None same adds = ap has_urgent (sym adds)
added_urgency between new (Some e) same adds =
    same ∙ (ap (is_hand_urgent between.config) (sym (histories_step between.config between.entries e)) ∙ ap has_urgent (sym adds.0))

pub device_urgency : (answer : Turned) (a b : Stand) (ops : ℕ) (between new : DeskState) → AddsBy (asked_by answer a b ops) between new → has_urgent between ≡ has_urgent new
device_urgency answer a b ops between new adds = added_urgency between new (asked_by answer a b ops) (asked_urgency between.config (state_of between) answer a b ops) adds

pub device_adds : (since now : ℕ) (old between new : DeskState) (worn : Worn) (less : since ≤ now) → between ≡ old → (o : Option Entry) → AddsBy o between new → IfSome o (λ e. price_in_faults old.config (state_of old) e ≡ 0)
    → (e : Entry) → new.entries ≡ old.entries ++ e ∷ [] → PaidNow since now old new worn less e
device_adds since now old between new worn less same None adds free = none_paid since now old new worn less (adds ∙ same)
device_adds since now old between new worn less same (Some x) adds free =
    free_paid since now old new worn less x (ap (λ (y : DeskState). y.entries) adds.0 ∙ ap (λ (y : DeskState). y.entries ++ x ∷ []) same) free

-- LASTING
pub half_lasts : (d d_new : DeviceTold) (clock clock_new : Clock) → LeavesDevice d d_new → SameClock clock clock_new → Lasts d clock d_new clock_new
half_lasts d d_new clock clock_new leaves same =
    same_lasts d clock d_new clock_new (ap (λ (x : DeviceTold). x.ops) leaves) (ap (λ (x : DeviceTold). x.first.faults) leaves) (ap (λ (x : DeviceTold). x.second.faults) leaves) same

pub device_lasts : (answer : Turned) (old : DeviceTold) (clock : Clock) (new : DeviceTold) (clock_new : Clock) → TurnsDevice answer old clock new clock_new → Lasts old clock new clock_new
device_lasts turned.Idle old clock new clock_new turns = (turn_lasts turn.Idle old clock new clock_new turns).0
device_lasts turned.Off old clock new clock_new turns = (turn_lasts turn.Off old clock new clock_new turns).0
device_lasts turned.Worked old clock new clock_new turns = (turn_lasts turn.Worked old clock new clock_new turns).0
device_lasts turned.Picked old clock new clock_new turns = absurd turns
device_lasts turned.Posted old clock new clock_new turns = absurd turns

-- it adds no Pick
abbrev pub IsNoPick : Entry → Type 0
IsNoPick e = (block ops : ℕ) (kind : JobKind) (t : Taken) → e ≡ Pick block kind t ops → ⊥

wrote_picks_none : (number : ℕ) (mark : Option Mark) (ops : ℕ) → IfSome (wrote_by number mark ops) IsNoPick
wrote_picks_none number None ops = tt
wrote_picks_none number (Some mark) ops = λ block k kind t is. cc is

settled_picks_none : (a b : Stand) (ops : ℕ) → IfSome (settled_by a b ops) IsNoPick
settled_picks_none (Open j) (At JobOk given) ops = wrote_picks_none j.number j.mark ops
settled_picks_none a b ops = tt

pub asked_picks_none : (answer : Turned) (a b : Stand) (ops : ℕ) → IfSome (asked_by answer a b ops) IsNoPick
asked_picks_none turned.Off a b ops = λ block k kind t is. cc is
asked_picks_none turned.Idle a b ops = settled_picks_none a b ops
asked_picks_none turned.Worked a b ops = settled_picks_none a b ops
asked_picks_none turned.Picked a b ops = settled_picks_none a b ops
asked_picks_none turned.Posted a b ops = settled_picks_none a b ops

pub device_picks_none : (old between new : DeskState) → between ≡ old → (o : Option Entry) → AddsBy o between new → IfSome o IsNoPick → (block ops : ℕ) (kind : JobKind) (t : Taken)
    → new.entries ≡ old.entries ++ Pick block kind t ops ∷ [] → ⊥
device_picks_none old between new same None adds none block ops kind t is = no_longer old.entries (Pick block kind t ops) (ap (λ (x : DeskState). x.entries) (sym (adds ∙ same)) ∙ is)
device_picks_none old between new same (Some x) adds none block ops kind t is =
    none block ops kind t (last_same old.entries x (Pick block kind t ops) (sym (ap (λ (y : DeskState). y.entries) adds.0 ∙ ap (λ (y : DeskState). y.entries ++ x ∷ []) same) ∙ is))
