-- The next job is picked.
use Rattle.std.proofs.Common.{◌≡◌, ◌≢◌, ◌≤◌, ◌<◌, ℕ, ◌+◌, ◌^◌, List, [], ◌∷◌, ◌++◌, length, option_to_list, refl, sym, ap, ◌∙◌, subst, arith, Option, Some, None, IfSome, Bool, false, IsTrue, ◌↔◌}
use Rattle.std.specs.Option.{option_map_or}
use Rattle.std.proofs.lemmas.List.Sums.{sum_by-cons}
use Rattle.nv_recorder.specs.Recorder.{Recorded}
use Rattle.block_machine.specs.Words.{Configuration, JobKind, Taken, Pick}
use Rattle.block_machine.specs.State.{State, Job, BlockState, jobs_of}
use Rattle.block_machine.specs.Blocks.{desc_of, job_block, kind_of, rank_of}
use Rattle.block_machine.specs.Next.{PickJob, next_by, next_in, next_of}
use Rattle.block_machine.specs.Reply.{reserved_entries}
use Rattle.block_machine.specs.Steps.{after, step, changed_by, in_hand, content_after}
use Rattle.block_machine.specs.Legal.{HandIsFree, IsAllowed, MayInterrupt, MayPick}
use Rattle.block_states.specs.States.{state_at}
use Rattle.block_laws.specs.Consistent.{Each, IsConsistent, IsWaitingJob, IsJobInHand}
use Rattle.block_laws.proofs.NextLaws.{next_is_waiting}
use Rattle.job_pending.specs.declared.take.Take.{Take}
use Rattle.job_pending.specs.declared.take.Take.TheVariants as take
use Rattle.job_pending.specs.Take.{Took, taken_with}
use Rattle.job_pending.specs.Pending.{Pending, Agree}
use Rattle.nv_desk_state.specs.declared.kept.Kept.{Kept}
use Rattle.nv_desk_state.specs.Kept.{Agrees}
use Rattle.nv_desk.specs.Sound.{IsPendingJob, IsSound}
use Rattle.nv_desk.specs.declared.desk.Desk.TheInside.{Inside}
use Rattle.nv_desk.specs.Desk.{DeskState, IsKept, shown, state_of}
use Rattle.nv_desk.specs.Picks.{CanTake, IsInterruption, MayPickNext, copied_of, lent_or, next_ram, own_first, ram_at, took_of}
use Rattle.nv_desk.specs.Places.{Ready, IsReady, AreReady, taken_from}
use Rattle.nv_desk.specs.Rooms.{with_entry}
use Rattle.nv_desk.proofs.Contents.{FillsRooms, copied_fits, job_takes, own_same, ram_is_whole}
use Rattle.nv_desk.proofs.Drivers.{HasRoom, has_room}
use Rattle.nv_desk.proofs.Entries.{StandReady}
use Rattle.nv_desk.proofs.Ready.{next_place, picked_ready, taken_length}
use Rattle.nv_desk.proofs.SoundDriver.{sound_pick}

-- what holds of all holds of one
each_mid : (P : Job → Type 0) (before : List Job) (j : Job) (after : List Job) → Each P (before ++ j ∷ after) → P j
each_mid P [] j after each = each.0
each_mid P (x ∷ before) j after each = each_mid P before j after each.1

each_in : (P : Job → Type 0) (o : Option Job) (waiting before : List Job) (j : Job) (after : List Job) → waiting ≡ before ++ j ∷ after
    → Each P (option_to_list o ++ waiting) → P j
each_in P None waiting before j after is each = each_mid P before j after (subst (Each P) is each)
each_in P (Some x) waiting before j after is each = each_mid P before j after (subst (Each P) is each.1)

pub some_is : (x y : Job) → Some x ≡ Some y → x ≡ y
some_is x y e = cc

-- what is known of it
pub record IsNext (c : Configuration) (s : State) (j : Job) : Type 0 where
  pub pending : IsPendingJob c s j
  pub number : j.number < s.count
  pub other : IfSome s.hand (λ h. (h.number < s.count) × (j.number ≢ h.number))

other_by : (c : Configuration) (s : State) (o : Option Job) (before : List Job) (j : Job) (after : List Job)
    → s.waiting ≡ before ++ j ∷ after → IfSome o (IsJobInHand c s) → IfSome o (λ h. (h.number < s.count) × (j.number ≢ h.number))
other_by c s None before j after is h = tt
other_by c s (Some x) before j after is h = (
  h.number,
  each_mid (λ y. y.number ≢ x.number) before j after
      (subst (Each (λ (y : Job). y.number ≢ x.number)) is h.apart),
)

pub ready : (c : Configuration) (s : State) (j : Job) → IsSound c s → next_in c s.waiting ≡ Some j → IsNext c s j
ready c s j sound next =
    let (before, after, is) = next_is_waiting c s.waiting j next in
    record {
      pending = each_in (IsPendingJob c s) s.hand s.waiting before j after is sound.jobs;
      number = (each_mid (IsWaitingJob c s.count) before j after (subst (Each (IsWaitingJob c s.count)) is sound.consistent.waiting)).number;
      other = other_by c s s.hand before j after is sound.consistent.hand;
    }

some_pending : (c : Configuration) (s : State) (o : Option Job) → ((j : Job) → o ≡ Some j → IsPendingJob c s j) → IfSome o (IsPendingJob c s)
some_pending c s None each = tt
some_pending c s (Some j) each = each j refl

pub next_pending : (c : Configuration) (s : State) → IsSound c s → IfSome (next_in c s.waiting) (IsPendingJob c s)
next_pending c s sound = some_pending c s (next_in c s.waiting) (λ j next. (ready c s j sound next).pending)

-- the entries of a job in hand and two more have a number
room_by : (c : Configuration) (s : State) (p : Pending) (held o : Option Job) (j : Job) (n m : ℕ) → Agree c p s.waiting held → s.hand ≡ held
    → p.hand ≡ o → IfSome held (λ h. (h.number < s.count) × (j.number ≢ h.number)) → j.number < s.count
    → s.count ≡ n → n + reserved_entries c s ≤ m → m < 2 ^ 32 → IfSome o (λ h. p.reserved + h.reserved + 2 < 2 ^ 32)
room_by c s p None None j n m h is hand other low count fits within = tt
room_by c s p None (Some x) j n m h is hand other low count fits within = cc (h.hand)
room_by c s p (Some y) None j n m h is hand other low count fits within = tt
room_by c s p (Some y) (Some x) j n m h is hand other low count fits within =
    let e : y ≡ x = cc (h.hand) in
    let sum = sum_by-cons (λ (j : Job). j.reserved) y s.waiting in
    let differs = other.1 in
    let kept = h.reserved in
    let all = rw is at fits in
    subst (λ (z : Job). p.reserved + z.reserved + 2 < 2 ^ 32) e (omega (arith, sum, differs, other.0, low, kept, count, all, within))

pub pick_room : (c : Configuration) (s : State) (p : Pending) (j : Job) (n m : ℕ) → Agree c p s.waiting s.hand → IsNext c s j → s.count ≡ n
    → n + reserved_entries c s ≤ m → m < 2 ^ 32 → IfSome p.hand (λ h. p.reserved + h.reserved + 2 < 2 ^ 32)
pick_room c s p j n m h r count fits within = room_by c s p s.hand p.hand j n m h refl refl r.other r.number count fits within

-- THE STEP

next_is : (c : Configuration) (s : State) (j : Job) → next_in c s.waiting ≡ Some j → next_of c s ≡ PickJob j
next_is c s j next = rw next refl

pub pick_step : (c : Configuration) (k : Kept) (s : State) (j : Job) (block : ℕ) (kind : JobKind) (t : Taken) (ops : ℕ)
    → next_in c s.waiting ≡ Some j → Agrees c k (in_hand c s j t) → Agrees c k (changed_by c s (Pick block kind t ops))
pick_step c k s j block kind t ops next h = rw (next_is c s j next) h

pub picked_sound : (c : Configuration) (s : State) (j : Job) (block : ℕ) (kind : JobKind) (t : Took) (ops : ℕ)
    → IsSound c s → next_in c s.waiting ≡ Some j → IsNext c s j
    → IfSome (content_after j.content (taken_with j.content t)) (λ x. length x.0 ≡ (desc_of c (job_block j)).length)
    → IsConsistent c (step c s (Pick block kind (taken_with j.content t) ops)) → IsSound c (step c s (Pick block kind (taken_with j.content t) ops))
picked_sound c s j block kind t ops sound next r whole consistent =
    let e = next_is c s j next in
    rw e (sound_pick c s j (taken_with j.content t) (s.count + 1) ops sound (rw e at consistent) r.pending whole)

-- bytes that fill a block have room
content_within : (n m : ℕ) (o : Option (List ℕ × ℕ)) → m ≤ n → IfSome o (λ x. length x.0 ≡ m) → IfSome o (λ x. length x.0 ≤ n)
content_within n m None less fits = tt
content_within n m (Some x) less fits = omega (arith, less, fits)

-- what the Pick finds: room for its entry and for copies, what is known of the job, and a content of its block's length
pub record JobPick (d : Inside) (took : Took) (ops : ℕ) (j : Job) : Type 0 where
  pub room : HasRoom d (Pick (job_block j) (kind_of j) (taken_with j.content took) ops)
  pub ready : IsNext d.config (after d.config d.history.entries) j
  pub whole : IfSome (content_after j.content (taken_with j.content took)) (λ x. length x.0 ≡ (desc_of d.config (job_block j)).length)
  pub takes : CanTake d.history.longest j.content took
  pub place : j.content ≡ None → IsReady d.config d.places (job_block j)

pub job_pick : (d : Inside) (took : Took) (ops : ℕ) → IsKept d → FillsRooms d.kept → (may : MayPickNext (shown d) took ops) → JobPick d took ops may.job
job_pick d took ops is fills may =
    let s = after d.config d.history.entries in
    let j = may.job in
    let n = (desc_of d.config (job_block j)).length in
    let r = ready d.config s j is.sound may.is in
    let has = has_room d (Pick (job_block j) (kind_of j) (taken_with j.content took) ops) is may.allowed refl in
    let ram = ram_is_whole d.config d.kept s is.agrees is.sound may.allowed.0.started fills in
    let whole = job_takes d.config d.history.cap s j (taken_with j.content took) ops ram may.is r.pending may.allowed in
    record {
      room = has;
      ready = r;
      whole = whole;
      takes = record {
        own = content_within d.history.longest n j.content (is.longest (job_block j)) r.pending.content;
        copied = copied_fits n d.history.longest j.content took (is.longest (job_block j)) whole;
      };
      place = next_place d.config d.kept.jobs s j d.places is.agrees.jobs may.is r.pending.pending (is.sound.places may.allowed.0.started) is.ready;
    }

-- what it takes, where one that has a content takes that
pub own_next : (d : Inside) (t : Take) (lent : List ℕ) (ops : ℕ) → MayPickNext (shown d) (took_of t lent) ops → (j : Job)
    → next_in d.config (after d.config d.history.entries).waiting ≡ Some j → taken_with j.content (took_of (own_first t j.content) lent) ≡ taken_with j.content (took_of t lent)
own_next d t lent ops may j next =
    subst (λ (x : Job). taken_with x.content (took_of (own_first t x.content) lent) ≡ taken_with x.content (took_of t lent)) (some_is may.job j (sym may.is ∙ next))
    (own_same d.config d.history.cap (after d.config d.history.entries) may.job t lent ops may.is may.allowed)

pub whole_own : (d : Inside) (t : Take) (lent : List ℕ) (j : Job) → taken_with j.content (took_of (own_first t j.content) lent) ≡ taken_with j.content (took_of t lent)
    → IfSome (content_after j.content (taken_with j.content (took_of t lent))) (λ x. length x.0 ≡ (desc_of d.config (job_block j)).length)
    → IfSome (content_after j.content (taken_with j.content (took_of (own_first t j.content) lent))) (λ x. length x.0 ≡ (desc_of d.config (job_block j)).length)
whole_own d t lent j one whole = rw one whole

own_by : (r : ℕ) (t : Take) (lent : List ℕ) (content : Option (List ℕ × ℕ)) → CanTake r content (took_of t lent) → CanTake r content (took_of (own_first t content) lent)
own_by r (take.Copied store) lent (Some x) can = record { own = can.own; copied = tt }
own_by r (take.Copied store) lent None can = can
own_by r t lent content can = can

pub takes_own : (d : Inside) (t : Take) (lent : List ℕ) (j : Job) → CanTake d.history.longest j.content (took_of t lent) → CanTake d.history.longest j.content (took_of (own_first t j.content) lent)
takes_own d t lent j can = own_by d.history.longest t lent j.content can

-- the places behind it
pub pick_places : (d : Inside) (places : Ready) (block : ℕ) (kind : JobKind) (t own : Take) (lent : List ℕ) (ops at : ℕ) (x j : Job) → IsKept d
    → next_in d.config (after d.config d.history.entries).waiting ≡ Some j → x ≡ j → own ≡ own_first t x.content → at ≡ job_block x
    → taken_with j.content (took_of (own_first t j.content) lent) ≡ taken_with j.content (took_of t lent)
    → places ≡ taken_from d.places at (copied_of own lent)
    → StandReady d (changed_by d.config (after d.config d.history.entries) (Pick block kind (taken_with j.content (took_of t lent)) ops)) places
pick_places d places block kind t own lent ops at x j is next same takes on one changed =
    let s = after d.config d.history.entries in
    let first = own_first t j.content in
    let which : own ≡ first = takes ∙ ap (λ (y : Job). own_first t y.content) same in
    let there : at ≡ job_block j = on ∙ ap job_block same in
    let all : places ≡ taken_from d.places (job_block j) (copied_of first lent) =
    changed ∙ ap (λ (n : ℕ). taken_from d.places n (copied_of own lent)) there ∙ ap (λ (u : Take). taken_from d.places (job_block j) (copied_of u lent)) which in
    subst (StandReady d (changed_by d.config s (Pick block kind (taken_with j.content (took_of t lent)) ops))) (sym all)
    (record {
      count = taken_length d.places (job_block j) (copied_of first lent);
      ready = rw (next_is d.config s j next) (subst (λ (u : Taken). AreReady d.config (jobs_of (in_hand d.config s j u)) (taken_from d.places (job_block j) (copied_of first lent))) one
          (picked_ready d.config s j first lent d.places next is.sound.consistent.apart is.ready));
    })

-- its entry, by the job that it is of
pub entry_of : (h new : Recorded) (block : ℕ) (kind : JobKind) (t : Taken) (x j : Job) (took : Took) (ops : ℕ) → block ≡ job_block x → kind ≡ kind_of x
    → t ≡ taken_with x.content took → x ≡ j → new ≡ with_entry h (Pick block kind t ops)
    → new ≡ with_entry h (Pick (job_block j) (kind_of j) (taken_with j.content took) ops)
entry_of h new block kind t x j took ops at is takes same adds =
    adds ∙ ap (λ (b : ℕ). with_entry h (Pick b kind t ops)) at
    ∙ ap (λ (k : JobKind). with_entry h (Pick (job_block x) k t ops)) is
    ∙ ap (λ (u : Taken). with_entry h (Pick (job_block x) (kind_of x) u ops)) takes
    ∙ ap (λ (y : Job). with_entry h (Pick (job_block y) (kind_of y) (taken_with y.content took) ops)) same

-- AN INTERRUPTION

pub interruption : (r : Bool) (d : DeskState) (h j : Job) → (state_of d).hand ≡ Some h → next_in d.config (state_of d).waiting ≡ Some j
    → (IsTrue r ↔ MayInterrupt d.config h j) → (IsTrue r ↔ IsInterruption d)
interruption r d h j hand next both = (
  λ t. record { job = h; held = hand; next = j; first = next; may = both.0 t },
  λ i. both.1 (subst (λ (x : Job). MayInterrupt d.config x j) (some_is i.job h (sym i.held ∙ hand))
      (subst (λ (x : Job). MayInterrupt d.config i.job x) (some_is i.next j (sym i.first ∙ next)) i.may)),
)

-- a job that isn't immediate interrupts none
pub not_interrupting : (d : DeskState) → false ≡ option_map_or (λ j. (rank_of d.config j).immediate) (next_in d.config (state_of d).waiting) false → (IsTrue false ↔ IsInterruption d)
not_interrupting d told = (
  λ t. cc,
  λ i. let is = told ∙ ap (λ (o : Option Job). option_map_or (λ j. (rank_of d.config j).immediate) o false) i.first in cc (is, i.may.immediate),
)

-- the Pick of a job leaves none in hand that it may not interrupt
pub hand_free : (c : Configuration) (cap : ℕ) (s : State) (j : Job) (block : ℕ) (kind : JobKind) (t : Taken) (ops : ℕ) → next_in c s.waiting ≡ Some j
    → IsAllowed c cap s (Pick block kind t ops) → HandIsFree c s.hand j
hand_free c cap s j block kind t ops next allowed = (subst (λ (o : Option Job). MayPick c s block kind t (next_by c s o s.hand s.sweep)) next allowed.1).free

-- WHAT IS LENT

-- what is lent, or the RAM that is kept of a block
pub lent_at : (d : Inside) (block : ℕ) (ram : List ℕ) (lent : Option (List ℕ)) → IsKept d → ram ≡ (state_at d.kept.blocks.states block).ram
    → lent_or ram lent ≡ lent_or (ram_at (shown d) block) lent
lent_at d block ram lent is e = ap (λ (r : List ℕ). lent_or r lent) (e ∙ ap (λ (bs : List BlockState). (state_at bs block).ram) is.agrees.blocks)

-- the same of the block of the next job
pub lent_next : (d : Inside) (j : Job) (block : ℕ) (ram : List ℕ) (lent : Option (List ℕ)) → IsKept d → next_in d.config (after d.config d.history.entries).waiting ≡ Some j
    → block ≡ job_block j → ram ≡ (state_at d.kept.blocks.states block).ram → lent_or ram lent ≡ lent_or (next_ram (shown d)) lent
lent_next d j block ram lent is next same e =
    lent_at d block ram lent is e ∙ ap (λ (r : List ℕ). lent_or r lent) (rw (next, same) refl)
