-- A turn's halves, and a whole turn of a stack, as moves.
use Rattle.nvm_moves.proofs.Common.{LeavesTurns, DueAt, IsPostedSoon, IfSome, IsTrue, is_none, not, ◌||◌, ◌≡◌, ◌⊎◌, inl, inr, ℕ, ◌+◌, ◌<◌, ◌≤◌, Bool, true, false, List, [], ◌∷◌, Option, Some, None, refl, sym, ap, ◌∙◌, subst, arith, Rose, DeviceTold, Fixed, Stand, faults_of, nothing_open, Clock, InOrder, RoomIsLeft, Entry, Pick, Post, Off, Taken, Configuration, State, Job, job_block, Next, Nothing, PostMember, EndSweep, next_of, MayPick, IsPosted, IsPostedNext, Answer, IsHalf, GoesOn, with_entries, DeskState, state_of, HandState, IsPaired, Told, IsTied, IsDue, IsDueInHand, IsNearer, post_first, TurnServesDue, StaysKept, AddsBy, hand_by, Turned, Ended, has_turned, TurnsDevice, asked_by, StackState, IsFirstHalf, OwesSince, has_urgent, worn_so_far, TurnPays, KeepsSeal, TakesKeptInHand, Lasts, half_lasts, device_lasts, Worn, IsWorked, is_posted, IsSimple, costs_in, work_in, now_of, IsDueFor, free_turns, IsOfBlock, LeavesDevice, left_with, IsWithin, TakesTurns, histories_step, is_due, is_at_rest, begins_with_pick_or_post, Moment, Move, EndsCanceled, entry_list, is_asked, is_found, is_picked, not_true, bound_of, Begun, Seen, all_with, frame_in, moment_by, most_by, IsDueWithin, HadPages, FitsHand, IsBound, IsTurnTold, IsHalfTold, next_count, is_device_off, SameClock, Turns, DeviceTurn, AtDevice, IsServed, StackKeepsAsTold, Act, Device, device_turns_keep_seal, device_turns_take_kept, first_halves_keep_seal, half_pays, device_owes, device_urgency, device_adds, asked_free, device_picks_none, asked_picks_none, IsNoPick, half_takes_none, half_works, half_adds, Effort, moment_of, device_counts, BeginsIn, at_rest, due_hand, due_off, due_rest, rests_next, PowersOff}
use Rattle.nvm_core.specs.memif.Told.{ops_of}
use Rattle.nvm_core.specs.memif.declared.answer.DeviceTurn.TheVariants as turn
use Rattle.nvm_core.specs.nvm_laws.declared.turned.Turned.TheVariants as turned
use Rattle.nvm_core.specs.Turns as core
use Rattle.nvm_moves.proofs.Most.{begun_most, held_bounded, most_is, turned_most, within_of}
use Rattle.nvm_moves.proofs.InAll.{all_bounded, turn_falls}
use Rattle.promise_run.specs.Turns.{is_off}
use Rattle.nvm_moves.proofs.Canceled.{allowed_ends, held_ends, late_ends}
use Rattle.nvm_moves.proofs.DeviceDue.{device_soon}
use Rattle.nvm_moves.proofs.DeviceWorks.{device_works, on_by}
use Rattle.nvm_moves.proofs.Servable.{one_off}
use Rattle.nvm_moves.proofs.TurnServed.{ended_soon, turn_soon}
use Rattle.nvm_moves.proofs.TurnEntries.{AddsOne, IsOfTurn, asked_posts, device_adds_one, isnt_asked, isnt_found, none_more}

pub as_turn : (answer : Turned) (old : DeviceTold) (clock : Clock) (new : DeviceTold) (clock_new : Clock) → TurnsDevice answer old clock new clock_new → (a : DeviceTurn) × Turns a old clock new clock_new
as_turn turned.Idle old clock new clock_new turns = (turn.Idle, turns)
as_turn turned.Worked old clock new clock_new turns = (turn.Worked, turns)
as_turn turned.Off old clock new clock_new turns = (turn.Off, turns)
as_turn answer old clock new clock_new turns = absurd turns

pub device_fixed : (answer : Turned) (old : DeviceTold) (clock : Clock) (new : DeviceTold) (clock_new : Clock) → TurnsDevice answer old clock new clock_new → new.fixed ≡ old.fixed
device_fixed answer old clock new clock_new turns = let (a, is) = as_turn answer old clock new clock_new turns in (has_turned a old clock new clock_new is).fixed

one_by : (a b : ℕ) → (b ≡ a) ⊎ (b ≡ next_count a) → b ≤ a + 1
one_by a b (inl same) = omega (arith, same)
one_by a b (inr next) = omega (arith, next)

makes_one : (a : DeviceTurn) (old : DeviceTold) (clock : Clock) (new : DeviceTold) (clock_new : Clock) → Turns a old clock new clock_new → new.ops ≤ old.ops + 1
makes_one turn.Idle old clock new clock_new turns = let ops = ap (λ (d : DeviceTold). d.ops) turns.0.1 in omega (arith, ops)
makes_one turn.Worked old clock new clock_new turns = one_by old.ops new.ops turns.0.1.1.part.one
makes_one turn.Off old clock new clock_new turns = elim turns.0.1.1 [
  | inl still ↦ let ops = ap (λ (d : DeviceTold). d.ops) still.2 in omega (arith, ops)
  | inr cut ↦ one_by old.ops new.ops cut.0.part.one
]

turns_by : (ops : ℕ) (e : Option Entry) → IfSome e (IsOfTurn ops) → (is_asked e ≡ false) × (is_found e ≡ false)
turns_by ops None of = (refl, refl)
turns_by ops (Some e) of = (isnt_asked ops e of, isnt_found ops (Some e) of)

told_by : (ops : ℕ) (e : Option Entry) → IfSome e (IsOfTurn ops) → IfSome e (λ x. Rattle.nvm_core.specs.nv_base.Entry.ops_of x ≡ Some ops)
told_by ops None of = tt
told_by ops (Some e) of = of.told

not_picked : (answer : Turned) (a b : Stand) (ops : ℕ) → is_picked (asked_by answer a b ops) ≡ true → ⊥
not_picked answer a b ops = by (asked_by answer a b ops) (asked_picks_none answer a b ops)
  where
    by : (e : Option Entry) → IfSome e IsNoPick → is_picked e ≡ true → ⊥
    by (Some (Pick block kind t n)) none is = none block n kind t refl
    by e none is = cc is

-- THE ENTRY OF A FIRST HALF
begins_by : (t : Bool) → IsTrue (not t || true)
begins_by true = refl
begins_by false = refl

not_late : (t u : Bool) → t ≡ false → IsTrue (not t || u)
not_late t u late = rw late refl

some_in : (o : Option Job) → is_none o ≡ false → (j : Job) × (o ≡ Some j)
some_in None some = absurd (cc some)
some_in (Some j) some = (j, refl)

not_out : {o : Option Job} → o ≡ None → is_none o ≡ false → ⊥
not_out {o} out held = let no_ : true ≡ false = sym (ap is_none out) ∙ held in cc no_

fits_none : (block : ℕ) (o : Option Job) → o ≡ None → IfSome o (λ j. job_block j ≡ block)
fits_none block None none = tt
fits_none block (Some j) none = cc none

-- none of the device's is a Post or a Pick
device_fits : (s : State) (answer : Turned) (a b : Stand) (ops : ℕ) → FitsHand s (asked_by answer a b ops)
device_fits s answer a b ops = by (asked_by answer a b ops) (asked_picks_none answer a b ops) (asked_posts answer a b ops)
  where
    by : (e : Option Entry) → IfSome e IsNoPick → is_posted e ≡ false → FitsHand s e
    by (Some (Pick block kind t n)) none posts = absurd (none block n kind t refl)
    by (Some (Post block r given refused n)) none posts = absurd (cc posts)
    by e none posts = tt

-- it serves what is due; and at rest there is none
pub record IsEntryOf (W : Type 0) (ops : ℕ) (old new : DeskState) (hand hand_new : Option HandState) (d d_new : DeviceTold) (e : Option Entry) : Type 0 where
  pub one : AddsOne ops old new e
  pub turns : (is_asked e ≡ false) × (is_found e ≡ false)
  pub begins : BeginsIn (state_of old) e
  -- behind a Pick this holds; behind another the job is out of hand, or the power is off
  pub picks : is_picked e ≡ true → W
  pub on : is_off e ≡ false
  pub fits : FitsHand (state_of old) e
  pub drops : is_picked e ≡ false → (state_of new).off ≡ false → is_none (state_of new).hand ≡ false → ⊥
  pub rests : IsTrue (is_at_rest (state_of old)) → (e ≡ None) × (hand_new ≡ hand) × (d_new ≡ d)

module _ (W : Type 0) (ops : ℕ) (old new : DeskState) (hand hand_new : Option HandState) (d d_new : DeviceTold) where
  post_entry : (Premise : Type 0) (block : ℕ) (ram : Bool) (ended : Answer) (before after : List Told) → Premise → (state_of old).hand ≡ None → (state_of new).hand ≡ None → (IsTrue (is_at_rest (state_of old)) → ⊥)
      → IsPosted Premise block ram ended ops old new before after → (e : Option Entry) × IsEntryOf W ops old new hand hand_new d d_new e
  post_entry Premise block ram ended before after premise none out busy is = (
    Some (Post block is.result is.given is.refused ops),
    record {
      one = record { adds = is.adds; of = record { told = refl; kind = inl refl } };
      turns = (refl, refl);
      begins = (begins_by (is_due (state_of old)), allowed_ends old.config old.cap (state_of old) (Post block is.result is.given is.refused ops) (is.allowed premise) refl);
      picks = λ picked. absurd (cc picked);
      on = refl;
      fits = fits_none _ (state_of old).hand none;
      drops = λ other on held. not_out out held;
      rests = λ rest. absurd (busy rest);
    },
  )

  posts_next : (n : Next) (before after : List Told) → (state_of old).hand ≡ None → (state_of new).hand ≡ None → next_of old.config (state_of old) ≡ n → IsPostedNext n ops old new before after → (e : Option Entry) × IsEntryOf W ops old new hand hand_new d d_new e
  posts_next (PostMember sw id) before after none out n is = post_entry _ id _ _ before after tt none out (λ rest. let same : PostMember sw id ≡ Nothing = sym n ∙ (rests_next old.config (state_of old) rest).1 in cc same) is
  posts_next (EndSweep sw) before after none out n is = post_entry _ 0 _ _ before after tt none out (λ rest. let same : EndSweep sw ≡ Nothing = sym n ∙ (rests_next old.config (state_of old) rest).1 in cc same) is
  posts_next _ before after none out n is = absurd is

  pub half_entry : (answer : Turned) (Holds : ℕ → Taken → Type 0) (Fits : Type 0) (before after : List Told) → (answer ≡ turned.Off → (state_of old).off ≡ true) → (answer ≡ turned.Picked → W) → (answer ≡ turned.Posted → (state_of new).hand ≡ None) → ops ≡ ops_of d_new
      → IsHalf (Ended answer) Holds Fits old new before after d_new → AtDevice (Ended answer) hand d new hand_new d_new → (e : Option Entry) × IsEntryOf W ops old new hand hand_new d d_new e
  half_entry turned.Off Holds Fits before after off within out now half at =
      (None, record { one = record { adds = half.0.0 ∙ none_more old; of = tt }; turns = (refl, refl); begins = let late = due_off (state_of old) (off refl) in (not_late (is_due (state_of old)) false late, late_ends (state_of old) None late); picks = λ picked. absurd (cc picked); on = refl; fits = tt; drops = λ other on held. absurd (let no_ : true ≡ false = sym (off refl) ∙ ap (λ (x : DeskState). (state_of x).off) (sym half.0.0) ∙ on in cc no_); rests = λ rest. (refl, at.0, at.1) })
  half_entry turned.Idle Holds Fits before after off within out now half at =
      (None, record { one = record { adds = half.0.0 ∙ none_more old; of = tt }; turns = (refl, refl); begins = let late = due_rest (state_of old) (at_rest old.config (state_of old) half.1.hand half.1.next) in (not_late (is_due (state_of old)) false late, late_ends (state_of old) None late); picks = λ picked. absurd (cc picked); on = refl; fits = tt; drops = λ other on held. not_out (ap (λ (x : DeskState). (state_of x).hand) half.0.0 ∙ half.1.hand) held; rests = λ rest. (refl, at.0, at.1) })
  half_entry turned.Worked Holds Fits before after off within out now half at = absurd half
  half_entry turned.Picked Holds Fits before after off within out now (block, is) at = (
    Some (Pick block is.kind is.taken ops),
    record {
      one = record { adds = subst (λ (n : ℕ). new ≡ with_entries old (Pick block is.kind is.taken n ∷ [])) (sym now) is.adds; of = record { told = refl; kind = inl refl } };
      turns = (refl, refl);
      begins = (
        begins_by (is_due (state_of old)),
        subst (λ (n : ℕ). EndsCanceled (state_of old) (Some (Pick block is.kind is.taken n))) (sym now) (allowed_ends old.config old.cap (state_of old) (Pick block is.kind is.taken (ops_of d_new)) is.allowed refl),
      );
      picks = λ picked. within refl;
      on = refl;
      fits = not_true (state_of old).off is.allowed.0.on;
      drops = λ other on held. absurd (cc other);
      rests = λ rest. absurd (subst (λ (n : Next). MayPick old.config (state_of old) block is.kind is.taken n) (rests_next old.config (state_of old) rest).1 is.allowed.1);
    },
  )
  half_entry turned.Posted Holds Fits before after off within out now (inl held) at = (
    Some (Post (job_block held.job) held.is.result held.is.given held.is.refused ops),
    record {
      one = record { adds = subst (λ (n : ℕ). new ≡ with_entries old (Post (job_block held.job) held.is.result held.is.given held.is.refused n ∷ [])) (sym now) held.is.adds; of = record { told = refl; kind = inl refl } };
      turns = (refl, refl);
      begins = (begins_by (is_due (state_of old)), held_ends (state_of old) held.job (Some (Post (job_block held.job) held.is.result held.is.given held.is.refused ops)) held.hand);
      picks = λ picked. absurd (cc picked);
      on = refl;
      fits = subst (λ (o : Option Job). IfSome o (λ j. job_block j ≡ job_block held.job)) (sym held.hand) refl;
      drops = λ other on some. not_out (out refl) some;
      rests = λ rest. absurd (let same : Some held.job ≡ None = sym held.hand ∙ (rests_next old.config (state_of old) rest).0 in cc same);
    },
  )
  half_entry turned.Posted Holds Fits before after off within out now (inr next) at =
      posts_next (next_of old.config (state_of old)) before after next.0 (out refl) refl (subst (λ (n : ℕ). IsPostedNext (next_of old.config (state_of old)) n old new before after) (sym now) next.1)

-- where the device's turn comes next nothing is due
pub never_late : (c : Configuration) (s : State) → (s.hand ≡ None → next_of c s ≡ Nothing) → is_due s ≡ false
never_late c s next = by s.hand refl
  where
    by : (h : Option Job) → s.hand ≡ h → is_due s ≡ false
    by None is = due_rest s (at_rest c s is (next is))
    by (Some j) is = due_hand s j is

-- A HALF THAT GOES TO THE DEVICE
-- the job in hand isn't finished
pub unfinished : (hand new : Option HandState) (d d_new : DeviceTold) → GoesOn hand d new d_new → (post_first hand ≡ 0) × (post_first new ≡ 0)
unfinished None new d d_new goes = (refl, ap post_first goes.0)
unfinished (Some h) new d d_new goes = (rw goes.0 refl, ap post_first goes.1 ∙ (rw goes.0 refl))

-- something is pending, or something was open
pub never_idle : (c : Configuration) (s : State) (hand new : Option HandState) (d b : DeviceTold) → GoesOn hand d new b → IsPaired c s new b → nothing_open b ≡ false → IsTrue (is_at_rest s) → not (nothing_open d) ≡ false → ⊥
never_idle c s None new d b goes paired busy rest idle =
    let shut : not (nothing_open d) ≡ true = ap not (ap nothing_open (sym goes.1) ∙ busy) in let no_ : true ≡ false = sym shut ∙ idle in cc no_
never_idle c s (Some h) new d b goes paired busy rest idle =
    let hand = subst (λ (o : Option HandState). IsPaired c s o b) goes.1 paired in
    let no_ : Some hand.job ≡ None = sym hand.hand ∙ (rests_next c s rest).0 in cc no_

module _ {D C : Type 0} (told : D → DeviceTold) (clock : D → Clock) (copies : C → List Told) (is_store : C → ℕ → ℕ → List ℕ → Type 0) (looked : C → C → ℕ → ℕ → Type 0) where
  abbrev pub seen : Option Begun → Type 0 → StackState D C → Seen
  seen begun uncut s =
      record { begun = begun; desk = s.desk; hand = s.hand; device = told s.device; clock = clock s.device; kept = λ before. StackKeepsAsTold before s.desk s.hand (told s.device) (clock s.device); uncut = uncut }

  -- the device's turn is due, in a turn that began so
  pub record BeginsDevice (s : StackState D C) (U : Type 0) (b : Begun) : Type 0 where
    pub leaves : LeavesDevice b.device (told s.device)
    pub goes : GoesOn b.hand b.device s.hand (told s.device)
    pub started : IfSome s.hand (λ h. h.started ≡ true)
    pub paired : IsPaired s.desk.config (state_of s.desk) s.hand (told s.device)
    pub busy : nothing_open (told s.device) ≡ false
    pub late : is_due b.state ≡ false
    pub room : RoomIsLeft (told s.device) (clock s.device)
    pub on : U → is_device_off b.device ≡ false

  begun_worked : (s : StackState D C) (U : Type 0) (b : Begun) (begun : BeginsDevice s U b) (clock_new : Clock) (worn : Worn) (m : Move) (e : Effort)
      → IsWorked (costs_in b.device.fixed) (HadPages clock_new) worn s.desk.config (moment_of b.device) (state_of s.desk) (work_in b.hand b.device) m e
      → IsWorked (costs_in (told s.device).fixed) (HadPages clock_new) worn s.desk.config (moment_by (Some b) (told s.device)) (state_of s.desk) (work_in b.hand b.device) m e
  begun_worked s U b begun clock_new worn m e worked =
      let d = told s.device in
      let busy = not (nothing_open b.device) in
      let faults : faults_of b.device ≡ faults_of d = sym (ap faults_of begun.leaves) in
      let ops : b.device.ops ≡ d.ops = sym (ap (λ (x : DeviceTold). x.ops) begun.leaves) in
      let same : moment_of b.device ≡ moment_by (Some b) d = ap (λ (n : ℕ). record { faults = n; ops = b.device.ops; busy = busy }) faults ∙ ap (λ (n : ℕ). record { faults = faults_of d; ops = n; busy = busy }) ops in
      subst (λ (f : Fixed). IsWorked (costs_in f) (HadPages clock_new) worn s.desk.config (moment_by (Some b) d) (state_of s.desk) (work_in b.hand b.device) m e) (sym (ap (λ (x : DeviceTold). x.fixed) begun.leaves))
      (subst (λ (now : Moment). IsWorked (costs_in b.device.fixed) (HadPages clock_new) worn s.desk.config now (state_of s.desk) (work_in b.hand b.device) m e) same worked)

  -- THE TURNS THAT ARE LEFT
  picked_within : (old new : StackState D C) (answer : Turned) → TakesTurns told answer old new → answer ≡ turned.Picked → IsWithin new.hand (told new.device)
  picked_within old new answer takes is = subst (λ (a : Turned). TakesTurns told a old new) is takes

  posted_out : (old new : StackState D C) (answer : Turned) → IsFirstHalf told copies is_store looked (Ended answer) old new → answer ≡ turned.Posted → (state_of new.desk).hand ≡ None
  posted_out old new answer half is =
      let out : new.hand ≡ None = (subst (λ (a : Turned). IsFirstHalf told copies is_store looked (Ended a) old new) is half).at_device.1 in
      (subst (λ (h : Option HandState). IsPaired new.desk.config (state_of new.desk) h (told new.device)) out half.tied.paired).0

  -- at most the most of this job, and those that it has in all
  abbrev Bounds : StackState D C → Configuration → Fixed → Job → Type 0
  Bounds new c f j = IsBound (seen None (Unit {0}) new) (bound_of (frame_in false c f) (state_of new.desk) j)

  most_behind : (old new : StackState D C) (e : Option Entry) → IsWithin new.hand (told new.device) → new.desk ≡ with_entries old.desk (entry_list e) → LeavesDevice (told old.device) (told new.device)
      → IsPaired new.desk.config (state_of new.desk) new.hand (told new.device) → InOrder (told new.device) (clock new.device)
      → IfSome (state_of new.desk).hand (Bounds new old.desk.config (told old.device).fixed)
  most_behind old new e within adds leaves paired order = by (state_of new.desk).hand refl
    where
      by : (o : Option Job) → (state_of new.desk).hand ≡ o → IfSome o (Bounds new old.desk.config (told old.device).fixed)
      by None is = tt
      by (Some j) is =
          subst (λ (f : Fixed). Bounds new old.desk.config f j) (ap (λ (x : DeviceTold). x.fixed) leaves)
          (subst (λ (c : Configuration). Bounds new c (told new.device).fixed j) (ap (λ (x : DeskState). x.config) adds) (
            (within_of new.desk.config (state_of new.desk) new.hand (told new.device) paired within j is).1,
            most_is new.desk.config (state_of new.desk) new.hand (told new.device) j paired is,
            all_bounded new.desk.config (state_of new.desk) new.hand (told new.device) (clock new.device) order paired j is,
          ))

  -- where the device's turn leaves a job in hand, since the turn began
  device_leaves : (V : Type 0) (answer : Turned) (f : Fixed) (hand between : Option HandState) (d : DeviceTold) (old new : StackState D C) → LeavesDevice d (told old.device) → GoesOn hand d between (told old.device)
      → IsPaired old.desk.config (state_of old.desk) between (told old.device) → nothing_open (told old.device) ≡ false
      → (answer ≡ turned.Worked → (left_with new.hand (told new.device) < left_with hand d) ⊎ Rose (faults_of (told old.device)) (faults_of (told new.device)))
      → TurnsDevice answer (told old.device) (clock old.device) (told new.device) (clock new.device) → AddsBy (asked_by answer (told old.device).stand (told new.device).stand (ops_of (told new.device))) old.desk new.desk
      → new.hand ≡ hand_by (told old.device).stand (told new.device).stand between → (told new.device).fixed ≡ f → (told new.device).fixed ≡ d.fixed → InOrder (told new.device) (clock new.device)
      → IsPaired new.desk.config (state_of new.desk) new.hand (told new.device) → (state_of new.desk).off ≡ false → is_none (state_of new.desk).hand ≡ false
      → LeavesTurns (most_by None hand f) (left_with hand d) (all_with hand d) (Rose (faults_of (told old.device)) (faults_of (told new.device)) → ⊥) (seen None V new)
  device_leaves V turned.Worked f hand between d old new leaves goes paired shut takes turns adds hands fixed same order paired_new on held =
      let (j, is) = some_in (state_of new.desk).hand held in
      let (n, most, few, some) = held_bounded new.desk.config (state_of new.desk) new.hand (told new.device) (clock new.device) order paired_new j is in
      let (left, falls) =
      turn_falls old.desk.config (state_of old.desk) hand between d (told old.device) (told new.device) (clock old.device) (clock new.device) leaves goes paired turns same order new.desk.config (state_of new.desk) new.hand hands paired_new held in
      record {
        most = n;
        was = sym (ap (λ (g : Fixed). most_by None new.hand g) fixed ∙ ap (λ (h : Option HandState). most_by None h f) hands ∙ turned_most f (told old.device).stand (told new.device).stand between
            ∙ begun_most f hand between d (told old.device) goes) ∙ most;
        is = most;
        within = few;
        some = (some, left);
        in_all = falls;
        fewer = λ calm. elim (takes refl) [ inl less ↦ less | inr rose ↦ absurd (calm rose) ];
      }
  device_leaves V turned.Off f hand between d old new leaves goes paired shut takes turns adds hands fixed same order paired_new on held =
      let off : (state_of new.desk).off ≡ true = ap (λ (x : DeskState). (state_of x).off) adds.0 ∙ ap (λ (s : State). s.off) (histories_step old.desk.config old.desk.entries (Off (ops_of (told new.device)))) in
      absurd (let no_ : true ≡ false = sym off ∙ on in cc no_)
  device_leaves V turned.Idle f hand between d old new leaves goes paired shut takes turns adds hands fixed same order paired_new on held = absurd (let no_ : true ≡ false = sym turns.0.0 ∙ shut in cc no_)
  device_leaves V answer f hand between d old new leaves goes paired shut takes turns adds hands fixed same order paired_new on held = absurd turns

  -- a first half that ends a turn adds one entry at most, and no Off
  pub ended_adds : (old new : StackState D C) (answer : Turned) → (answer ≡ turned.Off → (state_of old.desk).off ≡ true) → IsFirstHalf told copies is_store looked (Ended answer) old new
      → (e : Option Entry) × AddsOne (ops_of (told new.device)) old.desk new.desk e × (is_off e ≡ false)
  ended_adds old new answer off half =
      let (e, is) = half_entry (Unit {0}) (ops_of (told new.device)) old.desk new.desk old.hand new.hand (told old.device) (told new.device) answer _ _ _ _ off (λ picked. tt) (posted_out old new answer half) refl half.half half.at_device in
      (e, is.one, is.on)

  module _ (old new : StackState D C) (U V : Type 0) (uncut : U → V) (stays : StaysKept old.desk old.hand (told old.device) (clock old.device) new.desk new.hand (told new.device) (clock new.device)) where
    -- what a first half that ends the turn adds comes soon
    abbrev EndsSoon : Type 0
    EndsSoon =
        (e : Option Entry) → AddsOne (ops_of (told new.device)) old.desk new.desk e → U → (one : Bool) (id turns : ℕ) → DueAt (seen None U old) one id turns
        → IsPostedSoon (λ o n. DueAt (seen None V new) o id n) one id turns (faults_of (told old.device)) (record { entry = e; behind = moment_by None (told new.device) } ∷ [])

    -- a first half that ends the turn, by what is told of the device behind it
    ended_by : (answer : Turned) → (answer ≡ turned.Off → (state_of old.desk).off ≡ true) → TakesTurns told answer old new → IsTied old.desk old.hand (told old.device) → InOrder (told new.device) (clock new.device)
        → IsFirstHalf told copies is_store looked (Ended answer) old new → faults_of (told old.device) ≤ faults_of (told new.device) → Lasts (told old.device) (clock old.device) (told new.device) (clock new.device)
        → TakesKeptInHand old.desk (told old.device) (told new.device) (clock new.device) → TurnPays told clock old new → KeepsSeal (told old.device) (clock old.device) (told new.device) (clock new.device) → EndsSoon
        → IsTurnTold (seen None U old) (seen None V new)
    ended_by answer off takes tied order half counted lasts kept pays seals soon =
        let (e, is) = half_entry (IsWithin new.hand (told new.device)) (ops_of (told new.device)) old.desk new.desk old.hand new.hand (told old.device) (told new.device) answer _ _ _ _ off (picked_within old new answer takes) (posted_out old new answer half) refl half.half half.at_device in
        let adds = is.one in
        let ops : (told new.device).ops ≡ (told old.device).ops = ap (λ (d : DeviceTold). d.ops) half.device in
        record {
          entry = e;
          fits = is.fits;
          most = λ picked. most_behind old new e (is.picks picked) adds.adds half.device half.tied.paired order;
          leaves = λ other on held. absurd (is.drops other on held);
          turns = is.turns;
          ended = refl;
          begins = (state_of old.desk, inr refl, is.begins);
          rests = λ rest idle. let (none, hand, device) = is.rests rest in (none, ap (moment_by None) device);
          adds = adds.adds;
          one = omega (arith, ops);
          told = told_by (told new.device).ops e adds.of;
          fixed = ap (λ (d : DeviceTold). d.fixed) half.device;
          counted = counted;
          lasts = lasts;
          stays = record { told = stays.told; kept = stays.kept };
          all = λ before kept. kept.all;
          kept = kept;
          pays = pays;
          uncut = uncut;
          seals = seals;
          dues = soon e adds;
          work = λ at simple. (
            None,
            half_works (HadPages (clock new.device)) (worn_so_far (told new.device) (clock new.device)) old.desk new.desk old.hand new.hand (told old.device) (told new.device) (record { entry = e; behind = moment_by None (told new.device) }) refl half.device
                (ap (λ (x : DeskState). x.entries) adds.adds) tied.paired half.tied.paired _ _ _ _ answer half.half half.at_device,
          );
        }

    -- THE FIRST HALF
    module _ (tied : IsTied old.desk old.hand (told old.device)) (same : SameClock (clock old.device) (clock new.device)) where
      seals_by : (act : Act) → IsFirstHalf told copies is_store looked act old new → KeepsSeal (told old.device) (clock old.device) (told new.device) (clock new.device)
      seals_by act half =
          first_halves_keep_seal (told old.device) (clock old.device) (told new.device) (clock new.device) act old.desk new.desk (copies old.copies) (copies new.copies) old.hand new.hand
          (half_adds act _ _ old.desk new.desk (copies old.copies) (copies new.copies) (told new.device) half.half) half.at_device tied.paired half.device same

      pub ended_is_told : (answer : Turned) → (answer ≡ turned.Off → (state_of old.desk).off ≡ true) → TakesTurns told answer old new → InOrder (told new.device) (clock new.device) → (V → PowersOff new.desk (told new.device))
          → ((number turns : ℕ) → IsDue number turns (now_of told old) → IsServed (Ended answer) number turns (now_of told old) (now_of told new)) → IsFirstHalf told copies is_store looked (Ended answer) old new → IsTurnTold (seen None U old) (seen None V new)
      ended_is_told answer off takes order is_on serves half =
          let faults : faults_of (told new.device) ≡ faults_of (told old.device) = ap faults_of half.device in
          let lasts = half_lasts (told old.device) (told new.device) (clock old.device) (clock new.device) half.device same in
          ended_by answer off takes tied order half (omega (arith, faults)) lasts (half_takes_none old.desk (told old.device) (told new.device) (clock new.device) half.device)
          (λ before since kept owes.
          half_pays since old.desk new.desk old.hand new.hand (told old.device) (told new.device) (clock old.device) (clock new.device) half.device same tied.paired stays before kept owes answer _ _ _ _ half.half half.at_device)
          (seals_by (Ended answer) half)
          (λ e adds at. ended_soon told clock copies is_store looked old new e adds (moment_by None (told new.device)) refl order (is_on (uncut at)) tied lasts answer half serves)

      -- what is due before it is in hand then
      due_within : IsFirstHalf told copies is_store looked Device old new → ((number turns : ℕ) → IsDue number turns (now_of told old) → IsDueInHand number turns (now_of told new)) → (one : Bool) (id turns : ℕ) → IsDueFor id one turns (now_of told old)
          → IsDueWithin new.hand (told new.device) new.desk one id turns
      due_within half serves one id turns due =
          let same_desk : new.desk ≡ old.desk = half.half.0.0 in
          inl (
            due.number,
            subst (λ (n : ℕ). IsDueInHand due.number n (now_of told new)) (all one) (serves due.number (turns + free_turns one old.hand) due.due),
            subst (λ (x : DeskState). IsOfBlock due.number id (state_of x)) (sym same_desk) due.block,
            ap (λ (x : DeskState). (state_of x).off) same_desk ∙ due.on,
          )
        where
          all : (one : Bool) → turns + free_turns one old.hand ≡ turns
          all true = let none = (unfinished old.hand new.hand (told old.device) (told new.device) half.at_device).0 in omega (arith, none)
          all false = omega arith

      pub half_is_told : IsFirstHalf told copies is_store looked Device old new → ((number turns : ℕ) → IsDue number turns (now_of told old) → IsDueInHand number turns (now_of told new))
          → IsHalfTold (seen None U old) (seen (Some (record { state = state_of old.desk; hand = old.hand; device = told old.device })) V new)
      half_is_told half serves = record {
        on = record { told = stays.told; kept = stays.kept };
        all = λ before kept. kept.all;
        between = refl;
        begun = refl;
        desk = half.half.0.0;
        goes = half.at_device;
        leaves = half.device;
        clock = same;
        paired = tied.paired;
        stays = stays;
        uncut = uncut;
        seals = seals_by Device half;
        dues = due_within half serves;
      }

    -- THE DEVICE'S TURN
    pub device_is_told : (answer : Turned) (b : Begun) → BeginsDevice old U b → (answer ≡ turned.Worked → (left_with new.hand (told new.device) < left_with b.hand b.device) ⊎ Rose (faults_of (told old.device)) (faults_of (told new.device)))
        → IsPaired new.desk.config (state_of new.desk) new.hand (told new.device)
        → TurnsDevice answer (told old.device) (clock old.device) (told new.device) (clock new.device)
        → AddsBy (asked_by answer (told old.device).stand (told new.device).stand (ops_of (told new.device))) old.desk new.desk
        → new.hand ≡ hand_by (told old.device).stand (told new.device).stand old.hand → (V → PowersOff new.desk (told new.device))
        → ((number turns : ℕ) → ¬ Rose (told old.device).first.faults (told new.device).first.faults → (state_of new.desk).off ≡ false → IsDueInHand number turns (now_of told old) → IsNearer number turns (now_of told new))
        → IsTurnTold (seen (Some b) U old) (seen None V new)
    device_is_told answer b begun takes paired_new turns adds hand is_on nears =
        let d = told old.device in
        let d_new = told new.device in
        let (a, is) = as_turn answer d (clock old.device) d_new (clock new.device) turns in
        let e = asked_by answer d.stand d_new.stand (ops_of d_new) in
        let one = device_adds_one answer d.stand d_new.stand (ops_of d_new) old.desk new.desk adds in
        let more = device_counts answer d (clock old.device) d_new (clock new.device) turns in
        let lasts = device_lasts answer d (clock old.device) d_new (clock new.device) turns in
        let fixed : d.fixed ≡ b.device.fixed = ap (λ (x : DeviceTold). x.fixed) begun.leaves in
        let m : Move = record { entry = e; behind = moment_by None d_new } in
        record {
          entry = e;
          fits = device_fits (state_of old.desk) answer d.stand d_new.stand (ops_of d_new);
          most = λ picked. absurd (not_picked answer d.stand d_new.stand (ops_of d_new) picked);
          leaves = λ other on held.
              device_leaves V answer d.fixed b.hand old.hand b.device old new begun.leaves begun.goes begun.paired begun.busy takes turns adds hand (device_fixed answer d (clock old.device) d_new (clock new.device) turns)
              (device_fixed answer d (clock old.device) d_new (clock new.device) turns ∙ fixed) is.1 paired_new on held;
          turns = turns_by (ops_of d_new) e one.of;
          ended = refl;
          begins = (b.state, inl (b, refl, refl), (not_late (is_due b.state) (begins_with_pick_or_post (entry_list e)) begun.late, late_ends b.state e begun.late));
          rests = λ rest idle. absurd (never_idle old.desk.config (state_of old.desk) b.hand old.hand b.device d begun.goes begun.paired begun.busy rest idle);
          adds = one.adds;
          one = makes_one a d (clock old.device) d_new (clock new.device) is;
          told = told_by (ops_of d_new) e one.of;
          fixed = device_fixed answer d (clock old.device) d_new (clock new.device) turns;
          counted = more;
          lasts = lasts;
          stays = record { told = stays.told; kept = stays.kept };
          all = λ before kept. kept.all;
          kept = λ k since before was. device_turns_take_kept d (clock old.device) d_new (clock new.device) a old.desk old.hand begun.paired is k since before was;
          pays = λ before since kept owes. record {
            owes = subst (λ b. OwesSince b since new.hand d_new (clock new.device))
                (device_urgency answer d.stand d_new.stand (ops_of d_new) old.desk new.desk adds)
                (subst (λ (h : Option HandState). OwesSince (has_urgent old.desk) since h d_new (clock new.device)) (sym hand)
                (device_owes old.desk.config (state_of old.desk) since old.hand d d_new (clock old.device) (clock new.device) more begun.paired begun.started owes answer turns));
            anew = λ block ops kind t now. absurd (device_picks_none old.desk old.desk new.desk refl _ adds (asked_picks_none answer _ _ _) block ops kind t now);
            pays = device_adds since (faults_of d_new) old.desk old.desk new.desk (worn_so_far d_new (clock new.device)) (let less = owes.0 in omega (arith, less, more)) refl _ adds
                (asked_free old.desk.config (state_of old.desk) answer _ _ _);
          };
          uncut = uncut;
          seals = device_turns_keep_seal d (clock old.device) d_new (clock new.device) a is;
          dues = λ at.
              device_soon (now_of told old) (now_of told new) (clock old.device) (clock new.device) answer turns one begun.paired begun.busy (unfinished b.hand old.hand b.device d begun.goes).1 lasts.faults.1 nears (λ off. is_on (uncut at) (one_off d_new.first.off d_new.second.off off)) (moment_by None d_new) refl;
          work = λ at simple.
              let (begins, worked) = device_works answer old.desk.config (state_of old.desk) b.hand old.hand new.hand b.device d d_new (clock old.device) (clock new.device) m begun.leaves begun.goes begun.started begun.paired begun.room turns hand
              (subst IsSimple fixed simple) (begun.on at) refl refl in
              (begins, begun_worked old U b begun (clock new.device) (worn_so_far d_new (clock new.device)) m (record { begins = begins; behind = work_in new.hand d_new }) worked);
        }

    -- A WHOLE TURN
    -- of a stack, by its contract
    pub turn_is_told : (answer : Turned) → core.Turns told clock copies is_store looked answer old new → faults_of (told old.device) ≤ faults_of (told new.device)
        → Lasts (told old.device) (clock old.device) (told new.device) (clock new.device) → TurnPays told clock old new → TakesKeptInHand old.desk (told old.device) (told new.device) (clock new.device)
        → (IsFirstHalf told copies is_store looked (Ended answer) old new → answer ≡ turned.Off → (state_of old.desk).off ≡ true) → TakesTurns told answer old new → IsTied old.desk old.hand (told old.device) → IsPaired new.desk.config (state_of new.desk) new.hand (told new.device)
        → KeepsSeal (told old.device) (clock old.device) (told new.device) (clock new.device) → TurnServesDue (now_of told old) (now_of told new) → InOrder (told old.device) (clock old.device) → InOrder (told new.device) (clock new.device)
        → (U → PowersOff old.desk (told old.device)) → (V → PowersOff new.desk (told new.device)) → IsTurnTold (seen None U old) (seen None V new)
    turn_is_told answer (inl half) counted lasts pays kept off takes tied paired_new seals comes order order_new is_on is_on_new =
        ended_by answer (off half) takes tied order_new half counted lasts kept pays seals
        (λ e adds at. turn_soon told clock copies is_store looked old new e adds (moment_by None (told new.device)) refl order_new (is_on_new (uncut at)) tied lasts answer (inl half) comes)
    turn_is_told answer (inr (between, half, rest)) counted lasts pays kept off takes tied paired_new seals comes order order_new is_on is_on_new =
        let d = told between.device in
        let d_new = told new.device in
        let (a, is) = as_turn answer d (clock between.device) d_new (clock new.device) rest.turns in
        let e = asked_by answer d.stand d_new.stand (ops_of d_new) in
        let one = device_adds_one answer d.stand d_new.stand (ops_of d_new) between.desk new.desk rest.adds in
        let most = makes_one a d (clock between.device) d_new (clock new.device) is in
        let ops : d.ops ≡ (told old.device).ops = ap (λ (x : DeviceTold). x.ops) half.device in
        let paired_between : IsPaired old.desk.config (state_of old.desk) between.hand d = subst (λ (x : DeskState). IsPaired x.config (state_of x) between.hand d) half.half.0.0 half.tied.paired in
        let faults : faults_of d ≡ faults_of (told old.device) = ap faults_of half.device in
        let fixed : d_new.fixed ≡ (told old.device).fixed = device_fixed answer d (clock between.device) d_new (clock new.device) rest.turns ∙ ap (λ (x : DeviceTold). x.fixed) half.device in
        let whole : AddsOne d_new.ops old.desk new.desk e = subst (λ (x : DeskState). AddsOne d_new.ops x new.desk e) half.half.0.0 one in
        record {
          entry = e;
          fits = device_fits (state_of old.desk) answer d.stand d_new.stand (ops_of d_new);
          most = λ picked. absurd (not_picked answer d.stand d_new.stand (ops_of d_new) picked);
          leaves = λ other on held.
              subst (λ (n : ℕ). LeavesTurns (most_by None old.hand (told old.device).fixed) (left_with old.hand (told old.device)) (all_with old.hand (told old.device)) (Rose n (faults_of d_new) → ⊥) (seen None V new)) faults
              (device_leaves V answer (told old.device).fixed old.hand between.hand (told old.device) between new half.device half.at_device half.tied.paired half.half.1
              (λ is. subst (λ (n : ℕ). (left_with new.hand d_new < left_with old.hand (told old.device)) ⊎ Rose n (faults_of d_new)) (sym faults) (subst (λ (a : Turned). TakesTurns told a old new) is takes))
              rest.turns rest.adds rest.hand fixed fixed order_new paired_new on held);
          turns = turns_by (ops_of d_new) e one.of;
          ended = refl;
          begins =
              let late = never_late old.desk.config (state_of old.desk) half.half.3 in
              (state_of old.desk, inr refl, (not_late (is_due (state_of old.desk)) (begins_with_pick_or_post (entry_list e)) late, late_ends (state_of old.desk) e late));
          rests = λ at_rest idle. absurd (never_idle old.desk.config (state_of old.desk) old.hand between.hand (told old.device) d half.at_device paired_between half.half.1 at_rest idle);
          adds = whole.adds;
          one = omega (arith, most, ops);
          told = told_by (ops_of d_new) e one.of;
          fixed = fixed;
          counted = counted;
          lasts = lasts;
          stays = record { told = stays.told; kept = stays.kept };
          all = λ before kept. kept.all;
          kept = kept;
          pays = pays;
          uncut = uncut;
          seals = seals;
          dues = λ at. turn_soon told clock copies is_store looked old new e whole (moment_by None d_new) refl order_new (is_on_new (uncut at)) tied lasts answer (inr (between, half, rest)) comes;
          work = λ at simple.
              device_works answer old.desk.config (state_of old.desk) old.hand between.hand new.hand (told old.device) d d_new (clock between.device) (clock new.device) (record { entry = e; behind = moment_by None d_new }) half.device half.at_device (half.started refl)
              paired_between rest.room rest.turns rest.hand simple (on_by old.desk (told old.device) (is_on at) half.half.2) refl refl;
        }
