-- Runs of calls, one call more.
use Rattle.std.specs.Prelude.{◌==◌, nat_le, is_some, is_none, is_ok}
use Rattle.std.proofs.Common.{◌≡◌, ◌≢◌, ◌⊎◌, inl, inr, ◌<◌, ◌≤◌, ℕ, Bool, true, false, if◌then◌else◌, List, [], ◌∷◌, ◌++◌, map, Option, Some, None, Result, Ok, Err, refl, sym, ap, ◌∙◌, subst, arith}
use Rattle.std.proofs.lemmas.Bool.{cases_Bool, cases_lt, le-leb, lt-leb}
use Rattle.std.proofs.lemmas.List.{map-append}
use Rattle.std.proofs.lemmas.List.Elements.{Contains-append_left, Contains-append_right}
use Rattle.std.specs.List.{Contains}
use Rattle.nv_base.specs.Count.{Rose}
use Rattle.nv_base.specs.declared.instance.DeviceNumber.{DeviceNumber}
use Rattle.nv_base.specs.declared.mark.Mark.{Mark}
use Rattle.memif.specs.declared.answer.DeviceRefusal.{DeviceRefusal}
use Rattle.memif.specs.declared.answer.DeviceTurn.{DeviceTurn}
use Rattle.memif.specs.declared.answer.DeviceTurn.TheVariants.{Idle, Worked, Off}
use Rattle.memif.specs.declared.answer.JobResult.{JobResult}
use Rattle.memif.specs.declared.answer.JobResult.TheVariants.{JobOk, JobFailed, JobPending, JobCanceled}
use Rattle.memif.specs.declared.run.DeviceCall.{DeviceCall}
use Rattle.memif.specs.declared.run.DeviceCall.TheVariants as call
use Rattle.memif.specs.declared.run.DeviceStep.{DeviceStep}
use Rattle.memif.specs.Told.{DeviceTold, Fixed, Slot, Held, Job, Part, First, Second, Stand, Open, Ended, held_next, slot_at, part_at, length_of, is_open, is_urgent, result_of, ops_of, IfElse}
use Rattle.memif.specs.Marks.{IsPossible, Keeps, Doubts, SettlesAs, IfTold, DoubtsAt}
use Rattle.memif.specs.Clock.{Clock, SameClock, ArePossible}
use Rattle.memif.specs.Calls.{Wish, refusal_of, Opens, Accepts, IsCanceled, Cancels, Turns, IsCut, JobTurns, EndsAs, Writes, Gives, is_read}
use Rattle.memif.specs.Run.{Made, Known, wish_of, doubted, settled_by, at_one, settles, comes_to, after_call, known_after, known_by, known_of, known_slots, AreKnown, open_job, Ties, CutsAreAllowed, Makes, IsMade, AreMade, IsUrgentKnown, IsCallMade, AllBy}
use Rattle.memif.proofs.Turning.{none_in, told_before, same_lasts, same_told, still_leaves, turn_lasts, works_fixed, is_off_at_off}

-- ONE NUMBER
keeps_more : (a b c : Slot) → Keeps a b → Keeps b c → Keeps a c
keeps_more a b c one two = record { settled = two.settled ∙ one.settled; doubts = λ h has. one.doubts h (two.doubts h has) }

doubts_more : (mark : Mark) (a b c : Slot) → Keeps a b → Doubts mark b c → Keeps (doubted (Some mark) a) c
doubts_more mark a b c one two = record {
  settled = two.settled ∙ one.settled;
  doubts = λ h has. elim (two.doubts h has) [
    | inl before ↦ Contains-append_left a.doubts (held_next mark a.settled ∷ []) h (one.doubts h before)
    | inr new ↦ Contains-append_right a.doubts (held_next mark a.settled ∷ []) h (0, omega arith, sym (new ∙ ap (held_next mark) one.settled))
  ];
}

settles_more : (mark : Mark) (a b c : Slot) → Keeps a b → SettlesAs mark b c → Keeps (settled_by (Some mark) a) c
settles_more mark a b c one two = record {
  settled = two.settled ∙ ap (held_next mark) one.settled;
  doubts = λ h has. absurd (none_in h (subst (λ (l : List Held). Contains l h) two.doubts has));
}

-- ALL NUMBERS
module _ (numbers : List (DeviceNumber × ℕ)) (known : ℕ → Slot) where
  keeps_known : (o n : Option (List Slot)) → IfTold o n (λ s t. (i : ℕ) → Keeps (slot_at numbers s i) (slot_at numbers t i)) → AreKnown numbers o known → AreKnown numbers n known
  keeps_known (Some s) (Some t) each is = λ i. keeps_more (known i) (slot_at numbers s i) (slot_at numbers t i) (is i) (each i)
  keeps_known None (Some t) each is = absurd each
  keeps_known o None each is = tt

  same_known : (number : ℕ) (n : Option (List Slot)) → AreKnown numbers n known → AreKnown numbers n (at_one number (λ s. s) known)
  same_known number (Some t) is = λ i. elim (cases_Bool (i == number)) [ inl same ↦ rw same (is i) | inr other ↦ rw other (is i) ]
  same_known number None is = tt

  changes_known : (number : ℕ) (change : Slot → Slot) (P : Slot → Slot → Type 0) → ((a b c : Slot) → Keeps a b → P b c → Keeps (change a) c) → (o n : Option (List Slot))
      → IfTold o n (λ s t. (i : ℕ) → IfElse (i == number) (P (slot_at numbers s i) (slot_at numbers t i)) (Keeps (slot_at numbers s i) (slot_at numbers t i))) → AreKnown numbers o known → AreKnown numbers n (at_one number change known)
  changes_known number change P more (Some s) (Some t) each is = λ i. elim (cases_Bool (i == number)) [
    | inl same ↦
        let now : P (slot_at numbers s i) (slot_at numbers t i) = rw same at (each i) in
        rw same (more (known i) (slot_at numbers s i) (slot_at numbers t i) (is i) now)
    | inr other ↦
        let now : Keeps (slot_at numbers s i) (slot_at numbers t i) = rw other at (each i) in
        rw other (keeps_more (known i) (slot_at numbers s i) (slot_at numbers t i) (is i) now)
  ]
  changes_known number change P more None (Some t) each is = absurd each
  changes_known number change P more o None each is = tt

-- with no job that ends all stays as it is known
stays : (d : DeviceTold) (stand : Stand) (k : Known) → d.stand ≡ stand → Ties d k → Ties d (comes_to (result_of stand) k)
stays d (Open j) k is ties = ties
stays d (Ended JobPending given) k is ties = ties
stays d (Ended JobOk given) k is ties = subst (λ (j : Option Job). Ties d (settles j k)) (ap open_job (sym is) ∙ ties.job) ties
stays d (Ended result given) k is ties = record { slots = ties.slots; job = ap open_job is }

-- what is known, at the numbers of a device before
known_at : (old new : DeviceTold) (known : ℕ → Slot) → new.fixed ≡ old.fixed → AreKnown old.fixed.numbers new.slots known → AreKnown new.fixed.numbers new.slots known
known_at old new known fixed is = subst (λ (f : Fixed). AreKnown f.numbers new.slots known) (sym fixed) is

pub none_urgent : (u : Bool) (stand : Stand) → is_open stand ≡ false → IsUrgentKnown u stand
none_urgent u (Open j) off = cc
none_urgent u (Ended result given) off = tt

module _ (c : DeviceCall) (old : DeviceTold) (clock : Clock) (new : DeviceTold) (clock_new : Clock) where
  -- a call that changed nothing
  nothing_made : new ≡ old → SameClock clock clock_new → Makes (wish_of c) c false old new → IsCallMade c false old clock new clock_new
  nothing_made same clocks makes = record {
    makes = makes;
    fixed = ap (λ (d : DeviceTold). d.fixed) same;
    told = λ is. ap (λ (d : DeviceTold). is_some d.slots) (sym same) ∙ is;
    ties = λ k ties. stays new new.stand k refl (subst (λ (d : DeviceTold). Ties d k) (sym same) ties);
    urgent = λ before known. subst (λ (d : DeviceTold). IsUrgentKnown before d.stand) (sym same) known;
    lasts = same_told old clock new clock_new same clocks;
    cut = still_leaves old new clock_new (ap (λ (d : DeviceTold). d.ops) same);
  }

  -- A START
  doubts_known : (j : Job) (mark : Option Mark) (known : ℕ → Slot) → DoubtsAt j.number mark old new → AreKnown old.fixed.numbers old.slots known → AreKnown old.fixed.numbers new.slots (at_one j.number (doubted mark) known)
  doubts_known j None known marks is = same_known old.fixed.numbers known j.number new.slots (keeps_known old.fixed.numbers known old.slots new.slots marks is)
  doubts_known j (Some mark) known marks is = changes_known old.fixed.numbers known j.number (doubted (Some mark)) (Doubts mark) (doubts_more mark) old.slots new.slots marks is

  doubts_told : (number : ℕ) (mark : Option Mark) → DoubtsAt number mark old new → is_some new.slots ≡ true → is_some old.slots ≡ true
  doubts_told number None marks = told_before (λ n s t. Keeps s t) old new marks
  doubts_told number (Some mark) marks = told_before (λ n s t. IfElse (n == number) (Doubts mark s t) (Keeps s t)) old new marks

  ops_stay : (w : Wish) → Opens w.job old new → new.ops ≡ old.ops
  ops_stay w opens = ap (λ (d : DeviceTold). d.ops) opens.only

  refused : (r : Option DeviceRefusal) (refusal : DeviceRefusal) → r ≡ Some refusal → r ≢ None
  refused r refusal is none = cc

  pub start_made : (w : Wish) (answer : Result (Unit {0}) DeviceRefusal) → wish_of c ≡ Some w → Accepts w answer old clock new clock_new → IsCallMade c (is_ok answer) old clock new clock_new
  start_made w (Ok u) is accepts =
      let opens = accepts.0.1 in
      let fixed : new.fixed ≡ old.fixed = ap (λ (d : DeviceTold). d.fixed) opens.only in
      let stand : new.stand ≡ Open w.job = ap (λ (d : DeviceTold). d.stand) opens.only in
      record {
        makes = rw is (accepts.0.0, stand);
        fixed = fixed;
        told = doubts_told w.job.number w.job.mark opens.marks;
        ties = λ k ties. rw is (record { slots = known_at old new (at_one w.job.number (doubted w.job.mark) k.slots) fixed (doubts_known w.job w.job.mark k.slots opens.marks ties.slots); job = ap open_job stand });
        urgent = λ before known. rw (is, stand) refl;
        lasts = same_lasts old clock new clock_new (ops_stay w opens) (ap (λ (d : DeviceTold). d.first.faults) opens.only) (ap (λ (d : DeviceTold). d.second.faults) opens.only) accepts.1.same;
        cut = still_leaves old new clock_new (ops_stay w opens);
      }
  start_made w (Err refusal) is accepts = nothing_made accepts.0.1 accepts.1.same (rw is (refused (refusal_of old w.job.number w.length) refusal accepts.0.0, accepts.0.1))

-- A CANCEL
pub skip_made : (old : DeviceTold) (clock : Clock) → SameClock clock clock → IsUrgentKnown true old.stand → IsCallMade call.Cancel false old clock old clock
skip_made old clock same known = nothing_made call.Cancel old clock old clock refl same (refl, skips old.stand known)
  where
    skips : (stand : Stand) → IsUrgentKnown true stand → ((is_urgent stand ≡ true) × (old ≡ old)) ⊎ (is_open stand ≡ false)
    skips (Open j) is = inl (is, refl)
    skips (Ended result given) is = inr refl

pub cancel_made : (old : DeviceTold) (clock : Clock) (new : DeviceTold) (clock_new : Clock) → Cancels old clock new clock_new → IsCallMade call.Cancel false old clock new clock_new
cancel_made old clock new clock_new cancels = elim (cases_Bool (is_open old.stand)) [
  | inl on ↦ ended (rw on at cancels.0)
  | inr off ↦
      let same : new ≡ old = rw off at cancels.0 in
      nothing_made call.Cancel old clock new clock_new same cancels.1.same (refl, inr (ap (λ (d : DeviceTold). is_open d.stand) same ∙ off))
]
  where
    ended : IsCanceled old new → IsCallMade call.Cancel false old clock new clock_new
    ended is =
        let fixed : new.fixed ≡ old.fixed = ap (λ (d : DeviceTold). d.fixed) is.only in
        let stand : new.stand ≡ Ended JobCanceled [] = ap (λ (d : DeviceTold). d.stand) is.only in
        let closed : is_open new.stand ≡ false = ap is_open stand in
        record {
          makes = (refl, inr closed);
          fixed = fixed;
          told = told_before (λ n s t. Keeps s t) old new is.marks;
          ties = λ k ties. rw stand (record { slots = known_at old new k.slots fixed (keeps_known old.fixed.numbers k.slots old.slots new.slots is.marks ties.slots); job = refl });
          urgent = λ before known. none_urgent before new.stand closed;
          lasts = same_lasts old clock new clock_new parts (ap (λ (d : DeviceTold). d.first.faults) is.only) (ap (λ (d : DeviceTold). d.second.faults) is.only) cancels.1.same;
          cut = still_leaves old new clock_new parts;
        }
      where
        parts : new.ops ≡ old.ops
        parts = ap (λ (d : DeviceTold). d.ops) is.only

-- A TURN
module _ (old : DeviceTold) (clock : Clock) (new : DeviceTold) (clock_new : Clock) where
  same_slots : (known : ℕ → Slot) → new.slots ≡ old.slots → AreKnown old.fixed.numbers old.slots known → AreKnown old.fixed.numbers new.slots known
  same_slots known same is = subst (λ (s : Option (List Slot)). AreKnown old.fixed.numbers s known) (sym same) is

  -- a job that ended settled its mark, or all is as it is known
  read_ends : (j : Job) (r : JobResult) (size : Option ℕ) (given : List ℕ) (known : ℕ → Slot) → Gives r size given → AreKnown old.fixed.numbers new.slots known → AreKnown old.fixed.numbers new.slots (comes_to r (record { slots = known; job = Some (record j { mark = None }) })).slots
  read_ends j JobOk size given known gives is = same_known old.fixed.numbers known j.number new.slots is
  read_ends j result size given known gives is = is

  write_ends : (j : Job) (mark : Mark) (r : JobResult) (known : ℕ → Slot) → Writes r j.number mark old new → AreKnown old.fixed.numbers old.slots known → AreKnown old.fixed.numbers new.slots (comes_to r (record { slots = known; job = Some (record j { mark = Some mark }) })).slots
  write_ends j mark JobOk known writes is = changes_known old.fixed.numbers known j.number (settled_by (Some mark)) (SettlesAs mark) (settles_more mark) old.slots new.slots writes is
  write_ends j mark JobFailed known writes is = keeps_known old.fixed.numbers known old.slots new.slots writes is
  write_ends j mark result known writes is = absurd writes

  ends_known : (j : Job) (mark : Option Mark) (r : JobResult) (given : List ℕ) (known : ℕ → Slot) → EndsAs mark j.number r given old new → (is_none mark ≡ true → new.slots ≡ old.slots) → AreKnown old.fixed.numbers old.slots known
      → AreKnown old.fixed.numbers new.slots (comes_to r (record { slots = known; job = Some (record j { mark = mark }) })).slots
  ends_known j None r given known ends same is = read_ends j r (length_of old.fixed.numbers j.number) given known ends.1 (same_slots known (same refl) is)
  ends_known j (Some mark) r given known ends same is = write_ends j mark r known ends.0 is

  ends_job : (j : Job) (mark : Option Mark) (r : JobResult) (given : List ℕ) (k : Known) → EndsAs mark j.number r given old new → None ≡ (comes_to r (record k { job = Some j })).job
  ends_job j None JobPending given k ends = absurd ends.1
  ends_job j (Some mark) JobPending given k ends = absurd ends.0
  ends_job j mark result given k ends = refl

  ends_told : (number : ℕ) (mark : Option Mark) (r : JobResult) (given : List ℕ) → EndsAs mark number r given old new → (is_none mark ≡ true → new.slots ≡ old.slots) → is_some new.slots ≡ true → is_some old.slots ≡ true
  ends_told number None r given ends same is = ap (λ (s : Option (List Slot)). is_some s) (sym (same refl)) ∙ is
  ends_told number (Some mark) JobOk given ends same is = told_before (λ n s t. IfElse (n == number) (SettlesAs mark s t) (Keeps s t)) old new ends.0 is
  ends_told number (Some mark) JobFailed given ends same is = told_before (λ n s t. Keeps s t) old new ends.0 is
  ends_told number (Some mark) result given ends same is = absurd ends.0

  turn_told : (p : Part) (a b : Stand) → JobTurns p a b old new clock_new → (is_read a ≡ true → new.slots ≡ old.slots) → is_some new.slots ≡ true → is_some old.slots ≡ true
  turn_told p (Open j) (Open j') turns same is = told_before (λ n s t. Keeps s t) old new turns.1 is
  turn_told p (Open j) (Ended r given) turns same is = ends_told j.number j.mark r given turns.0 same is
  turn_told p (Ended r given) b turns same is = told_before (λ n s t. Keeps s t) old new turns.1 is

  turn_ties : (p : Part) (a b : Stand) → old.stand ≡ a → new.stand ≡ b → new.fixed ≡ old.fixed → JobTurns p a b old new clock_new → (is_read a ≡ true → new.slots ≡ old.slots) → (k : Known) → Ties old k → Ties new (comes_to (result_of b) k)
  turn_ties p (Open j) (Open j') was is fixed turns same k ties = record {
    slots = known_at old new k.slots fixed (keeps_known old.fixed.numbers k.slots old.slots new.slots turns.1 ties.slots);
    job = ap open_job (is ∙ ap Open turns.0 ∙ sym was) ∙ ties.job;
  }
  turn_ties p (Open j) (Ended r given) was is fixed turns same k ties =
      let job : Some j ≡ k.job = ap open_job (sym was) ∙ ties.job in
      let done : Ties new (comes_to r (record k { job = Some j })) = record {
        slots = known_at old new (comes_to r (record k { job = Some j })).slots fixed (ends_known j j.mark r given k.slots turns.0 same ties.slots);
        job = ap open_job is ∙ ends_job j j.mark r given k turns.0;
      } in
      subst (λ (o : Option Job). Ties new (comes_to r (record k { job = o }))) job done
  turn_ties p (Ended r given) b was is fixed turns same k ties = stays new b k is (record {
    slots = known_at old new k.slots fixed (keeps_known old.fixed.numbers k.slots old.slots new.slots turns.1 ties.slots);
    job = ap open_job (is ∙ turns.0 ∙ sym was) ∙ ties.job;
  })

  turn_urgent : (p : Part) (a b : Stand) → JobTurns p a b old new clock_new → (u : Bool) → IsUrgentKnown u a → IsUrgentKnown u b
  turn_urgent p a (Ended r given) turns u known = tt
  turn_urgent p (Open j) (Open j') turns u known = ap (λ (x : Job). x.urgent) turns.0 ∙ known
  turn_urgent p (Ended r given) (Open j') turns u known = subst (IsUrgentKnown u) (sym turns.0) tt

  cut_stays : (p : Part) → IsCut p old new → (new.stand ≡ old.stand) × (new.fixed ≡ old.fixed)
  cut_stays First cut = (ap (λ (d : DeviceTold). d.stand) cut.only, ap (λ (d : DeviceTold). d.fixed) cut.only)
  cut_stays Second cut = (ap (λ (d : DeviceTold). d.stand) cut.only, ap (λ (d : DeviceTold). d.fixed) cut.only)

  pub turn_made : (answer : DeviceTurn) → Turns answer old clock new clock_new → IsCallMade call.Turn false old clock new clock_new
  turn_made Idle turns = nothing_made call.Turn old clock new clock_new turns.0.1 turns.0.2 (refl, (Idle, (turns.0.0, turns.0.1)))
  turn_made Worked turns =
      let p = turns.0.1.0 in
      let works = turns.0.1.1 in
      let near : (new.left < old.left) ⊎ ((q : Part) × Rose (part_at q old).faults (part_at q new).faults) = elim works.nearer [ inl less ↦ inl less | inr rose ↦ inr (p, rose) ] in
      record {
        makes = (refl, (Worked, (turns.0.0, near)));
        fixed = works_fixed p old new clock_new works;
        told = turn_told p old.stand new.stand works.job (λ is. (works.read is).1);
        ties = turn_ties p old.stand new.stand refl refl (works_fixed p old new clock_new works) works.job (λ is. (works.read is).1);
        urgent = turn_urgent p old.stand new.stand works.job;
        lasts = (turn_lasts Worked old clock new clock_new turns).0;
        cut = (turn_lasts Worked old clock new clock_new turns).1;
      }
  turn_made Off turns = elim turns.0.1.1 [
    | inl still ↦ nothing_made call.Turn old clock new clock_new still.2 still.3 (refl, (Off, (turns.0.0, is_off_at_off old clock new clock_new turns, ap (λ (d : DeviceTold). d.stand) still.2)))
    | inr cut ↦
        let same = cut_stays turns.0.1.0 cut.0 in
        record {
          makes = (refl, (Off, (turns.0.0, is_off_at_off old clock new clock_new turns, same.0)));
          fixed = same.1;
          told = told_before (λ n s t. Keeps s t) old new cut.0.marks;
          ties = λ k ties. stays new new.stand k refl (record {
            slots = known_at old new k.slots same.1 (keeps_known old.fixed.numbers k.slots old.slots new.slots cut.0.marks ties.slots);
            job = ap open_job same.0 ∙ ties.job;
          });
          urgent = λ before known. subst (IsUrgentKnown before) (sym same.0) known;
          lasts = (turn_lasts Off old clock new clock_new turns).0;
          cut = (turn_lasts Off old clock new clock_new turns).1;
        }
  ]

-- ONE CALL MORE
after_push : (k : Known) (run : List Made) (m : Made) → known_after k (run ++ m ∷ []) ≡ after_call m.call m.step.taken m.step.result (known_after k run)
after_push k [] m = refl
after_push k (x ∷ run) m = after_push (after_call x.call x.step.taken x.step.result k) run m

-- a call that ends behind an operation changes nothing that was known by it
by_late : (o : ℕ) (k : Known) (run : List Made) (m : Made) → o < m.device.ops → known_by o k (run ++ m ∷ []) ≡ known_by o k run
by_late o k [] m late = rw (lt-leb m.device.ops o late) refl
by_late o k (x ∷ run) m late = ap (λ (e : Known). if nat_le x.device.ops o then e else k) (by_late o (after_call x.call x.step.taken x.step.result k) run m late)

-- where no call ends behind it, all is known by it
by_all : (o : ℕ) (k : Known) (run : List Made) → AllBy o run → known_by o k run ≡ known_after k run
by_all o k [] all = refl
by_all o k (x ∷ run) all = rw (le-leb x.device.ops o all.0) (by_all o (after_call x.call x.step.taken x.step.result k) run all.1)

all_more : (o q : ℕ) (run : List Made) → o ≤ q → AllBy o run → AllBy q run
all_more o q [] le all = tt
all_more o q (x ∷ run) le all = (omega (arith, le, all.0), all_more o q run le all.1)

all_push : (o : ℕ) (run : List Made) (m : Made) → m.device.ops ≤ o → AllBy o run → AllBy o (run ++ m ∷ [])
all_push o [] m by all = (by, tt)
all_push o (x ∷ run) m by all = (all.0, all_push o run m by all.1)

made_push : (old : DeviceTold) (run : List Made) (m : Made) (now : DeviceTold) → AreMade old run now → IsMade now m → AreMade old (run ++ m ∷ []) m.device
made_push old [] m now made one = (subst (λ (d : DeviceTold). IsMade d m) made one, refl)
made_push old (x ∷ run) m now made one = (made.0, made_push x.device run m now made.1 one)

-- what was possible before a call is allowed by what was known
possible : (d : DeviceTold) (slots : Option (List Slot)) (known : ℕ → Slot) (m : ℕ → Held) → is_some slots ≡ true → AreKnown d.fixed.numbers slots known → ArePossible d slots m → (n : ℕ) → IsPossible (known n) (m n)
possible d None known m tells is all n = cc
possible d (Some s) known m tells is all n = elim (all n) [ inl same ↦ inl (same ∙ (is n).settled) | inr doubt ↦ inr ((is n).doubts (m n) doubt) ]

-- what a run keeps
pub record IsKept (begun : DeviceTold) (asked : List DeviceCall) (shown : List DeviceStep) (run : List Made) (now : DeviceTold) (clock : Clock) : Type 0 where
  pub calls : map (λ m. m.call) run ≡ asked
  pub steps : map (λ m. m.step) run ≡ shown
  pub made : AreMade begun run now
  pub fixed : now.fixed ≡ begun.fixed
  pub ops : begun.ops ≤ now.ops
  pub times : AllBy now.ops run
  pub ends : is_some now.slots ≡ true → Ties now (known_after (known_of begun) run)
  pub cuts : is_some now.slots ≡ true → CutsAreAllowed (known_of begun) begun run now clock

pub begins : (d : DeviceTold) (clock : Clock) → is_open d.stand ≡ false → IsKept d [] [] [] d clock
begins d clock closed = record {
  calls = refl;
  steps = refl;
  made = refl;
  fixed = refl;
  ops = omega arith;
  times = tt;
  ends = λ tells. record { slots = told d.slots tells; job = none d.stand closed };
  cuts = λ tells o m le lt finds n. absurd (omega (arith, le, lt));
}
  where
    told : (slots : Option (List Slot)) → is_some slots ≡ true → AreKnown d.fixed.numbers slots (known_slots d.fixed.numbers slots)
    told (Some s) is = λ n. record { settled = refl; doubts = λ h has. has }
    told None is = cc

    none : (stand : Stand) → is_open stand ≡ false → open_job stand ≡ None
    none (Open j) off = cc
    none (Ended r given) off = refl

pub goes_on : (begun : DeviceTold) (calls : List DeviceCall) (steps : List DeviceStep) (run : List Made) (c : DeviceCall) (s : DeviceStep) (old : DeviceTold) (clock : Clock) (new : DeviceTold) (clock_new : Clock) → IsKept begun calls steps run old clock → s.result ≡ result_of new.stand → s.ops ≡ ops_of new → IsCallMade c s.taken old clock new clock_new
    → IsKept begun (calls ++ c ∷ []) (steps ++ s ∷ []) (run ++ record { call = c; step = s; device = new } ∷ []) new clock_new
goes_on begun calls steps run c s old clock new clock_new kept is_result is_ops made =
    let m : Made = record { call = c; step = s; device = new } in
    record {
      calls = map-append (λ (x : Made). x.call) run (m ∷ []) ∙ ap (λ (l : List DeviceCall). l ++ c ∷ []) kept.calls;
      steps = map-append (λ (x : Made). x.step) run (m ∷ []) ∙ ap (λ (l : List DeviceStep). l ++ s ∷ []) kept.steps;
      made = made_push begun run m old kept.made (record { makes = made.makes; result = is_result; ops = is_ops });
      fixed = made.fixed ∙ kept.fixed;
      ops = omega (arith, kept.ops, made.lasts.ops);
      times = all_push new.ops run m (omega arith) (all_more old.ops new.ops run made.lasts.ops kept.times);
      ends = λ tells. subst (Ties new) (sym (after_push (known_of begun) run m)) (subst (λ (r : JobResult). Ties new (after_call c s.taken r (known_after (known_of begun) run))) (sym is_result) (made.ties (known_after (known_of begun) run) (kept.ends (made.told tells))));
      cuts = λ tells o map le lt finds n.
          let late = by_late o (known_of begun) run m lt in
          elim (cases_lt o old.ops) [
            | inl past ↦ subst (λ (e : Known). IsPossible (e.slots n) (map n)) (sym late) (kept.cuts (made.told tells) o map le past (made.lasts.past.cut o map past finds) n)
            | inr now ↦
                let all = by_all o (known_of begun) run (all_more old.ops o run now kept.times) in
                subst (λ (e : Known). IsPossible (e.slots n) (map n)) (sym (late ∙ all)) (possible old old.slots (known_after (known_of begun) run).slots map (made.told tells) (kept.ends (made.told tells)).slots (made.cut o map now lt finds) n)
          ];
    }
