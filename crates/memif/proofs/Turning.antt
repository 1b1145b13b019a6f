-- What is found behind a start-up, and what the turns of any device keep.
use Rattle.std.proofs.Common.{◌≡◌, ◌⊎◌, inl, inr, ◌<◌, ◌≤◌, ℕ, Bool, true, false, refl, List, [], Option, Some, None, sym, ap, subst, arith, ◌+◌, if◌then◌else◌, ◌∙◌}
use Rattle.std.specs.List.{Contains}
use Rattle.memif.specs.declared.answer.DeviceTurn.TheVariants.{Idle, Worked, Off}
use Rattle.memif.specs.declared.answer.DeviceTurn.{DeviceTurn}
use Rattle.memif.specs.Told.{DeviceTold, PartTold, Slot, Held, Part, First, Second, part_at, with_part, slot_at, Stand, Open, Ended, is_open, is_off, figures_at}
use Rattle.memif.specs.Marks.{IfTold, EachNumber}
use Rattle.memif.specs.Clock.{Clock, SameClock, Past, After, CutIn, ArePossible, Ticks}
use Rattle.memif.specs.Calls.{Works, IsCut, Turns, InOrder, JobTurns}
use Rattle.memif.specs.Trials.{AreSettled, Lasts, IsFaultless}
use Rattle.std.specs.Prelude.{◌||◌, is_some}
use Rattle.std.proofs.lemmas.Bool.{cases_lt}
use Rattle.std.proofs.Math.Nat.{eq-or-lt_of_le}
use Rattle.nv_base.specs.Count.{Rose}

-- WHAT IS FOUND, AND WHAT OF IT LASTS
pub none_in : (h : Held) → Contains [] h → ⊥
none_in h has = absurd (omega (arith, has.1))

-- what is told behind a call was told before it
pub told_before : (P : ℕ → Slot → Slot → Type 0) (old new : DeviceTold) → EachNumber P old new → is_some new.slots ≡ true → is_some old.slots ≡ true
told_before P old new each = by old.slots new.slots each
  where
    by : (s t : Option (List Slot)) → IfTold s t (λ u v. (n : ℕ) → P n (slot_at old.fixed.numbers u n) (slot_at old.fixed.numbers v n)) → is_some t ≡ true → is_some s ≡ true
    by (Some u) (Some v) each is = refl
    by None (Some v) each is = absurd each
    by s None each is = cc

settled_at : (d : DeviceTold) (old new : Option (List Slot)) (m : ℕ → Held) → IfTold old new (λ s t. (n : ℕ) → (slot_at d.fixed.numbers t n).doubts ≡ []) → ArePossible d new m → AreSettled d new m
settled_at d (Some s) (Some t) m clear possible = λ n. elim (possible n) [
  | inl same ↦ same
  | inr has ↦ absurd (none_in (m n) (subst (λ (l : List Held). Contains l (m n)) (clear n) has))
]
settled_at d None (Some t) m clear possible = absurd clear
settled_at d o None m clear possible = tt

-- A COUNT THAT ROSE
pub rose_before : (a b c : ℕ) → Rose a b → b ≤ c → Rose a c
rose_before a b c (inl lt) le = inl (omega (arith, lt, le))
rose_before a b c (inr end) le = inr (end.0, omega (arith, end.1, le))

pub rose_since : (a b c : ℕ) → a ≤ b → Rose b c → Rose a c
rose_since a b c le (inl lt) = inl (omega arith)
rose_since a b c le (inr end) =
    let up : a ≤ c = omega (arith, le, end.1) in
    elim (eq-or-lt_of_le up) [ inl same ↦ inr (omega (arith, end.0, end.1, le, same), up) | inr lt ↦ inl lt ]

-- WHAT CALLS ONE AFTER ANOTHER KEEP
failed_more : (a : DeviceTold) (ca : Clock) (b : DeviceTold) (cb : Clock) (c : DeviceTold) (ct : Clock) → Lasts a ca b cb → Lasts b cb c ct
    → (k : ℕ) → a.ops ≤ k → k < c.ops → ct.failed k → Rose a.first.faults c.first.faults ⊎ Rose a.second.faults c.second.faults
failed_more a ca b cb c ct one two k le lt failed = elim (cases_lt k b.ops) [
  | inl early ↦ elim (one.failed k le early ((two.past.failed k early).0 failed)) [
    | inl rose ↦ inl (rose_before a.first.faults b.first.faults c.first.faults rose two.faults.0)
    | inr rose ↦ inr (rose_before a.second.faults b.second.faults c.second.faults rose two.faults.1)
  ]
  | inr late ↦ elim (two.failed k late lt failed) [
    | inl rose ↦ inl (rose_since a.first.faults b.first.faults c.first.faults one.faults.0 rose)
    | inr rose ↦ inr (rose_since a.second.faults b.second.faults c.second.faults one.faults.1 rose)
  ]
]

pub lasts_more : (a : DeviceTold) (ca : Clock) (b : DeviceTold) (cb : Clock) (c : DeviceTold) (ct : Clock) → Lasts a ca b cb → Lasts b cb c ct → Lasts a ca c ct
lasts_more a ca b cb c ct one two = record {
  ops = omega (arith, one.ops, two.ops);
  past = record {
    after = λ k m le finds. one.past.after k m le (two.past.after k m (omega (arith, le, one.ops)) finds);
    cut = λ k m lt finds. one.past.cut k m lt (two.past.cut k m (omega (arith, lt, one.ops)) finds);
    worn = λ k n urgent le is. two.past.worn k n urgent (omega (arith, le, one.ops)) (one.past.worn k n urgent le is);
    of_second = λ k lt.
        let first = one.past.of_second k lt in
        let second = two.past.of_second k (omega (arith, lt, one.ops)) in
        (λ is. first.0 (second.0 is), λ is. second.1 (first.1 is));
    failed = λ k lt.
        let first = one.past.failed k lt in
        let second = two.past.failed k (omega (arith, lt, one.ops)) in
        (λ is. first.0 (second.0 is), λ is. second.1 (first.1 is));
    spare = λ k s le free. one.past.spare k s le (two.past.spare k s (omega (arith, le, one.ops)) free);
    was = λ t k lt is. one.past.was t k lt (two.past.was t k (omega (arith, lt, one.ops)) is);
  };
  faults = (omega (arith, one.faults.0, two.faults.0), omega (arith, one.faults.1, two.faults.1));
  failed = failed_more a ca b cb c ct one two;
}

pub same_clock : (c : Clock) → SameClock c c
same_clock c = record {
  may_find = λ w m. (λ h. h, λ h. h);
  off_in = λ k. (λ h. h, λ h. h);
  failed = λ k. (λ h. h, λ h. h);
  worn = λ k n urgent. (λ h. h, λ h. h);
  of_second = λ k. (λ h. h, λ h. h);
  spare = λ k s. (λ h. h, λ h. h);
  was = λ t k. (λ h. h, λ h. h);
}

pub past_same : (ops : ℕ) (old new : Clock) → SameClock old new → Past ops old new
past_same ops old new same = record {
  after = λ k m le finds. (same.may_find (After k) m).0 finds;
  cut = λ k m lt finds. (same.may_find (CutIn k) m).0 finds;
  failed = λ k lt. same.failed k;
  worn = λ k n urgent le is. (same.worn k n urgent).1 is;
  of_second = λ k lt. same.of_second k;
  spare = λ k s le free. (same.spare k s).0 free;
  was = λ t k lt is. (same.was t k).0 is;
}

-- no operation was made, no count fell, and the clock is as it was
pub still_lasts : (old : DeviceTold) (clock : Clock) (new : DeviceTold) (clock_new : Clock) → new.ops ≡ old.ops → old.first.faults ≤ new.first.faults → old.second.faults ≤ new.second.faults
    → SameClock clock clock_new → Lasts old clock new clock_new
still_lasts old clock new clock_new still first second same = record {
  ops = omega (arith, still);
  past = past_same old.ops clock clock_new same;
  faults = (first, second);
  failed = λ k le lt failed. absurd (omega (arith, still, le, lt));
}

-- the counts are as they were
pub same_lasts : (old : DeviceTold) (clock : Clock) (new : DeviceTold) (clock_new : Clock) → new.ops ≡ old.ops → new.first.faults ≡ old.first.faults → new.second.faults ≡ old.second.faults
    → SameClock clock clock_new → Lasts old clock new clock_new
same_lasts old clock new clock_new still first second same = still_lasts old clock new clock_new still (omega (arith, first)) (omega (arith, second)) same

pub same_told : (old : DeviceTold) (clock : Clock) (new : DeviceTold) (clock_new : Clock) → new ≡ old → SameClock clock clock_new → Lasts old clock new clock_new
same_told old clock new clock_new is same =
    same_lasts old clock new clock_new (ap (λ (d : DeviceTold). d.ops) is) (ap (λ (d : DeviceTold). d.first.faults) is) (ap (λ (d : DeviceTold). d.second.faults) is) same

-- on both parts, by a turn that works on one or is cut there
on_parts : (p : Part) (old new : DeviceTold) (P : PartTold → PartTold → Type 0) → ((t : PartTold) → P t t) → P (part_at p old) (part_at p new) → ((q : Part) → part_at q new ≡ part_at q (with_part p (part_at p new) old)) → (q : Part) → P (part_at q old) (part_at q new)
on_parts First old new P same here rest First = here
on_parts First old new P same here rest Second = subst (P old.second) (sym (rest Second)) (same old.second)
on_parts Second old new P same here rest First = subst (P old.first) (sym (rest First)) (same old.first)
on_parts Second old new P same here rest Second = here

pub works_rest : (p : Part) (old new : DeviceTold) (clock : Clock) → Works p old new clock → (q : Part) → part_at q new ≡ part_at q (with_part p (part_at p new) old)
works_rest First old new clock works First = ap (λ (d : DeviceTold). d.first) works.only
works_rest First old new clock works Second = ap (λ (d : DeviceTold). d.second) works.only
works_rest Second old new clock works First = ap (λ (d : DeviceTold). d.first) works.only
works_rest Second old new clock works Second = ap (λ (d : DeviceTold). d.second) works.only

cut_rest : (p : Part) (old new : DeviceTold) → IsCut p old new → (q : Part) → part_at q new ≡ part_at q (with_part p (part_at p new) old)
cut_rest First old new cut First = ap (λ (d : DeviceTold). d.first) cut.only
cut_rest First old new cut Second = ap (λ (d : DeviceTold). d.second) cut.only
cut_rest Second old new cut First = ap (λ (d : DeviceTold). d.first) cut.only
cut_rest Second old new cut Second = ap (λ (d : DeviceTold). d.second) cut.only

-- no part's faults fall
faults_grow : (p : Part) (old new : DeviceTold) → (part_at p old).faults ≤ (part_at p new).faults → ((q : Part) → part_at q new ≡ part_at q (with_part p (part_at p new) old))
    → (q : Part) → (part_at q old).faults ≤ (part_at q new).faults
faults_grow p old new grow rest = on_parts p old new (λ a b. a.faults ≤ b.faults) (λ t. omega arith) grow rest

-- a turn that ticks lasts
ticked : (p : Part) (answer : DeviceTurn) (old : DeviceTold) (clock : Clock) (new : DeviceTold) (clock_new : Clock) → Ticks p answer old clock new clock_new → old.ops ≤ new.ops
    → (part_at p old).faults ≤ (part_at p new).faults → ((q : Part) → part_at q new ≡ part_at q (with_part p (part_at p new) old)) → Lasts old clock new clock_new
ticked p answer old clock new clock_new ticks later grow rest = record {
  ops = later;
  past = ticks.past;
  faults = (faults_grow p old new grow rest First, faults_grow p old new grow rest Second);
  failed = λ k le lt failed. by p (ticks.failed k le lt failed);
}
  where
    by : (q : Part) → Rose (part_at q old).faults (part_at q new).faults → Rose old.first.faults new.first.faults ⊎ Rose old.second.faults new.second.faults
    by First rose = inl rose
    by Second rose = inr rose

-- what a cut may leave was possible before the turn
abbrev pub Leaves : DeviceTold → DeviceTold → Clock → Type 0
Leaves old new clock = (o : ℕ) (m : ℕ → Held) → old.ops ≤ o → o < new.ops → clock.may_find (CutIn o) m → ArePossible old old.slots m

pub still_leaves : (old new : DeviceTold) (clock : Clock) → new.ops ≡ old.ops → Leaves old new clock
still_leaves old new clock still o m le lt finds = absurd (omega (arith, still, le, lt))

pub turn_lasts : (answer : DeviceTurn) (old : DeviceTold) (clock : Clock) (new : DeviceTold) (clock_new : Clock) → Turns answer old clock new clock_new → Lasts old clock new clock_new × Leaves old new clock_new
turn_lasts Idle old clock new clock_new turns =
    let same : new.ops ≡ old.ops = ap (λ (d : DeviceTold). d.ops) turns.0.1 in
    (same_told old clock new clock_new turns.0.1 turns.0.2, still_leaves old new clock_new same)
turn_lasts Worked old clock new clock_new turns =
    let p = turns.0.1.0 in
    let works = turns.0.1.1 in
    (ticked p Worked old clock new clock_new turns.0.1.2 works.part.later works.part.faults.faults (works_rest p old new clock_new works), turns.0.1.2.cut)
turn_lasts Off old clock new clock_new turns = elim turns.0.1.1 [
  | inl still ↦
      let same : new.ops ≡ old.ops = ap (λ (d : DeviceTold). d.ops) still.2 in
      (same_told old clock new clock_new still.2 still.3, still_leaves old new clock_new same)
  | inr cut ↦
      let p = turns.0.1.0 in
      (ticked p Off old clock new clock_new cut.1 cut.0.part.later cut.0.part.faults.faults (cut_rest p old new cut.0), cut.1.cut)
]

pub lasts_on : (answer : DeviceTurn) (a : DeviceTold) (ca : Clock) (b : DeviceTold) (cb : Clock) (c : DeviceTold) (ct : Clock) → Lasts a ca b cb → Turns answer b cb c ct → Lasts a ca c ct
lasts_on answer a ca b cb c ct one turns = lasts_more a ca b cb c ct one (turn_lasts answer b cb c ct turns).0

-- BY WHAT THE WORK FALLS
-- the turns that are left, and behind an open job those of the device's own work
abbrev pub work_left : DeviceTold → ℕ
work_left d = d.left + (if is_open d.stand then d.fixed.own + 1 else 0)

pub works_fixed : (p : Part) (old new : DeviceTold) (clock : Clock) → Works p old new clock → new.fixed ≡ old.fixed
works_fixed First old new clock works = ap (λ (d : DeviceTold). d.fixed) works.only
works_fixed Second old new clock works = ap (λ (d : DeviceTold). d.fixed) works.only

falls_at : (p : Part) (a b : Stand) (old new : DeviceTold) (clock : Clock) → old.stand ≡ a → new.stand ≡ b → is_open a ≡ true → JobTurns p a b old new clock → new.fixed ≡ old.fixed → InOrder new clock → work_left new < work_left old
falls_at p (Open j) (Open k) old new clock was is up turns fixed order = rw (was, is, fixed) (omega (arith, turns.2))
falls_at p (Open j) (Ended result given) old new clock was is up turns fixed order =
    let bound : new.left ≤ old.fixed.own + 0 = rw (fixed, is) at order.bounded in
    rw (was, is) (omega (arith, bound))
falls_at p (Ended result given) b old new clock was is up turns fixed order = cc

-- a turn of a job brings the rest nearer, whatever fault comes
pub falls_open : (p : Part) (old new : DeviceTold) (clock : Clock) → Works p old new clock → InOrder new clock → is_open old.stand ≡ true → work_left new < work_left old
falls_open p old new clock works order up = falls_at p old.stand new.stand old new clock refl refl up works.job (works_fixed p old new clock works) order

closed_at : (p : Part) (a b : Stand) (old new : DeviceTold) (clock : Clock) → is_open a ≡ false → JobTurns p a b old new clock → is_open b ≡ false
closed_at p (Open j) b old new clock up turns = cc
closed_at p (Ended result given) b old new clock up turns = ap is_open turns.0

-- with no job open none opens
pub stays_closed : (p : Part) (old new : DeviceTold) (clock : Clock) → Works p old new clock → is_open old.stand ≡ false → is_open new.stand ≡ false
stays_closed p old new clock works up = closed_at p old.stand new.stand old new clock up works.job

pub falls_closed : (p : Part) (old new : DeviceTold) (clock : Clock) → Works p old new clock → is_open old.stand ≡ false → new.left < old.left → work_left new < work_left old
falls_closed p old new clock works up less = rw (up, stays_closed p old new clock works up) (omega (arith, less))

-- at Off a cut stands
off_at : (p : Part) (d : DeviceTold) → (part_at p d).off ≡ true → is_off d ≡ true
off_at First d off = rw off refl
off_at Second d off = second d.first.off off
  where
    second : (b : Bool) → d.second.off ≡ true → (b || d.second.off) ≡ true
    second true off = refl
    second false off = off

cut_off : (p : Part) (old new : DeviceTold) → IsCut p old new → (part_at p new).off ≡ true
cut_off p old new cut = ap (λ (x : PartTold). x.off) cut.part.only

pub is_off_at_off : (old : DeviceTold) (clock : Clock) (new : DeviceTold) (clock_new : Clock) → Turns Off old clock new clock_new → is_off new ≡ true
is_off_at_off old clock new clock_new turns = elim turns.0.1.1 [
  | inl still ↦ ap is_off still.2 ∙ off_at turns.0.1.0 old still.0
  | inr cut ↦ off_at turns.0.1.0 new (cut_off turns.0.1.0 old new cut.0)
]

-- AN ERASE, BY THE TURNS THAT IT TOOK SO FAR
-- while the job is open the turns so far and those that are left are at most the figure; once it ended so are the turns,
-- unless a fault was counted
pub record IsErasing (number turns : ℕ) (begun now : DeviceTold) : Type 0 where
  pub first : begun.first.faults ≤ now.first.faults
  pub second : begun.second.faults ≤ now.second.faults
  pub going : is_open now.stand ≡ true → turns + now.left ≤ begun.fixed.own + (figures_at begun.fixed number).erase
  pub ended : is_open now.stand ≡ false → IsFaultless begun now → turns ≤ begun.fixed.own + (figures_at begun.fixed number).erase

-- a fault of this turn is one since the begin
faulty : (p : Part) (begun old new : DeviceTold) → begun.first.faults ≤ old.first.faults → begun.second.faults ≤ old.second.faults → IsFaultless begun new → Rose (part_at p old).faults (part_at p new).faults → ⊥
faulty First begun old new first second calm rose = calm.first (rose_since begun.first.faults old.first.faults new.first.faults first rose)
faulty Second begun old new first second calm rose = calm.second (rose_since begun.second.faults old.second.faults new.second.faults second rose)

less_at : (p : Part) (a b : Stand) (old new : DeviceTold) (clock : Clock) → is_open a ≡ true → is_open b ≡ true → JobTurns p a b old new clock → new.left < old.left
less_at p (Open j) (Open k) old new clock up on turns = turns.2
less_at p (Open j) (Ended result given) old new clock up on turns = cc
less_at p (Ended result given) b old new clock up on turns = cc

pub goes_on : (number turns after : ℕ) (begun old new : DeviceTold) (clock : Clock) (p : Part) → IsErasing number turns begun old → is_open old.stand ≡ true → Works p old new clock → after ≤ turns + 1 → IsErasing number after begun new
goes_on number turns after begun old new clock p so up works more = record {
  first = omega (arith, so.first, faults_grow p old new works.part.faults.faults (works_rest p old new clock works) First);
  second = omega (arith, so.second, faults_grow p old new works.part.faults.faults (works_rest p old new clock works) Second);
  going = λ on. omega (arith, more, so.going up, less_at p old.stand new.stand old new clock up on works.job);
  ended = λ off calm. elim works.nearer [
    | inl less ↦ omega (arith, more, so.going up, less)
    | inr rose ↦ absurd (faulty p begun old new so.first so.second calm rose)
  ];
}
