-- A turn of the device: what becomes of its plans of power cuts.
use Rattle.script_player.proofs.Common.{◌||◌, min, ◌≡◌, ◌<◌, ◌≤◌, ◌+◌, ◌⊎◌, ℕ, Bool, true, false, List, [], ◌∷◌, ◌++◌, length, Option, Some, None, refl, sym, ap, ◌∙◌, subst, inl, inr, arith, append-nil, leb_tells, last_count, next_count, WereCounted, DeviceTold, PartTold, Part, Fixed, Stand, Open, ops_of, faults_of, is_off, Clock, PartTurns, Off, Turned, DueCut, Added, CutsAre, IsNoEarlier, plan_from, plan_in, takes_in, came_in, ops_in, First, Second, Ended, part_at, IsOf, Works, IsCut, TurnsDevice, unplanned_in}
use Rattle.uds_gateway.specs.nvm_laws.declared.turned.Turned.TheVariants as turned
use Rattle.script_player.proofs.Offs.{no_earlier_same}
use Rattle.script_player.proofs.PlainPlans.{from_off, from_on, stands_on, none_earlier, plan_waits}
use Rattle.script_player.proofs.PlainParts.{part_unplanned, part_takes, part_came, part_longer, part_plan, part_comes, part_off, other_off}

-- WHAT BECOMES OF THE PLANS
-- a plan that stands at the first part of a device of one part comes no later than before, but for the faults since
abbrev pub ComesInTime : DeviceTold → DeviceTold → Type 0
ComesInTime old new =
    old.fixed.two ≡ false → (x : DueCut) → plan_in old ≡ Some x → ops_in old < x.due
    → (new.first.off ≡ true) ⊎ ((last_count ≤ faults_of new) ⊎ ((y : DueCut) × (plan_in new ≡ Some y) × (ops_in new < y.due) × (y.due + faults_of old ≤ x.due + faults_of new)))

-- no cut is forgotten that came without one, none is taken back that may be planned, and none is planned for earlier
pub record Goes (old new : DeviceTold) : Type 0 where
  pub unplanned : unplanned_in old ≤ unplanned_in new
  pub takes : takes_in old ≤ takes_in new
  pub plan : IsNoEarlier (plan_in old) (plan_in new)
  -- one changing operation at most is made
  pub later : ops_in old ≤ ops_in new
  pub one : ops_in new ≤ ops_in old + 1
  pub comes : ComesInTime old new

pub goes_on : (d : DeviceTold) → Goes d d
goes_on d = record { unplanned = omega arith; takes = omega arith; plan = no_earlier_same (plan_in d); later = omega arith; one = omega arith; comes = λ one x is late. inr (inr (x, is, late, omega arith)) }

-- the operations and the parts alone tell
parts_tell : (old new : DeviceTold) → new.ops ≡ old.ops → new.first ≡ old.first → new.second ≡ old.second
    → (unplanned_in new ≡ unplanned_in old) × (takes_in new ≡ takes_in old) × (plan_in new ≡ plan_in old) × (faults_of new ≡ faults_of old)
parts_tell old new made one two = rw (made, one, two) (refl, refl, refl, refl)

pub came_same : (old new : DeviceTold) → new.first ≡ old.first → came_in new ≡ came_in old
came_same old new one = ap (λ (p : PartTold). p.planning.came) one

-- what becomes of them behind a call that leaves the parts
pub goes_from : (old between new : DeviceTold) → between.fixed ≡ old.fixed → between.ops ≡ old.ops → between.first ≡ old.first → between.second ≡ old.second → Goes between new → Goes old new
goes_from old between new fixed made one two goes =
    let (unplanned, takes, plan, faults) = parts_tell old between made one two in record {
      unplanned = let less = goes.unplanned in omega (arith, unplanned, less);
      takes = let less = goes.takes in omega (arith, takes, less);
      plan = subst (λ (p : Option DueCut). IsNoEarlier p (plan_in new)) plan goes.plan;
      later = let more = goes.later in omega (arith, made, more);
      one = let one_more = goes.one in omega (arith, made, one_more);
      comes = λ alone x is late.
          elim (goes.comes (ap (λ (f : Fixed). f.two) fixed ∙ alone) x (plan ∙ is) (omega (arith, made, late))) [
            | inl off ↦ inl off
            | inr (inl full) ↦ inr (inl full)
            | inr (inr (y, there, more, soon)) ↦ inr (inr (y, there, more, omega (arith, faults, soon)))
          ];
    }

pub goes_same : (old new : DeviceTold) → new.fixed ≡ old.fixed → new.ops ≡ old.ops → new.first ≡ old.first → new.second ≡ old.second → Goes old new
goes_same old new fixed made one two = goes_from old new new fixed made one two (goes_on new)

-- BY PARTS

one_at_most : (n m : ℕ) → (m ≡ n) ⊎ (m ≡ next_count n) → m ≤ n + 1
one_at_most n m (inl same) = omega (arith, same)
one_at_most n m (inr more) = omega (arith, more)

-- the faults of both parts, where those of the first one rose
in_all : (f g a y x : ℕ) → f ≤ g → y + f ≤ x + g → (last_count ≤ min (g + a) last_count) ⊎ (y + min (f + a) last_count ≤ x + min (g + a) last_count)
in_all f g a y x more soon = elim (leb_tells last_count (g + a)) [
  | inl full ↦ inl (let big = full.1 in omega (arith, big))
  | inr few ↦ inr (let small = few.1 in omega (arith, small, more, soon))
]

or_right : (t : Bool) → (t || true) ≡ true
or_right true = refl
or_right false = refl

-- the power is as it was, where a turn cuts nothing
first_power : (old new : DeviceTold) → PartTurns false old.ops new.ops old.first new.first → new.second ≡ old.second → is_off new ≡ is_off old
first_power old new turns other =
    ap (λ (p : PartTold). p.off || new.second.off) turns.only ∙ ap (λ (p : PartTold). p.off) other ∙ sym (ap (λ t. t || old.second.off) turns.on)

second_power : (old new : DeviceTold) → PartTurns false old.ops new.ops old.second new.second → new.first ≡ old.first → is_off new ≡ is_off old
second_power old new turns other =
    ap (λ t. new.first.off || t) (ap (λ (p : PartTold). p.off) turns.only) ∙ ap (λ (p : PartTold). p.off || false) other ∙ ap (λ t. old.first.off || t) (sym turns.on)

part_in_time : (cut : Bool) (old new : DeviceTold) → PartTurns cut old.ops new.ops old.first new.first → new.second ≡ old.second → ComesInTime old new
part_in_time true old new turns other alone x is late = inl (ap (λ (p : PartTold). p.off) turns.only)
part_in_time false old new turns other alone x is late =
    let on = stands_on (is_off old) old.ops old.first.planning.plan is in
    let still_on = first_power old new turns other ∙ on in
    inr (elim (part_comes old.ops new.ops x old.first new.first turns (sym (from_on (is_off old) old.ops old.first.planning.plan on) ∙ is) late) [
      | inl full ↦ inl (omega (arith, full))
      | inr (y, there, more, soon) ↦ elim (in_all old.first.faults new.first.faults old.second.faults y.due x.due turns.faults.faults soon) [
        | inl full ↦ inl (let same = ap (λ (p : PartTold). p.faults) other in omega (arith, full, same))
        | inr in_both ↦ inr (y, from_on (is_off new) new.ops new.first.planning.plan still_on ∙ there, more, (let same = ap (λ (p : PartTold). p.faults) other in omega (arith, in_both, same)))
      ]
    ])

-- a device of one part makes no turn on the second
not_second : (f : Fixed) (s : Stand) → IsOf Second f s → f.two ≡ false → ⊥
not_second f (Open j) of alone = let no_ : true ≡ false = sym of.0 ∙ alone in cc no_
not_second f (Ended result given) of alone = cc of

-- the first part makes the turn
first_plan : (cut : Bool) (old new : DeviceTold) → PartTurns cut old.ops new.ops old.first new.first → new.second ≡ old.second → IsNoEarlier (plan_in old) (plan_in new)
first_plan true old new turns other =
    none_earlier (plan_in old) (plan_in new) (from_off (is_off new) new.ops new.first.planning.plan (ap (λ (p : PartTold). p.off || new.second.off) turns.only))
first_plan false old new turns other =
    subst (λ (t : Bool). IsNoEarlier (plan_in old) (plan_from t new.ops new.first.planning.plan)) (sym (first_power old new turns other))
    (part_plan (is_off old) old.ops new.ops old.first new.first turns.later turns.plan)

pub first_goes : (cut : Bool) (old new : DeviceTold) → PartTurns cut old.ops new.ops old.first new.first → new.second ≡ old.second → Goes old new
first_goes cut old new turns other = record {
  unplanned =
      let one = part_unplanned cut old.ops new.ops old.first new.first turns in
      let two = ap (λ (p : PartTold). p.planning.unplanned + length p.planning.came) other in omega (arith, one, two);
  takes = let same = part_takes cut old.ops new.ops old.first new.first turns in omega (arith, same);
  plan = first_plan cut old new turns other;
  later = turns.later;
  one = one_at_most old.ops new.ops turns.one;
  comes = part_in_time cut old new turns other;
}

-- the second part does
second_plan : (cut : Bool) (old new : DeviceTold) → PartTurns cut old.ops new.ops old.second new.second → new.first ≡ old.first → IsNoEarlier (plan_in old) (plan_in new)
second_plan true old new turns other =
    none_earlier (plan_in old) (plan_in new)
    (from_off (is_off new) new.ops new.first.planning.plan (ap (λ (p : PartTold). new.first.off || p.off) turns.only ∙ or_right new.first.off))
second_plan false old new turns other =
    subst (λ (t : Bool). IsNoEarlier (plan_in old) (plan_from t new.ops new.first.planning.plan)) (sym (second_power old new turns other))
    (subst (λ (p : PartTold). IsNoEarlier (plan_in old) (plan_from (is_off old) new.ops p.planning.plan)) (sym other)
    (plan_waits (is_off old) old.ops new.ops old.first.planning.plan turns.later))

second_more : (cut : Bool) (old new : DeviceTold) → PartTurns cut old.ops new.ops old.second new.second
    → old.second.planning.unplanned + length old.second.planning.came ≤ new.second.planning.unplanned + length new.second.planning.came
second_more true old new turns = elim (other_off old.ops new.ops old.second new.second turns) [
  | inl more ↦ omega (arith, more)
  | inr last ↦ let few = part_unplanned true old.ops new.ops old.second new.second turns in let longer = part_longer old.ops new.ops old.second new.second turns in omega (arith, few, longer)
]
second_more false old new turns =
    let few = part_unplanned false old.ops new.ops old.second new.second turns in
    let same = ap length (part_came old.ops new.ops old.second new.second turns) in omega (arith, few, same)

pub second_goes : (cut : Bool) (old new : DeviceTold) → PartTurns cut old.ops new.ops old.second new.second → new.first ≡ old.first → IsOf Second old.fixed old.stand → Goes old new
second_goes cut old new turns other of = record {
  unplanned =
      let one = second_more cut old new turns in
      let two = ap (λ (p : PartTold). p.planning.unplanned) other in omega (arith, one, two);
  takes = let same = ap (λ (p : PartTold). p.planning.takes) other in omega (arith, same);
  plan = second_plan cut old new turns other;
  later = turns.later;
  one = one_at_most old.ops new.ops turns.one;
  comes = λ alone x is late. absurd (not_second old.fixed old.stand of alone);
}

-- A TURN

works_go : (p : Part) (old new : DeviceTold) (clock : Clock) → Works p old new clock → Goes old new
works_go First old new clock works = first_goes false old new works.part (ap (λ (d : DeviceTold). d.second) works.only)
works_go Second old new clock works = second_goes false old new works.part (ap (λ (d : DeviceTold). d.first) works.only) works.of

cut_goes : (p : Part) (old new : DeviceTold) → IsCut p old new → Goes old new
cut_goes First old new cut = first_goes true old new cut.part (ap (λ (d : DeviceTold). d.second) cut.only)
cut_goes Second old new cut = second_goes true old new cut.part (ap (λ (d : DeviceTold). d.first) cut.only) cut.of

same_goes : (old new : DeviceTold) → new ≡ old → Goes old new
same_goes old new same = subst (λ (d : DeviceTold). Goes old d) (sym same) (goes_on old)

pub turn_goes : (answer : Turned) (old new : DeviceTold) (clock clock_new : Clock) → TurnsDevice answer old clock new clock_new → Goes old new
turn_goes turned.Idle old new clock clock_new turns = same_goes old new turns.0.1
turn_goes turned.Worked old new clock clock_new turns = works_go turns.0.1.0 old new clock_new turns.0.1.1
turn_goes turned.Off old new clock clock_new turns = elim turns.0.1.1 [
  | inl off ↦ same_goes old new off.2
  | inr cut ↦ cut_goes turns.0.1.0 old new cut.0
]
turn_goes turned.Picked old new clock clock_new turns = absurd turns
turn_goes turned.Posted old new clock clock_new turns = absurd turns

-- A CUT

-- none came
works_came : (p : Part) (old new : DeviceTold) (clock : Clock) → Works p old new clock → came_in new ≡ came_in old
works_came First old new clock works = part_came old.ops new.ops old.first new.first works.part
works_came Second old new clock works = ap (λ (d : DeviceTold). d.first.planning.came) works.only

pub worked_came : (old new : DeviceTold) (clock clock_new : Clock) → TurnsDevice turned.Worked old clock new clock_new → came_in new ≡ came_in old
worked_came old new clock clock_new turns = works_came turns.0.1.0 old new clock_new turns.0.1.1

-- the cut that was planned came, or another one was counted, and none is planned behind it
pub record DeviceCut (old new : DeviceTold) : Type 0 where
  pub cuts : List ℕ
  pub others : ℕ
  pub are : CutsAre (plan_in old) 0 (Added (Off (ops_of new)) ∷ []) cuts others
  pub came : came_in new ≡ came_in old ++ cuts
  pub counted : WereCounted others (unplanned_in old) (unplanned_in new)
  pub none : plan_in new ≡ None

-- so many as came without a plan, in both parts
in_all_first : (n u v w z : ℕ) → WereCounted n u v → z ≡ w → WereCounted n (u + w) (v + z)
in_all_first n u v w z (inl more) same = inl (omega (arith, more, same))
in_all_first n u v w z (inr last) same = inr (omega (arith, last))

in_all_second : (n u v w z : ℕ) → WereCounted n u v → z ≡ w → WereCounted n (w + u) (z + v)
in_all_second n u v w z (inl more) same = inl (omega (arith, more, same))
in_all_second n u v w z (inr last) same = inr (omega (arith, last))

device_cut : (p : Part) (old new : DeviceTold) → is_off old ≡ false → IsCut p old new → DeviceCut old new
device_cut First old new on cut =
    let here = part_off old.ops new.ops old.first new.first cut.part in
    let other = ap (λ (d : DeviceTold). d.second) cut.only in record {
      cuts = here.cuts;
      others = here.others;
      are = subst (λ (plan : Option DueCut). CutsAre plan 0 (Added (Off new.ops) ∷ []) here.cuts here.others) (sym (from_on (is_off old) old.ops old.first.planning.plan on)) here.are;
      came = here.came;
      counted = in_all_first here.others old.first.planning.unplanned new.first.planning.unplanned
          (old.second.planning.unplanned + length old.second.planning.came) (new.second.planning.unplanned + length new.second.planning.came) here.counted
          (ap (λ (q : PartTold). q.planning.unplanned + length q.planning.came) other);
      none = from_off (is_off new) new.ops new.first.planning.plan (ap (λ (q : PartTold). q.off || new.second.off) cut.part.only);
    }
device_cut Second old new on cut =
    let other = ap (λ (d : DeviceTold). d.first) cut.only in record {
      cuts = [];
      others = 1;
      are = inr (0, refl, (refl, refl));
      came = ap (λ (q : PartTold). q.planning.came) other ∙ sym (append-nil (came_in old));
      counted = in_all_second 1 (old.second.planning.unplanned + length old.second.planning.came) (new.second.planning.unplanned + length new.second.planning.came)
          old.first.planning.unplanned new.first.planning.unplanned
          (other_off old.ops new.ops old.second new.second cut.part) (ap (λ (q : PartTold). q.planning.unplanned) other);
      none = from_off (is_off new) new.ops new.first.planning.plan (ap (λ (q : PartTold). new.first.off || q.off) cut.part.only ∙ or_right new.first.off);
    }

part_on : (p : Part) (d : DeviceTold) → is_off d ≡ false → (part_at p d).off ≡ true → ⊥
part_on First d on off = none (subst (λ (t : Bool). (t || d.second.off) ≡ false) off on)
  where
    none : true ≡ false → ⊥
    none e = cc
part_on Second d on off = by d.first.off (subst (λ (t : Bool). (d.first.off || t) ≡ false) off on)
  where
    by : (t : Bool) → (t || true) ≡ false → ⊥
    by true e = cc
    by false e = cc

-- an Off where the power was on
pub off_cut : (old new : DeviceTold) (clock clock_new : Clock) → TurnsDevice turned.Off old clock new clock_new → is_off old ≡ false → DeviceCut old new
off_cut old new clock clock_new turns on = elim turns.0.1.1 [
  | inl off ↦ absurd (part_on turns.0.1.0 old on off.0)
  | inr cut ↦ device_cut turns.0.1.0 old new on cut.0
]

-- so it is behind a call that leaves the parts
pub cut_from : (old between new : DeviceTold) → between.ops ≡ old.ops → between.first ≡ old.first → between.second ≡ old.second → DeviceCut between new → DeviceCut old new
cut_from old between new made one two cut =
    let (unplanned, takes, plan, faults) = parts_tell old between made one two in record {
      cuts = cut.cuts;
      others = cut.others;
      are = subst (λ (p : Option DueCut). CutsAre p 0 (Added (Off (ops_of new)) ∷ []) cut.cuts cut.others) plan cut.are;
      came = cut.came ∙ ap (λ (ks : List ℕ). ks ++ cut.cuts) (came_same old between one);
      counted = subst (λ (n : ℕ). WereCounted cut.others n (unplanned_in new)) unplanned cut.counted;
      none = cut.none;
    }
