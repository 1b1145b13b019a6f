-- The devices changed over: the clock of both is the same where their flags are, so a turn of the second one is seen as one of the first.
use Rattle.std.specs.Prelude.{not, min, nat_lt, slice_get, is_some}
use Rattle.std.proofs.Common.{◌≡◌, ◌⊎◌, ℕ, zero, suc, ◌+◌, ◌<◌, ◌≤◌, Bool, true, false, if◌then◌else◌, List, [], ◌∷◌, ◌++◌, length, Option, Some, None, refl, sym, ap, ◌∙◌, subst, inl, inr, arith}
use Rattle.nv_base.specs.Count.{last_count}
use Rattle.memif.specs.declared.answer.DeviceTurn.{DeviceTurn}
use Rattle.memif.specs.Told.{DeviceTold, Fixed, Held, First, Second, IfElse, length_of}
use Rattle.memif.specs.Clock.{Clock, Past, When, After, CutIn, Ticks, GoesOff}
use Rattle.memif.specs.Calls.{InOrder}
use Rattle.memif_pair.specs.Pair.{told_both, is_second, ArePair}
use Rattle.memif_pair.specs.PairClock.{one_if, own, IsCourse, FoundBoth, reach, clock_both}
use Rattle.memif_pair.specs.Laws.{Goes, SecondTicks, pair_clock}
use Rattle.memif_pair.proofs.Courses.{get_front, own_front}
use Rattle.memif_pair.proofs.Ticking.{possible_both}
use Rattle.memif_pair.proofs.Clocks.{first_past, first_cut, first_failed, first_off, is_now}

-- COURSES
abbrev pub flip : List Bool → List Bool
flip [] = []
flip (q ∷ qs) = not q ∷ flip qs

not_twice : (q : Bool) → not (not q) ≡ q
not_twice true = refl
not_twice false = refl

pub flip_twice : (cs : List Bool) → flip (flip cs) ≡ cs
flip_twice [] = refl
flip_twice (c ∷ cs) = λ i. not_twice c i ∷ flip_twice cs i

pub length_flip : (cs : List Bool) → length (flip cs) ≡ length cs
length_flip [] = refl
length_flip (c ∷ cs) = let rest = length_flip cs in omega (arith, rest)

flip_push : (cs : List Bool) (q : Bool) → flip (cs ++ q ∷ []) ≡ flip cs ++ not q ∷ []
flip_push [] q = refl
flip_push (c ∷ cs) q = ap (λ (xs : List Bool). not c ∷ xs) (flip_push cs q)

get_flip : (cs : List Bool) (k : ℕ) (q : Bool) → slice_get cs k ≡ Some q → slice_get (flip cs) k ≡ Some (not q)
get_flip [] k q at = cc
get_flip (c ∷ cs) zero q at = let same : c ≡ q = cc in ap (λ (x : Bool). Some (not x)) same
get_flip (c ∷ cs) (suc k) q at = get_flip cs k q at

one_flip : (p q : Bool) → one_if (not p) (not q) ≡ one_if p q
one_flip true true = refl
one_flip true false = refl
one_flip false true = refl
one_flip false false = refl

own_flip : (p : Bool) (cs : List Bool) (k : ℕ) → own (not p) (flip cs) k ≡ own p cs k
own_flip p [] k = refl
own_flip p (c ∷ cs) zero = refl
own_flip p (c ∷ cs) (suc k) = λ i. one_flip p c i + own_flip p cs k i

pub course_flip : (a b : DeviceTold) (course : List Bool) → IsCourse a b course → IsCourse b a (flip course)
course_flip a b course is = record {
  first = ap (own false (flip course)) (length_flip course) ∙ (own_flip true course (length course) ∙ is.second);
  second = ap (own true (flip course)) (length_flip course) ∙ (own_flip false course (length course) ∙ is.first);
}

pub goes_flip : (ops ops_new : ℕ) (course next : List Bool) → Goes true ops ops_new course next → Goes false ops ops_new (flip course) (flip next)
goes_flip ops ops_new course next goes = record {
  one = elim goes.one [
    | inl still ↦ inl (still.0, ap flip still.1)
    | inr more ↦ inr (more.0, ap flip more.1 ∙ flip_push course true)
  ];
}

pub pair_flip : (a b : DeviceTold) → ArePair a b → ArePair b a
pair_flip a b pair = record { first = pair.second; second = pair.first; apart = λ n of. by n of (length_of b.fixed.numbers n) refl }
  where
    by : (n : ℕ) → is_second a.fixed.numbers n ≡ true → (x : Option ℕ) → length_of b.fixed.numbers n ≡ x → length_of b.fixed.numbers n ≡ None
    by n of None is = is
    by n of (Some l) is = (let none = pair.apart n (ap is_some is) in let wrong : true ≡ false = sym of ∙ ap is_some none in cc wrong)

-- CLOCKS
abbrev opposite : (ℕ → Bool) → ℕ → Bool
opposite of = λ n. not (of n)

opposite_twice : (of : ℕ → Bool) → opposite (opposite of) ≡ of
opposite_twice of = λ i n. not_twice (of n) i

-- what one clock tells the other one tells, but for the parts
record Leads (c d : Clock) : Type 0 where
  pub may_find : (w : When) (m : ℕ → Held) → c.may_find w m → d.may_find w m
  pub off_in : (k : ℕ) → c.off_in k → d.off_in k
  pub failed : (k : ℕ) → c.failed k → d.failed k
  pub worn : (k n : ℕ) (urgent : Bool) → c.worn k n urgent → d.worn k n urgent

chosen : (q : Bool) (x y : Held) → (if q then x else y) ≡ (if not q then y else x)
chosen true x y = refl
chosen false x y = refl

if_flip : (q : Bool) (P Q : Type 0) → IfElse q P Q → IfElse (not q) Q P
if_flip true P Q is = is
if_flip false P Q is = is

module _ (of : ℕ → Bool) (course : List Bool) (a b : Clock) where
  found_flip : (w v : When) (m : ℕ → Held) → FoundBoth of a b w v m → FoundBoth (opposite of) b a v w m
  found_flip w v m found = record {
    first = found.second;
    second = found.first;
    finds_first = found.finds_second;
    finds_second = found.finds_first;
    map = λ n. found.map n ∙ chosen (of n) (found.second n) (found.first n);
  }

  -- so many operations of each
  owns : (P : ℕ → ℕ → Type 0) (k : ℕ) → P (own true course k) (own false course k) → P (own false (flip course) k) (own true (flip course) k)
  owns P k is = subst (λ (n : ℕ). P n (own true (flip course) k)) (sym (own_flip true course k)) (subst (λ (n : ℕ). P (own true course k) n) (sym (own_flip false course k)) is)

  cut_by : (k : ℕ) (m : ℕ → Held) (q : Bool)
      → FoundBoth of a b (if q then After (own false course k) else CutIn (own false course k)) (if q then CutIn (own true course k) else After (own true course k)) m
      → FoundBoth (opposite of) b a (if not q then After (own false (flip course) k) else CutIn (own false (flip course) k)) (if not q then CutIn (own true (flip course) k) else After (own true (flip course) k)) m
  cut_by k m true found = owns (λ x y. FoundBoth (opposite of) b a (CutIn x) (After y) m) k (found_flip (After (own false course k)) (CutIn (own true course k)) m found)
  cut_by k m false found = owns (λ x y. FoundBoth (opposite of) b a (After x) (CutIn y) m) k (found_flip (CutIn (own false course k)) (After (own true course k)) m found)

  may_flip : (w : When) (m : ℕ → Held) → (clock_both of course a b).may_find w m → (clock_both (opposite of) (flip course) b a).may_find w m
  may_flip (After k) m finds = record {
    small = finds.small;
    made = (let same = length_flip course in let few = finds.made in omega (arith, same, few));
    found = owns (λ x y. FoundBoth (opposite of) b a (After x) (After y) m) k (found_flip (After (own false course k)) (After (own true course k)) m finds.found);
  }
  may_flip (CutIn k) m finds = record { small = finds.small; second = not finds.second; is = get_flip course k finds.second finds.is; found = cut_by k m finds.second finds.found }

  reach_flip : (k : ℕ) → reach (flip course) k ≡ reach course k
  reach_flip k = ap (λ (n : ℕ). if nat_lt k last_count then k else n) (length_flip course)

  flips : Leads (clock_both of course a b) (clock_both (opposite of) (flip course) b a)
  flips = record {
    may_find = may_flip;
    off_in = λ k out. record {
      small = out.small;
      second = not out.second;
      is = get_flip course k out.second out.is;
      off = owns (λ x y. IfElse (not out.second) (a.off_in y) (b.off_in x)) k (if_flip out.second (b.off_in (own true course k)) (a.off_in (own false course k)) out.off);
    };
    failed = λ k out. record {
      small = out.small;
      second = not out.second;
      is = get_flip course k out.second out.is;
      failed = owns (λ x y. IfElse (not out.second) (a.failed y) (b.failed x)) k (if_flip out.second (b.failed (own true course k)) (a.failed (own false course k)) out.failed);
    };
    worn = λ k n urgent out. record {
      moment = out.moment;
      by_then = (let early = out.by_then in let same = ap (own (not (of n)) (flip course)) (reach_flip k) ∙ own_flip (of n) course (reach course k) in omega (arith, early, same));
      is = if_flip (of n) (b.worn out.moment n urgent) (a.worn out.moment n urgent) out.is;
    };
  }

-- and back
flips_back : (of : ℕ → Bool) (course : List Bool) (a b : Clock) → Leads (clock_both (opposite of) (flip course) b a) (clock_both of course a b)
flips_back of course a b =
    subst (λ (o : ℕ → Bool). Leads (clock_both (opposite of) (flip course) b a) (clock_both o course a b)) (opposite_twice of)
    (subst (λ (cs : List Bool). Leads (clock_both (opposite of) (flip course) b a) (clock_both (opposite (opposite of)) cs a b)) (flip_twice course) (flips (opposite of) (flip course) b a))

-- A TURN OF THE SECOND DEVICE
module _ (answer : DeviceTurn) (a : DeviceTold) (ca : Clock) (b : DeviceTold) (cb : Clock) (bnew : DeviceTold) (cb_new : Clock) (course next : List Bool) (last last_new : Bool)
    (pair : ArePair a b) (is : IsCourse a b course) (goes : Goes true b.ops bnew.ops course next) (order : InOrder a ca) where
  abbrev of : ℕ → Bool
  of = is_second b.fixed.numbers

  abbrev from : Clock
  from = clock_both of course ca cb

  abbrev to : Clock
  to = clock_both of next ca cb_new

  there : IsCourse b a (flip course)
  there = course_flip a b course is

  moves : Goes false b.ops bnew.ops (flip course) (flip next)
  moves = goes_flip b.ops bnew.ops course next goes

  same_get : (k : ℕ) → k < length course → slice_get next k ≡ slice_get course k
  same_get k lt = elim goes.one [
    | inl still ↦ ap (λ cs. slice_get cs k) still.1
    | inr more ↦ ap (λ cs. slice_get cs k) more.1 ∙ get_front course true k lt
  ]

  first_same : (k : ℕ) → k ≤ length course → own false next k ≡ own false course k
  first_same k le = elim goes.one [
    | inl still ↦ ap (λ cs. own false cs k) still.1
    | inr more ↦ ap (λ cs. own false cs k) more.1 ∙ own_front false course true k le
  ]

  before : (k : ℕ) → min (length course) last_count ≤ k → min (length (flip course)) last_count ≤ k
  before k le = let same = length_flip course in omega (arith, same, le)

  behind : (k : ℕ) → k < min (length next) last_count → k < min (length (flip next)) last_count
  behind k lt = let same = length_flip next in omega (arith, same, lt)

  earlier : (k : ℕ) → k < min (length course) last_count → k < min (length (flip course)) last_count
  earlier k lt = let same = length_flip course in omega (arith, same, lt)

  module _ (ticks : Ticks First answer b cb bnew cb_new) where
    past : Past (min (length (flip course)) last_count) (clock_both (opposite of) (flip course) cb ca) (clock_both (opposite of) (flip next) cb_new ca)
    past = first_past (opposite of) b cb bnew cb_new a ca (flip course) (flip next) there moves ticks.past

    -- its operation is no one of the first device
    second_now : (k : ℕ) → min (length (flip course)) last_count ≤ k → k < min (length (flip next)) last_count → slice_get next k ≡ Some false → ⊥
    second_now k le lt first =
        let now = is_now (opposite of) b cb bnew cb_new a ca (flip course) (flip next) there moves ticks.past k le lt in
        let second : slice_get next k ≡ Some true = subst (λ (cs : List Bool). slice_get cs k ≡ Some true) (flip_twice next) (get_flip (flip next) k false now.last) in cc (first, second)

    second_past : Past (min (length course) last_count) from to
    second_past = record {
      after = λ k m le finds. (flips_back of course ca cb).may_find (After k) m (past.after k m (let same = length_flip course in omega (arith, same, le)) ((flips of next ca cb_new).may_find (After k) m finds));
      cut = λ k m lt finds. (flips_back of course ca cb).may_find (CutIn k) m (past.cut k m (earlier k lt) ((flips of next ca cb_new).may_find (CutIn k) m finds));
      failed = λ k lt. (
        λ out. (flips_back of course ca cb).failed k ((past.failed k (earlier k lt)).0 ((flips of next ca cb_new).failed k out)),
        λ out. (flips_back of next ca cb_new).failed k ((past.failed k (earlier k lt)).1 ((flips of course ca cb).failed k out)),
      );
      worn = λ k n urgent le worn. (flips_back of next ca cb_new).worn k n urgent (past.worn k n urgent (let same = length_flip course in omega (arith, same, le)) ((flips of course ca cb).worn k n urgent worn));
      of_second = λ k lt. let same = same_get k (omega (arith, lt)) in (λ one. record { small = one.small; is = sym same ∙ one.is }, λ one. record { small = one.small; is = same ∙ one.is });
      spare = λ k s le out. let few : k ≤ length course = omega (arith, le) in record { small = out.small; made = few; spare = subst (λ (n : ℕ). ca.spare n s) (first_same k few) out.spare };
      was = λ t k lt out. let few : k < length course = omega (arith, lt) in record { small = out.small; is = sym (same_get k few) ∙ out.is; was = subst (λ (n : ℕ). ca.was t n) (first_same k (omega (arith, few))) out.was };
    }

    second_off : (k : ℕ) → to.off_in k → (from.off_in k × ((k < min (length course) last_count) ⊎ (last_count ≤ k))) ⊎ GoesOff answer (min (length course) last_count) (min (length next) last_count) k
    second_off k out = elim (first_off (opposite of) b cb bnew cb_new a ca (flip course) (flip next) there moves ticks.past answer ticks.off k ((flips of next ca cb_new).off_in k out)) [
      | inl old ↦ inl ((flips_back of course ca cb).off_in k old.0, elim old.1 [ inl lt ↦ inl (let same = length_flip course in omega (arith, same, lt)) | inr end ↦ inr end ])
      | inr goes_off ↦ inr (subst (λ (n : ℕ). GoesOff answer (min n last_count) (min (length next) last_count) k) (length_flip course) (subst (λ (n : ℕ). GoesOff answer (min (length (flip course)) last_count) (min n last_count) k) (length_flip next) goes_off))
    ]

    ticks_there : Ticks Second answer (told_both a b last course) from (told_both a bnew last_new next) to
    ticks_there = record {
      past = second_past;
      cut = λ k m le lt finds.
          let now = is_now (opposite of) b cb bnew cb_new a ca (flip course) (flip next) there moves ticks.past k (before k le) (behind k lt) in
          let found = first_cut (opposite of) b cb bnew cb_new a ca (flip course) (flip next) there moves ticks.past k m (before k le) (behind k lt) ((flips of next ca cb_new).may_find (CutIn k) m finds) in
          possible_both a b last course a.slots b.slots found.second found.first m pair
          (order.now found.second found.finds_second)
          (ticks.cut b.ops found.first (omega arith) (let rose = now.rose in omega (arith, rose)) found.finds_first)
          (λ n. found.map n ∙ sym (chosen (of n) (found.first n) (found.second n)));
      off = second_off;
      failed = λ k le lt out.
          let now = is_now (opposite of) b cb bnew cb_new a ca (flip course) (flip next) there moves ticks.past k (before k le) (behind k lt) in
          ticks.failed b.ops (omega arith) (let rose = now.rose in omega (arith, rose)) (first_failed (opposite of) b cb bnew cb_new a ca (flip course) (flip next) there moves ticks.past k (before k le) (behind k lt) ((flips of next ca cb_new).failed k out));
      kept = λ k le lt out. absurd (second_now k (before k le) (behind k lt) out.is);
      part = λ k le lt.
          let now = is_now (opposite of) b cb bnew cb_new a ca (flip course) (flip next) there moves ticks.past k (before k le) (behind k lt) in
          (λ one. refl, λ same. record { small = now.small; is = subst (λ (cs : List Bool). slice_get cs k ≡ Some true) (flip_twice next) (get_flip (flip next) k false now.last) });
    }

pub second_ticks : (answer : DeviceTurn) (a : DeviceTold) (ca : Clock) (b : DeviceTold) (cb : Clock) (b_new : DeviceTold) (cb_new : Clock) → InOrder a ca → SecondTicks answer a ca b cb b_new cb_new
second_ticks answer a ca b cb b_new cb_new order course next last last_new pair is goes fixed ticks =
    subst (λ (f : Fixed). Ticks Second answer (told_both a b last course) (pair_clock ca b cb course) (told_both a b_new last_new next) (clock_both (is_second f.numbers) next ca cb_new)) (sym fixed)
    (ticks_there answer a ca b cb b_new cb_new course next last last_new pair is goes order ticks)
