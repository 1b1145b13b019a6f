-- What a turn of the first device tells by its clock, the pair tells by its own.
use Rattle.std.specs.Prelude.{slice_get, min, nat_lt}
use Rattle.std.proofs.Common.{◌≡◌, ◌↔◌, ◌⊎◌, ℕ, ◌+◌, ◌<◌, ◌≤◌, Bool, true, false, if◌then◌else◌, List, length, Option, Some, refl, sym, ap, ◌∙◌, subst, inl, inr, arith}
use Rattle.std.proofs.lemmas.Bool.{cases_lt}
use Rattle.nv_base.specs.Count.{last_count}
use Rattle.memif.specs.declared.answer.DeviceTurn.{DeviceTurn}
use Rattle.memif.specs.declared.answer.DeviceTurn.TheVariants.{Idle, Worked, Off}
use Rattle.memif.specs.Told.{DeviceTold, Held, First, Second, IfElse}
use Rattle.memif.specs.Clock.{Clock, SameClock, Past, When, After, CutIn, GoesOff, Trait}
use Rattle.memif_pair.specs.PairClock.{own, IsCourse, FoundBoth, FindsAfterBoth, FindsCutBoth, may_find_both, OffBoth, FailedBoth, WornBoth, OfSecond, SpareBoth, WasBoth, reach, clock_both}
use Rattle.memif_pair.specs.Laws.{Goes}
use Rattle.memif_pair.proofs.Courses.{own_few, own_front, own_push, own_grows, own_most, own_within, within, get_front, get_last, length_push}

module _ (of : ℕ → Bool) (a : DeviceTold) (ca : Clock) (anew : DeviceTold) (ca_new : Clock) (b : DeviceTold) (cb : Clock) (course next : List Bool)
    (is : IsCourse a b course) (goes : Goes false a.ops anew.ops course next) (past : Past a.ops ca ca_new) where
  -- the moments before are the same
  same_own : (p : Bool) (k : ℕ) → k ≤ length course → own p next k ≡ own p course k
  same_own p k le = elim goes.one [
    | inl still ↦ ap (λ cs. own p cs k) still.1
    | inr more ↦ ap (λ cs. own p cs k) more.1 ∙ own_front p course false k le
  ]

  same_get : (k : ℕ) → k < length course → slice_get next k ≡ slice_get course k
  same_get k lt = elim goes.one [
    | inl still ↦ ap (λ cs. slice_get cs k) still.1
    | inr more ↦ ap (λ cs. slice_get cs k) more.1 ∙ get_front course false k lt
  ]

  longer : length course ≤ length next
  longer = elim goes.one [
    | inl still ↦ (let e = ap length still.1 in omega (arith, e))
    | inr more ↦ (let e = ap length more.1 in let l = length_push course false in omega (arith, e, l))
  ]

  most_first : (k : ℕ) → own false course k ≤ a.ops
  most_first k = let most = own_most false course k in let all = is.first in omega (arith, most, all)

  past_after : (k : ℕ) (m : ℕ → Held) → k ≤ min (length course) last_count → FindsAfterBoth of next ca_new cb k m → FindsAfterBoth of course ca cb k m
  past_after k m le finds =
      let few : k ≤ length course = omega (arith, le) in
      let first : own false next k ≡ own false course k = same_own false k few in
      let second : own true next k ≡ own true course k = same_own true k few in
      record {
        small = finds.small;
        made = few;
        found = record {
          first = finds.found.first;
          second = finds.found.second;
          finds_first = past.after (own false course k) finds.found.first (most_first k)
              (subst (λ (n : ℕ). ca_new.may_find (After n) finds.found.first) first finds.found.finds_first);
          finds_second = subst (λ (n : ℕ). cb.may_find (After n) finds.found.second) second finds.found.finds_second;
          map = finds.found.map;
        };
      }

  past_cut_by : (k : ℕ) (m : ℕ → Held) (q : Bool) → k < length course → slice_get course k ≡ Some q
      → FoundBoth of ca_new cb (if q then After (own false next k) else CutIn (own false next k)) (if q then CutIn (own true next k) else After (own true next k)) m
      → FoundBoth of ca cb (if q then After (own false course k) else CutIn (own false course k)) (if q then CutIn (own true course k) else After (own true course k)) m
  past_cut_by k m true lt at found =
      let first : own false next k ≡ own false course k = same_own false k (omega (arith, lt)) in
      let second : own true next k ≡ own true course k = same_own true k (omega (arith, lt)) in
      record {
        first = found.first;
        second = found.second;
        finds_first = past.after (own false course k) found.first (most_first k) (subst (λ (n : ℕ). ca_new.may_find (After n) found.first) first found.finds_first);
        finds_second = subst (λ (n : ℕ). cb.may_find (CutIn n) found.second) second found.finds_second;
        map = found.map;
      }
  past_cut_by k m false lt at found =
      let first : own false next k ≡ own false course k = same_own false k (omega (arith, lt)) in
      let second : own true next k ≡ own true course k = same_own true k (omega (arith, lt)) in
      let early : own false course k < a.ops = (let less = own_within false course k false at refl in let all = is.first in omega (arith, less, all)) in
      record {
        first = found.first;
        second = found.second;
        finds_first = past.cut (own false course k) found.first early (subst (λ (n : ℕ). ca_new.may_find (CutIn n) found.first) first found.finds_first);
        finds_second = subst (λ (n : ℕ). cb.may_find (After n) found.second) second found.finds_second;
        map = found.map;
      }

  past_cut : (k : ℕ) (m : ℕ → Held) → k < min (length course) last_count → FindsCutBoth of next ca_new cb k m → FindsCutBoth of course ca cb k m
  past_cut k m lt finds =
      let few : k < length course = omega (arith, lt) in
      let at : slice_get course k ≡ Some finds.second = sym (same_get k few) ∙ finds.is in
      record { small = finds.small; second = finds.second; is = at; found = past_cut_by k m finds.second few at finds.found }

  own_next : (p : Bool) (k : ℕ) → own p course (reach course k) ≤ own p next (reach next k)
  own_next p k = elim (cases_lt k last_count) [
    | inl small ↦ by (nat_lt k last_count)
    | inr large ↦ by (nat_lt k last_count)
  ]
    where
      all : own p course (length course) ≤ own p next (length next)
      all = elim goes.one [
        | inl still ↦ (let e = ap (λ cs. own p cs (length cs)) still.1 in omega (arith, e))
        | inr more ↦ (let e = ap (λ cs. own p cs (length cs)) more.1 in let push = own_push p course false in omega (arith, e, push))
      ]

      some : (k : ℕ) → own p course k ≤ own p next k
      some k = elim goes.one [
        | inl still ↦ (let e = ap (λ cs. own p cs k) still.1 in omega (arith, e))
        | inr more ↦ elim (cases_lt (length course) k) [
          | inl beyond ↦
              let e = ap (λ cs. own p cs (length course)) more.1 in
              let front = own_front p course false (length course) (omega arith) in
              let grows = own_grows p next (length course) k (omega (arith, beyond)) in
              let most = own_most p course k in
              omega (arith, e, front, grows, most)
          | inr early ↦
              let e = ap (λ cs. own p cs k) more.1 in
              let front = own_front p course false k early in
              omega (arith, e, front)
        ]
      ]

      by : (t : Bool) → own p course (if t then k else length course) ≤ own p next (if t then k else length next)
      by true = some k
      by false = all

  past_worn : (k n : ℕ) (urgent : Bool) → WornBoth of course ca cb k n urgent → WornBoth of next ca_new cb k n urgent
  past_worn k n urgent worn = record {
    moment = worn.moment;
    by_then = (let more = own_next (of n) k in let early = worn.by_then in omega (arith, more, early));
    is = moved (of n) worn.by_then worn.is;
  }
    where
      moved : (t : Bool) → worn.moment ≤ own t course (reach course k) → IfElse t (cb.worn worn.moment n urgent) (ca.worn worn.moment n urgent)
          → IfElse t (cb.worn worn.moment n urgent) (ca_new.worn worn.moment n urgent)
      moved true early out = out
      moved false early out = past.worn worn.moment n urgent (let most = most_first (reach course k) in omega (arith, early, most)) out

  past_second : (k : ℕ) → k < min (length course) last_count → (OfSecond next k → OfSecond course k) × (OfSecond course k → OfSecond next k)
  past_second k lt =
      let same = same_get k (omega (arith, lt)) in
      (λ one. record { small = one.small; is = sym same ∙ one.is }, λ one. record { small = one.small; is = same ∙ one.is })

  -- an operation from before failed by the new clock where it did by the old one
  failed_by : (q : Bool) (k : ℕ) → k < length course → slice_get course k ≡ Some q → IfElse q (cb.failed (own true course k)) (ca.failed (own false course k)) ↔ IfElse q (cb.failed (own true next k)) (ca_new.failed (own false next k))
  failed_by true k lt at = let same = same_own true k (omega (arith, lt)) in (λ out. subst (λ (n : ℕ). cb.failed n) (sym same) out, λ out. subst (λ (n : ℕ). cb.failed n) same out)
  failed_by false k lt at =
      let same : own false next k ≡ own false course k = same_own false k (omega (arith, lt)) in
      let early : own false course k < a.ops = (let less = own_within false course k false at refl in let all = is.first in omega (arith, less, all)) in
      let alike = past.failed (own false course k) early in
      (λ out. subst (λ (n : ℕ). ca_new.failed n) (sym same) (alike.1 out), λ out. alike.0 (subst (λ (n : ℕ). ca_new.failed n) same out))

  past_failed : (k : ℕ) → k < min (length course) last_count → FailedBoth next ca_new cb k ↔ FailedBoth course ca cb k
  past_failed k lt =
      let few : k < length course = omega (arith, lt) in
      let same = same_get k few in (
        λ out. let at : slice_get course k ≡ Some out.second = sym same ∙ out.is in record { small = out.small; second = out.second; is = at; failed = (failed_by out.second k few at).1 out.failed },
        λ out. record { small = out.small; second = out.second; is = same ∙ out.is; failed = (failed_by out.second k few out.is).0 out.failed },
      )

  -- a free page, and what an operation was, as the first device tells it
  past_spare : (k s : ℕ) → k ≤ min (length course) last_count → SpareBoth next ca_new k s → SpareBoth course ca k s
  past_spare k s le out =
      let few : k ≤ length course = omega (arith, le) in
      record { small = out.small; made = few; spare = past.spare (own false course k) s (most_first k) (subst (λ (n : ℕ). ca_new.spare n s) (same_own false k few) out.spare) }

  past_was : (t : Trait) (k : ℕ) → k < min (length course) last_count → WasBoth next ca_new t k → WasBoth course ca t k
  past_was t k lt out =
      let few : k < length course = omega (arith, lt) in
      let at : slice_get course k ≡ Some false = sym (same_get k few) ∙ out.is in
      let early : own false course k < a.ops = (let less = own_within false course k false at refl in let all = is.first in omega (arith, less, all)) in
      record { small = out.small; is = at; was = past.was t (own false course k) early (subst (λ (n : ℕ). ca_new.was t n) (same_own false k (omega (arith, few))) out.was) }

  pub first_past : Past (min (length course) last_count) (clock_both of course ca cb) (clock_both of next ca_new cb)
  first_past = record { after = past_after; cut = past_cut; failed = past_failed; worn = λ k n urgent le. past_worn k n urgent; of_second = past_second; spare = past_spare; was = past_was }

  -- THE OPERATION OF THIS TURN
  same_bool : (p q : Bool) → ◌≡◌ {A = Option Bool} (Some p) (Some q) → p ≡ q
  same_bool p q same = cc

  -- it is the last one, and the first device's
  pub record IsNow (k : ℕ) : Type 0 where
    pub at : k ≡ length course
    pub small : k < last_count
    pub rose : anew.ops ≡ a.ops + 1
    pub last : slice_get next k ≡ Some false

  pub is_now : (k : ℕ) → min (length course) last_count ≤ k → k < min (length next) last_count → IsNow k
  is_now k le lt = elim goes.one [
    | inl still ↦ absurd (let e = ap length still.1 in omega (arith, e, le, lt))
    | inr more ↦
        let e = ap length more.1 in
        let l = length_push course false in
        let here : k ≡ length course = omega (arith, e, l, le, lt) in
        record {
          at = here;
          small = omega (arith, lt);
          rose = more.0;
          last = ap (λ (n : ℕ). slice_get next n) here ∙ (ap (λ cs. slice_get cs (length course)) more.1 ∙ get_last course false);
        }
  ]

  none_second : (k : ℕ) → IsNow k → OfSecond next k → ⊥
  none_second k now one = (let wrong : false ≡ true = same_bool false true (sym now.last ∙ one.is) in cc)

  pub first_part : (k : ℕ) → min (length course) last_count ≤ k → k < min (length next) last_count → (OfSecond next k → First ≡ Second) × (First ≡ Second → OfSecond next k)
  first_part k le lt = (λ one. absurd (none_second k (is_now k le lt) one), λ wrong. cc)

  -- what a cut in it leaves of both: the first device's cut, and the second as it is
  pub first_cut : (k : ℕ) (m : ℕ → Held) → min (length course) last_count ≤ k → k < min (length next) last_count → FindsCutBoth of next ca_new cb k m
      → FoundBoth of ca_new cb (CutIn a.ops) (After b.ops) m
  first_cut k m le lt finds =
      let now = is_now k le lt in
      let q : finds.second ≡ false = same_bool finds.second false (sym finds.is ∙ now.last) in
      let few : length course ≤ length course = omega arith in
      let first : own false next k ≡ a.ops = ap (own false next) now.at ∙ (same_own false (length course) few ∙ is.first) in
      let second : own true next k ≡ b.ops = ap (own true next) now.at ∙ (same_own true (length course) few ∙ is.second) in
      let found : FoundBoth of ca_new cb (CutIn (own false next k)) (After (own true next k)) m =
      subst (λ (t : Bool). FoundBoth of ca_new cb (if t then After (own false next k) else CutIn (own false next k)) (if t then CutIn (own true next k) else After (own true next k)) m) q finds.found in
      subst (λ (n : ℕ). FoundBoth of ca_new cb (CutIn a.ops) (After n) m) second (subst (λ (n : ℕ). FoundBoth of ca_new cb (CutIn n) (After (own true next k)) m) first found)

  -- where it failed, the first device says so of it
  pub first_failed : (k : ℕ) → min (length course) last_count ≤ k → k < min (length next) last_count → FailedBoth next ca_new cb k → ca_new.failed a.ops
  first_failed k le lt out =
      let now = is_now k le lt in
      let first : own false next k ≡ a.ops = ap (own false next) now.at ∙ (same_own false (length course) (omega arith) ∙ is.first) in
      by out.second (same_bool out.second false (sym out.is ∙ now.last)) (subst (λ (n : ℕ). IfElse out.second (cb.failed (own true next k)) (ca_new.failed n)) first out.failed)
    where
      by : (q : Bool) → q ≡ false → IfElse q (cb.failed (own true next k)) (ca_new.failed a.ops) → ca_new.failed a.ops
      by true same out = cc
      by false same out = out

  -- what it was
  pub first_was : (t : Trait) (k : ℕ) → min (length course) last_count ≤ k → k < min (length next) last_count → WasBoth next ca_new t k → ca_new.was t a.ops
  first_was t k le lt out =
      let now = is_now k le lt in
      let first : own false next k ≡ a.ops = ap (own false next) now.at ∙ (same_own false (length course) (omega arith) ∙ is.first) in
      subst (λ (n : ℕ). ca_new.was t n) first out.was

  -- WHERE THE POWER WENT OFF
  module _ (answer : DeviceTurn) (off : (k : ℕ) → ca_new.off_in k → (ca.off_in k × ((k < a.ops) ⊎ (last_count ≤ k))) ⊎ GoesOff answer a.ops anew.ops k) where
    not_earlier : (x : DeviceTurn) (j : ℕ) → j < a.ops → GoesOff x a.ops anew.ops j → ⊥
    not_earlier Off j lt goes_off = omega (arith, lt, goes_off.0)
    not_earlier Idle j lt goes_off = goes_off
    not_earlier Worked j lt goes_off = goes_off

    now_off : (x : DeviceTurn) (k j : ℕ) → IsNow k → GoesOff x a.ops anew.ops j → GoesOff x (min (length course) last_count) (min (length next) last_count) k
    now_off Off k j now goes_off =
        let lt : k < min (length next) last_count = (let l = within next k false now.last in let s = now.small in omega (arith, l, s)) in
        (let at = now.at in let s = now.small in omega (arith, at, s), lt)
    now_off Idle k j now goes_off = absurd goes_off
    now_off Worked k j now goes_off = absurd goes_off

    before_by : (k : ℕ) (q : Bool) → k < length course → k < last_count → slice_get course k ≡ Some q
        → IfElse q (cb.off_in (own true next k)) (ca_new.off_in (own false next k)) → OffBoth course ca cb k
    before_by k true lt small at out = record {
      small = small;
      second = true;
      is = at;
      off = subst (λ (n : ℕ). cb.off_in n) (same_own true k (omega (arith, lt))) out;
    }
    before_by k false lt small at out =
        let early : own false course k < a.ops = (let less = own_within false course k false at refl in let all = is.first in omega (arith, less, all)) in
        let there : ca_new.off_in (own false course k) = subst (λ (n : ℕ). ca_new.off_in n) (same_own false k (omega (arith, lt))) out in
        record {
          small = small;
          second = false;
          is = at;
          off = elim (off (own false course k) there) [ inl before ↦ before.0 | inr goes_off ↦ absurd (not_earlier answer (own false course k) early goes_off) ];
        }

    now_by : (k : ℕ) (q : Bool) → IsNow k → q ≡ false → IfElse q (cb.off_in (own true next k)) (ca_new.off_in (own false next k))
        → GoesOff answer (min (length course) last_count) (min (length next) last_count) k
    now_by k true now same out = cc
    now_by k false now same out =
        let first : own false next k ≡ a.ops = ap (own false next) now.at ∙ (same_own false (length course) (omega arith) ∙ is.first) in
        elim (off (own false next k) out) [
          | inl before ↦ absurd (let few = own_few false course (length course) in let all = is.first in let at = now.at in let small = now.small in elim before.1 [ inl lt ↦ omega (arith, lt, first) | inr last ↦ omega (arith, last, first, few, all, at, small) ])
          | inr goes_off ↦ now_off answer k (own false next k) now goes_off
        ]

    pub first_off : (k : ℕ) → OffBoth next ca_new cb k → (OffBoth course ca cb k × ((k < min (length course) last_count) ⊎ (last_count ≤ k))) ⊎ GoesOff answer (min (length course) last_count) (min (length next) last_count) k
    first_off k out = elim (cases_lt k (length course)) [
      | inl before ↦ inl (before_by k out.second before out.small (sym (same_get k before) ∙ out.is) out.off, inl (let s = out.small in omega (arith, before, s)))
      | inr behind ↦
          let l = within next k out.second out.is in
          let now = is_now k (omega (arith, behind)) (let s = out.small in omega (arith, l, s)) in
          inr (now_by k out.second now (same_bool out.second false (sym out.is ∙ now.last)) out.off)
    ]

-- NOTHING WAS DONE
module _ (of : ℕ → Bool) (course : List Bool) (ca ca_new cb cb_new : Clock) where
  finds_same : ((w : When) (m : ℕ → Held) → ca.may_find w m → ca_new.may_find w m) → ((w : When) (m : ℕ → Held) → cb.may_find w m → cb_new.may_find w m)
      → (w v : When) (m : ℕ → Held) → FoundBoth of ca cb w v m → FoundBoth of ca_new cb_new w v m
  finds_same more other w v m found = record { first = found.first; second = found.second; finds_first = more w found.first found.finds_first; finds_second = other v found.second found.finds_second; map = found.map }

  may_same : ((w : When) (m : ℕ → Held) → ca.may_find w m → ca_new.may_find w m) → ((w : When) (m : ℕ → Held) → cb.may_find w m → cb_new.may_find w m)
      → (w : When) (m : ℕ → Held) → may_find_both of course ca cb w m → may_find_both of course ca_new cb_new w m
  may_same more other (After k) m finds = record { small = finds.small; made = finds.made; found = finds_same more other (After (own false course k)) (After (own true course k)) m finds.found }
  may_same more other (CutIn k) m finds = record {
    small = finds.small;
    second = finds.second;
    is = finds.is;
    found = finds_same more other (if finds.second then After (own false course k) else CutIn (own false course k)) (if finds.second then CutIn (own true course k) else After (own true course k)) m finds.found;
  }

  off_same : ((k : ℕ) → ca.off_in k → ca_new.off_in k) → ((k : ℕ) → cb.off_in k → cb_new.off_in k) → (k : ℕ) → OffBoth course ca cb k → OffBoth course ca_new cb_new k
  off_same more other k out = record { small = out.small; second = out.second; is = out.is; off = by out.second out.off }
    where
      by : (q : Bool) → IfElse q (cb.off_in (own true course k)) (ca.off_in (own false course k)) → IfElse q (cb_new.off_in (own true course k)) (ca_new.off_in (own false course k))
      by true off = other (own true course k) off
      by false off = more (own false course k) off

  failed_same : ((k : ℕ) → ca.failed k → ca_new.failed k) → ((k : ℕ) → cb.failed k → cb_new.failed k) → (k : ℕ) → FailedBoth course ca cb k → FailedBoth course ca_new cb_new k
  failed_same more other k out = record { small = out.small; second = out.second; is = out.is; failed = by out.second out.failed }
    where
      by : (q : Bool) → IfElse q (cb.failed (own true course k)) (ca.failed (own false course k)) → IfElse q (cb_new.failed (own true course k)) (ca_new.failed (own false course k))
      by true out = other (own true course k) out
      by false out = more (own false course k) out

  worn_same : ((k n : ℕ) (urgent : Bool) → ca.worn k n urgent → ca_new.worn k n urgent) → ((k n : ℕ) (urgent : Bool) → cb.worn k n urgent → cb_new.worn k n urgent)
      → (k n : ℕ) (urgent : Bool) → WornBoth of course ca cb k n urgent → WornBoth of course ca_new cb_new k n urgent
  worn_same more other k n urgent out = record { moment = out.moment; by_then = out.by_then; is = by (of n) out.is }
    where
      by : (q : Bool) → IfElse q (cb.worn out.moment n urgent) (ca.worn out.moment n urgent) → IfElse q (cb_new.worn out.moment n urgent) (ca_new.worn out.moment n urgent)
      by true is = other out.moment n urgent is
      by false is = more out.moment n urgent is

pub same_both : (of : ℕ → Bool) (course : List Bool) (ca ca_new cb cb_new : Clock) → SameClock ca ca_new → SameClock cb cb_new → SameClock (clock_both of course ca cb) (clock_both of course ca_new cb_new)
same_both of course ca ca_new cb cb_new same other = record {
  may_find = λ w m. (may_same of course ca_new ca cb_new cb (λ v x. (same.may_find v x).0) (λ v x. (other.may_find v x).0) w m, may_same of course ca ca_new cb cb_new (λ v x. (same.may_find v x).1) (λ v x. (other.may_find v x).1) w m);
  off_in = λ k. (off_same of course ca_new ca cb_new cb (λ j. (same.off_in j).0) (λ j. (other.off_in j).0) k, off_same of course ca ca_new cb cb_new (λ j. (same.off_in j).1) (λ j. (other.off_in j).1) k);
  failed = λ k. (failed_same of course ca_new ca cb_new cb (λ j. (same.failed j).0) (λ j. (other.failed j).0) k, failed_same of course ca ca_new cb cb_new (λ j. (same.failed j).1) (λ j. (other.failed j).1) k);
  worn = λ k n urgent. (worn_same of course ca_new ca cb_new cb (λ j x b. (same.worn j x b).0) (λ j x b. (other.worn j x b).0) k n urgent, worn_same of course ca ca_new cb cb_new (λ j x b. (same.worn j x b).1) (λ j x b. (other.worn j x b).1) k n urgent);
  of_second = λ k. (λ is. is, λ is. is);
  spare = λ k s. (
    λ out. record { small = out.small; made = out.made; spare = (same.spare (own false course k) s).0 out.spare },
    λ out. record { small = out.small; made = out.made; spare = (same.spare (own false course k) s).1 out.spare },
  );
  was = λ t k. (
    λ out. record { small = out.small; is = out.is; was = (same.was t (own false course k)).0 out.was },
    λ out. record { small = out.small; is = out.is; was = (same.was t (own false course k)).1 out.was },
  );
}

pub same_self : (c : Clock) → SameClock c c
same_self c = record {
  may_find = λ w m. (λ is. is, λ is. is);
  off_in = λ k. (λ is. is, λ is. is);
  failed = λ k. (λ is. is, λ is. is);
  worn = λ k n urgent. (λ is. is, λ is. is);
  of_second = λ k. (λ is. is, λ is. is);
  spare = λ k s. (λ is. is, λ is. is);
  was = λ t k. (λ is. is, λ is. is);
}
