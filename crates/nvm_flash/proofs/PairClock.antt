-- The clock of a device over a flash and an EEPROM joins those of its parts.
use Rattle.std.specs.Prelude.{slice_get, min, nat_lt, if◌then◌else◌}
use Rattle.std.proofs.Common.{◌≡◌, ◌⊎◌, ◌≤◌, ◌<◌, ◌+◌, ℕ, zero, suc, Bool, true, false, List, [], ◌∷◌, length, Option, Some, None, refl, sym, ap, ◌∙◌, subst, inl, inr, arith}
use Rattle.std.proofs.lemmas.Bool.{cases_lt, lt-ltb}
use Rattle.memif_fee_ea.specs.fee_core.memif.Told.{DeviceTold, Held, IfElse}
use Rattle.memif_fee_ea.specs.fee_core.memif.Clock.{Clock, Trait, After, CutIn}
use Rattle.memif_fee_ea.specs.fee_core.nv_base.Count.{last_count}
use Rattle.memif_fee_ea.specs.memif_pair.Pair.{told_both}
use Rattle.memif_fee_ea.specs.memif_pair.PairClock.{IsCourse, WornBoth, clock_both, one_if, own, reach}
use Rattle.memif_fee_ea.proofs.Courses.{own_both, own_few, own_grows, own_most, own_step, within}
use Rattle.promise_run.specs.OwnOperations.{CountsPart}
use Rattle.promise_run.specs.ClocksOfBoth.{JoinsClocks}
use Rattle.promise_run.specs.HalvesOfBoth.{JoinsMaps, joined}
use Rattle.memif_fee_ea.specs.fee_core.fls_model.Told.{Change}
use Rattle.memif_fee_ea.specs.fee_core.fls_told.Clock.{off_in_of}
use Rattle.memif_fee_ea.specs.fee_core.fls_told.Device.{FlashDevice, asked_ops}
use Rattle.memif_fee_ea.specs.fee_core.fee_told.Device as fee
use Rattle.memif_fee_ea.specs.fee_core.Tells.{told_clock}
use Rattle.memif_fee_ea.specs.ea_slots.ea_told.Device as slots
use Rattle.memif_fee_ea.specs.ea_slots.Whole as ea
use Rattle.nvm_flash.specs.PairClock.{until_end, TellsOffs, ClocksJoin, MapsJoin, BanksTellOffs, SlotsTellOffs, PairsJoin, of_slots, slots_clock}

none_own : (p : Bool) (course : List Bool) → own p course 0 ≡ 0
none_own p [] = refl
none_own p (q ∷ qs) = refl

there_is : (course : List Bool) (k : ℕ) → k < length course → (q : Bool) × (slice_get course k ≡ Some q)
there_is [] k few = absurd (omega (arith, few))
there_is (q ∷ qs) zero few = (q, refl)
there_is (q ∷ qs) (suc k) few = there_is qs k (omega (arith, few))

of_second : (p : Bool) → one_if p true ≡ (if p then 1 else 0)
of_second true = refl
of_second false = refl

of_first : (p : Bool) → one_if p false ≡ (if p then 0 else 1)
of_first true = refl
of_first false = refl

module _ (of : ℕ → Bool) (a b : DeviceTold) (ca cb : Clock) (last : Bool) (course : List Bool) (is : IsCourse a b course) where
  -- an operation that isn't the second one's is the first one's
  at_first : (k : ℕ) → k < min (length course) last_count → k < last_count → ¬ (clock_both of course ca cb).of_second k → slice_get course k ≡ Some false
  at_first k few small apart = by (there_is course k (omega (arith, few)))
    where
      by : (q : Bool) × (slice_get course k ≡ Some q) → slice_get course k ≡ Some false
      by (true, at) = absurd (apart (record { small = small; is = at }))
      by (false, at) = at

  counts : (p : Bool) → CountsPart p (told_both a b last course) (clock_both of course ca cb) (own p course)
  counts p = record {
    none = none_own p course;
    of_second = λ k few small second. own_step p course k true second.is ∙ ap (λ (n : ℕ). own p course k + n) (of_second p);
    of_first = λ k few small apart. own_step p course k false (at_first k few small apart) ∙ ap (λ (n : ℕ). own p course k + n) (of_first p);
  }

  reached : (k : ℕ) → k < last_count → reach course k ≡ k
  reached k small = ap (λ (t : Bool). if t then k else length course) (lt-ltb k last_count small)

  -- behind the last operation the counts stay
  least : (p : Bool) (k : ℕ) → k < last_count → own p course k ≤ own p course (min k (min (length course) last_count))
  least p k small = elim (cases_lt k (length course)) [
    | inl few ↦ let same : min k (min (length course) last_count) ≡ k = omega (arith, few, small) in subst (λ (n : ℕ). own p course k ≤ own p course n) (sym same) (own_grows p course k k (omega arith))
    | inr many ↦ let same : min k (min (length course) last_count) ≡ length course = omega (arith, many, small) in subst (λ (n : ℕ). own p course k ≤ own p course n) (sym same) (own_most p course k)
  ]

  by_then : (p : Bool) (k moment : ℕ) → moment ≤ own p course (reach course k) → k < last_count → moment ≤ own p course (min k (min (length course) last_count))
  by_then p k moment less small =
      let here : moment ≤ own p course k = subst (λ (n : ℕ). moment ≤ own p course n) (reached k small) less in
      let more = least p k small in omega (arith, here, more)

  joins : JoinsClocks of (λ p. own p course) a b (told_both a b last course) ca (until_end cb) (clock_both of course ca cb)
  joins = record {
    ops = let all = own_both course in let one = is.first in let two = is.second in omega (arith, all, one, two);
    counts = counts;
    within = λ k few small. (let most = own_most false course k in let all = is.first in omega (arith, most, all), let most = own_most true course k in let all = is.second in omega (arith, most, all));
    failed_first = λ k few small apart failed. record { small = small; second = false; is = at_first k few small apart; failed = failed };
    failed_second = λ k few small second failed. record { small = small; second = true; is = second.is; failed = failed };
    was = λ t k few small apart was. record { small = small; is = at_first k few small apart; was = was };
    spare = λ k n few small spare. record { small = small; made = omega (arith, few); spare = spare };
    worn_first = λ k n urgent first worn.
        let less : worn.moment ≤ own false course (reach course k) = subst (λ (t : Bool). worn.moment ≤ own t course (reach course k)) first worn.by_then in
        (worn.moment, by_then false k worn.moment less, subst (λ (t : Bool). IfElse t (cb.worn worn.moment n urgent) (ca.worn worn.moment n urgent)) first worn.is);
    worn_second = λ k n urgent second worn.
        let less : worn.moment ≤ own true course (reach course k) = subst (λ (t : Bool). worn.moment ≤ own t course (reach course k)) second worn.by_then in
        (worn.moment, by_then true k worn.moment less, subst (λ (t : Bool). IfElse t (cb.worn worn.moment n urgent) (ca.worn worn.moment n urgent)) second worn.is);
  }

  -- the operation that has this number among those of one of them
  find_own : (p : Bool) (cs : List Bool) (n : ℕ) → n < own p cs (length cs) → (k : ℕ) × (slice_get cs k ≡ Some p) × (own p cs k ≡ n)
  find_own p [] n few = absurd (omega (arith, few))
  find_own true (true ∷ cs) zero few = (zero, refl, refl)
  find_own true (true ∷ cs) (suc n) few = let (k, at, number) = find_own true cs n (omega (arith, few)) in (suc k, at, omega (arith, number))
  find_own true (false ∷ cs) n few = let (k, at, number) = find_own true cs n (omega (arith, few)) in (suc k, at, omega (arith, number))
  find_own false (false ∷ cs) zero few = (zero, refl, refl)
  find_own false (false ∷ cs) (suc n) few = let (k, at, number) = find_own false cs n (omega (arith, few)) in (suc k, at, omega (arith, number))
  find_own false (true ∷ cs) n few = let (k, at, number) = find_own false cs n (omega (arith, few)) in (suc k, at, omega (arith, number))

  true_false : true ≡ false → ⊥
  true_false never = cc never

  some_true : {x y : Bool} → Some x ≡ Some y → x ≡ y
  some_true same = cc same

  -- where each tells an Off only of an operation that it was asked for
  joins_maps : TellsOffs a ca → TellsOffs b (until_end cb) → JoinsMaps of (λ p. own p course) a b (told_both a b last course) ca (until_end cb) (clock_both of course ca cb)
  joins_maps asked_first asked_second = record {
    after = λ k m n few small one two. record { small = small; made = omega (arith, few); found = record { first = m; second = n; finds_first = one; finds_second = two; map = λ i. refl } };
    cut_first = λ k m n few small apart one two. record { small = small; second = false; is = at_first k few small apart; found = record { first = m; second = n; finds_first = one; finds_second = two; map = λ i. refl } };
    cut_second = λ k m n few small second one two. record { small = small; second = true; is = second.is; found = record { first = m; second = n; finds_first = one; finds_second = two; map = λ i. refl } };
    off_first = λ n off.
        let (k, at, number) = find_own false course n (let few = asked_first n off in let all = is.first in omega (arith, few, all)) in
        off_at_first n k at number off (within course k false at);
    off_second = λ n off.
        let (k, at, number) = find_own true course n (let few = asked_second n off in let all = is.second in omega (arith, few, all)) in
        off_at_second n k at number off.1 (within course k true at);
  }
    where
      sum : a.ops + b.ops ≡ length course
      sum = let all = own_both course in let one = is.first in let two = is.second in omega (arith, all, one, two)

      off_at_first : (n k : ℕ) → slice_get course k ≡ Some false → own false course k ≡ n → ca.off_in n → k < length course
          → (last_count ≤ a.ops + b.ops) ⊎ ((j : ℕ) × (j < min (length course) last_count) × (own false course j ≡ n) × ¬ (clock_both of course ca cb).of_second j × (clock_both of course ca cb).off_in j)
      off_at_first n k at number off few = elim (cases_lt k last_count) [
        | inl small ↦ inr (k, omega (arith, few, small), number, λ second. true_false (some_true (sym second.is ∙ at)), record { small = small; second = false; is = at; off = subst ca.off_in (sym number) off })
        | inr many ↦ inl (omega (arith, many, few, sum))
      ]

      off_at_second : (n k : ℕ) → slice_get course k ≡ Some true → own true course k ≡ n → cb.off_in n → k < length course
          → (last_count ≤ a.ops + b.ops) ⊎ ((j : ℕ) × (j < min (length course) last_count) × (own true course j ≡ n) × (clock_both of course ca cb).of_second j × (clock_both of course ca cb).off_in j)
      off_at_second n k at number off few = elim (cases_lt k last_count) [
        | inl small ↦ inr (k, omega (arith, few, small), number, record { small = small; is = at }, record { small = small; second = true; is = at; off = subst cb.off_in (sym number) off })
        | inr many ↦ inl (omega (arith, many, few, sum))
      ]

pub clocks_join : ClocksJoin
clocks_join of a b ca cb last course is = joins of a b ca cb last course is

pub maps_join : MapsJoin
maps_join of a b ca cb last course is asked_first asked_second = joins_maps of a b ca cb last course is asked_first asked_second

-- AN OFF
few_of : (k : ℕ) (xs : List Change) (x : Change) → slice_get xs k ≡ Some x → k < length xs
few_of k [] x at = cc
few_of zero (y ∷ ys) x at = omega arith
few_of (suc k) (y ∷ ys) x at = let rest = few_of k ys x at in omega (arith, rest)

asked_by : (d : FlashDevice) (k : ℕ) → k < last_count → off_in_of d k → k < asked_ops d
asked_by d k small (inl full) = absurd (omega (arith, small, full))
asked_by d k small (inr (x, at, is)) = let few = few_of k d.operations x at in omega (arith, small, few)

pub banks_tell_offs : BanksTellOffs
banks_tell_offs d k off = asked_by (fee.flash_device d) k off.0 off.1

pub slots_tell_offs : SlotsTellOffs
slots_tell_offs d k off = asked_by (slots.flash_device d.making d.entry d.parts) k off.0 off.1

-- OF BOTH
pub pairs_join : PairsJoin
pairs_join s is = record {
  clocks = joins (of_slots s) (fee.told_of s.first) (ea.told_in s.second) (told_clock s.first) (ea.clock_in s.second) s.last s.course is;
  maps = joins_maps (of_slots s) (fee.told_of s.first) (ea.told_in s.second) (told_clock s.first) (ea.clock_in s.second) s.last s.course is (banks_tell_offs s.first) (slots_tell_offs s.second);
}
