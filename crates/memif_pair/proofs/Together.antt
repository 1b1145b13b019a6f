-- Two devices that are together: what holds of the pair at any time, and behind a call of one of them.
use Rattle.std.specs.Prelude.{min, ◌^◌}
use Rattle.std.proofs.Common.{◌≡◌, ℕ, ◌<◌, Bool, true, false, if◌then◌else◌, List, length, refl, sym, ap, ◌∙◌, subst, arith}
use Rattle.nv_base.specs.Count.{last_count}
use Rattle.memif.specs.Told.{DeviceTold, Fixed, Figures, First, Second, Stand, Open, Ended, figures_at, length_of, is_open, most_of, most_open, op_of}
use Rattle.memif.specs.Clock.{Clock, After, SameClock, FindsNow}
use Rattle.memif.specs.Calls.{InOrder, ClockStays, urgent_first}
use Rattle.memif_pair.specs.Pair.{told_both, fixed_both, is_second, numbers_in, ArePair, IsLast}
use Rattle.memif_pair.specs.PairClock.{IsCourse, own, clock_both}
use Rattle.memif_pair.specs.Laws.{pair_clock}
use Rattle.memif_pair.specs.Together.{AreTogether, IsOwnJob}
use Rattle.memif_pair.proofs.Ticking.{possible_both}
use Rattle.memif_pair.proofs.Clocks.{same_both}
use Rattle.memif_pair.proofs.Orders.{figures_are, most_same, most_closed, order_first, told_before_any}

-- FIGURES OF THE SECOND DEVICE
pub figures_second : (f g : Fixed) (n : ℕ) → is_second g.numbers n ≡ true → figures_at (fixed_both f g) n ≡ record (figures_at g n) { part = Second }
figures_second f g n of = figures_are f g n ∙ ap (λ (b : Bool). if b then record (figures_at g n) { part = Second } else record (figures_at f n) { part = First }) of

most_second : (a b : DeviceTold) (stand : Stand) → IsOwnJob true b stand → most_open (fixed_both a.fixed b.fixed) stand ≡ most_open b.fixed stand
most_second a b (Open j) of = ap (λ (x : Figures). most_of x (op_of j.mark)) (figures_second a.fixed b.fixed j.number of) ∙ most_same (figures_at b.fixed j.number) Second (op_of j.mark)
most_second a b (Ended result given) of = refl

-- WHICH HAD THE LAST JOB
-- the device that didn't has none open
pub closed_second : (x : Bool) → (x ≡ true → false ≡ true) → x ≡ false
closed_second true wrong = (let w = wrong refl in cc w)
closed_second false wrong = refl

pub closed_first : (x : Bool) → (x ≡ true → true ≡ false) → x ≡ false
closed_first true wrong = (let w = wrong refl in cc w)
closed_first false wrong = refl

pub urgent_closed : (f : Fixed) (stand : Stand) → is_open stand ≡ false → urgent_first f stand ≡ false
urgent_closed f (Open j) closed = cc closed
urgent_closed f (Ended result given) closed = refl

-- IN ORDER
now_both : (a : DeviceTold) (ca : Clock) (b : DeviceTold) (cb : Clock) (last : Bool) (course : List Bool) → ArePair a b → IsCourse a b course → InOrder a ca → InOrder b cb → FindsNow (told_both a b last course) (pair_clock ca b cb course)
now_both a ca b cb last course pair is one two m finds =
    let end : min (length course) last_count ≡ length course = (let small = finds.small in omega (arith, small)) in
    let first : own false course (min (length course) last_count) ≡ a.ops = ap (own false course) end ∙ is.first in
    let second : own true course (min (length course) last_count) ≡ b.ops = ap (own true course) end ∙ is.second in
    possible_both a b last course a.slots b.slots finds.found.first finds.found.second m pair
    (one.now finds.found.first (subst (λ (n : ℕ). ca.may_find (After n) finds.found.first) first finds.found.finds_first))
    (two.now finds.found.second (subst (λ (n : ℕ). cb.may_find (After n) finds.found.second) second finds.found.finds_second)) finds.found.map

pub order_second : (a : DeviceTold) (ca : Clock) (b : DeviceTold) (cb : Clock) (course : List Bool) → ArePair a b → IsCourse a b course
    → IsOwnJob true b b.stand → is_open a.stand ≡ false → InOrder a ca → InOrder b cb → InOrder (told_both a b true course) (pair_clock ca b cb course)
order_second a ca b cb course pair is of closed one two =
    let low : a.left < 2 ^ 63 = subst (λ (t : Bool). a.left < (if t then 2 ^ 64 else 2 ^ 63)) pair.first one.fits in
    let high : b.left < 2 ^ 63 = subst (λ (t : Bool). b.left < (if t then 2 ^ 64 else 2 ^ 63)) pair.second two.fits in
    record {
      bounded = (let most = most_second a b b.stand of in let none = most_closed a.fixed a.stand closed in let x = one.bounded in let y = two.bounded in omega (arith, most, none, x, y));
      fits = omega (arith, low, high);
      ready = one.ready;
      wait = λ none. one.wait (urgent_closed a.fixed a.stand closed);
      second = λ wrong. cc wrong;
      now = now_both a ca b cb true course pair is one two;
      told = told_before_any a ca b cb course is one two;
    }

pub no_own : (second : Bool) (b : DeviceTold) (stand : Stand) → is_open stand ≡ false → IsOwnJob second b stand
no_own second b (Open j) closed = cc closed
no_own second b (Ended result given) closed = tt

pub order_both : (a : DeviceTold) (ca : Clock) (b : DeviceTold) (cb : Clock) (last : Bool) (course : List Bool) → AreTogether a b last course → InOrder a ca → InOrder b cb → InOrder (told_both a b last course) (pair_clock ca b cb course)
order_both a ca b cb false course t one two = order_first a ca b cb course t.pair t.counted t.first_job (closed_second (is_open b.stand) t.one.second) one two
order_both a ca b cb true course t one two = order_second a ca b cb course t.pair t.counted t.second_job (closed_first (is_open a.stand) t.one.first) one two

-- where none has a job open
pub order_rest : (a : DeviceTold) (ca : Clock) (b : DeviceTold) (cb : Clock) (last : Bool) (course : List Bool) → ArePair a b → IsCourse a b course → is_open a.stand ≡ false → is_open b.stand ≡ false → InOrder a ca → InOrder b cb
    → InOrder (told_both a b last course) (pair_clock ca b cb course)
order_rest a ca b cb false course pair is closed other one two = order_first a ca b cb course pair is (no_own false b a.stand closed) other one two
order_rest a ca b cb true course pair is closed other one two = order_second a ca b cb course pair is (no_own true b b.stand other) closed one two

-- BEHIND A CALL OF ONE OF THEM
pub own_same : (second : Bool) (b b_new : DeviceTold) (stand : Stand) → b_new.fixed ≡ b.fixed → IsOwnJob second b stand → IsOwnJob second b_new stand
own_same second b b_new (Open j) fixed of = ap (λ (f : Fixed). is_second f.numbers j.number) fixed ∙ of
own_same second b b_new (Ended result given) fixed of = tt

abbrev pub LengthsStay : Fixed → Fixed → Type 0
LengthsStay f g = (n : ℕ) → is_second g.numbers n ≡ true → length_of (numbers_in f g) n ≡ length_of g.numbers n

pub together_both : (a a_new b b_new : DeviceTold) (last last_new : Bool) (course : List Bool) → AreTogether a b last course → a_new.fixed ≡ a.fixed → a_new.ops ≡ a.ops → b_new.fixed ≡ b.fixed → b_new.ops ≡ b.ops
    → IsLast last_new a_new b_new → IsOwnJob false b a_new.stand → IsOwnJob true b b_new.stand → AreTogether a_new b_new last_new course
together_both a a_new b b_new last last_new course t fixed ops fixed_b ops_b one first second = record {
  pair = record {
    first = ap (λ (f : Fixed). f.two) fixed ∙ t.pair.first;
    second = ap (λ (f : Fixed). f.two) fixed_b ∙ t.pair.second;
    apart = λ n two. ap (λ (f : Fixed). length_of f.numbers n) fixed ∙ t.pair.apart n (ap (λ (f : Fixed). is_second f.numbers n) (sym fixed_b) ∙ two);
  };
  counted = record { first = t.counted.first ∙ sym ops; second = t.counted.second ∙ sym ops_b };
  one = one;
  part = λ n. ap (λ (f : Fixed). (figures_at f n).part) fixed ∙ t.part n;
  lengths = subst (λ (f : Fixed). LengthsStay f b_new.fixed) (sym fixed) (subst (λ (g : Fixed). LengthsStay a.fixed g) (sym fixed_b) t.lengths);
  own = ap (λ (f : Fixed). f.own) fixed_b ∙ t.own;
  first_job = own_same false b b_new a_new.stand fixed_b first;
  second_job = own_same true b b_new b_new.stand fixed_b second;
}

pub clock_stays : (a a_new : DeviceTold) (ca ca_new : Clock) (b b_new : DeviceTold) (cb cb_new : Clock) (last : Bool) (course : List Bool) → AreTogether a_new b_new last course → b_new.fixed ≡ b.fixed
    → SameClock ca ca_new → SameClock cb cb_new → InOrder a_new ca_new → InOrder b_new cb_new → ClockStays (pair_clock ca b cb course) (told_both a_new b_new last course) (pair_clock ca_new b_new cb_new course)
clock_stays a a_new ca ca_new b b_new cb cb_new last course t fixed same other one two = record {
  same = subst (λ (f : Fixed). SameClock (pair_clock ca b cb course) (clock_both (is_second f.numbers) course ca_new cb_new)) (sym fixed) (same_both (is_second b.fixed.numbers) course ca ca_new cb cb_new same other);
  order = order_both a_new ca_new b_new cb_new last course t one two;
}
