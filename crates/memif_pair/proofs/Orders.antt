-- What holds of a pair at any time.
use Rattle.std.specs.Prelude.{min, is_some, ◌&&◌, ◌^◌}
use Rattle.std.proofs.Common.{◌≡◌, ℕ, ◌<◌, Bool, true, false, if◌then◌else◌, List, [], ◌∷◌, length, Option, Some, None, refl, sym, ap, ◌∙◌, subst, arith}
use Rattle.nv_base.specs.Count.{last_count}
use Rattle.nv_base.specs.declared.job.DeviceOp.{DeviceOp}
use Rattle.nv_base.specs.declared.job.DeviceOp.TheVariants.{Read, Write, Invalidate, Erase}
use Rattle.memif.specs.Told.{DeviceTold, Fixed, Figures, Slot, Part, First, Second, Stand, Open, Ended, no_figures, figures_at, length_of, is_open, most_of, most_open, op_of, part_of}
use Rattle.memif.specs.Clock.{Clock, After}
use Rattle.memif.specs.Calls.{InOrder, urgent_first, is_first}
use Rattle.memif_pair.specs.Pair.{told_both, fixed_both, slots_both, is_second, ArePair, numbers_in, in_both}
use Rattle.memif_pair.specs.PairClock.{IsCourse, own}
use Rattle.memif_pair.specs.Laws.{pair_clock}
use Rattle.memif_pair.specs.Together.{IsOwnJob}
use Rattle.memif_pair.proofs.Numbers.{at_map, merged_length, figures_none}
use Rattle.memif_pair.proofs.Ticking.{possible_both}

-- FIGURES
pub figures_are : (f g : Fixed) (n : ℕ) → figures_at (fixed_both f g) n ≡ in_both g (λ k. record (figures_at f k) { part = First }) (λ k. record (figures_at g k) { part = Second }) n
figures_are f g n =
    at_map no_figures (in_both g (λ k. record (figures_at f k) { part = First }) (λ k. record (figures_at g k) { part = Second })) (numbers_in f g) n
    ∙ by (is_some (length_of (numbers_in f g) n)) refl (is_second g.numbers n) refl
  where
    by : (b : Bool) → is_some (length_of (numbers_in f g) n) ≡ b → (q : Bool) → is_second g.numbers n ≡ q
        → (if b then in_both g (λ k. record (figures_at f k) { part = First }) (λ k. record (figures_at g k) { part = Second }) n else no_figures)
        ≡ in_both g (λ k. record (figures_at f k) { part = First }) (λ k. record (figures_at g k) { part = Second }) n
    by true is q of = refl
    by false is true of = (let wrong : is_some (length_of (numbers_in f g) n) ≡ true = merged_length f.numbers g.numbers n ∙ ap (λ (b : Bool). if b then true else is_some (length_of f.numbers n)) of in cc)
    by false is false of =
        let none : is_some (length_of f.numbers n) ≡ false = ap (λ (b : Bool). if b then true else is_some (length_of f.numbers n)) (sym of) ∙ (sym (merged_length f.numbers g.numbers n) ∙ is) in
        let blank : figures_at f n ≡ no_figures = figures_none f.numbers f.figures n none in
        rw of (sym (ap (λ (x : Figures). record x { part = First }) blank))

pub figures_first : (f g : Fixed) (n : ℕ) → is_second g.numbers n ≡ false → figures_at (fixed_both f g) n ≡ record (figures_at f n) { part = First }
figures_first f g n of = figures_are f g n ∙ ap (λ (b : Bool). if b then record (figures_at g n) { part = Second } else record (figures_at f n) { part = First }) of

pub most_same : (x : Figures) (p : Part) (op : DeviceOp) → most_of (record x { part = p }) op ≡ most_of x op
most_same x p Read = refl
most_same x p Write = refl
most_same x p Invalidate = refl
most_same x p Erase = refl

-- an open job of the first device is of one of its own numbers
abbrev pub IsFirstJob : DeviceTold → Stand → Type 0
IsFirstJob b stand = IsOwnJob false b stand

pub most_first : (a b : DeviceTold) (stand : Stand) → IsFirstJob b stand → most_open (fixed_both a.fixed b.fixed) stand ≡ most_open a.fixed stand
most_first a b (Open j) of = ap (λ (x : Figures). most_of x (op_of j.mark)) (figures_first a.fixed b.fixed j.number of) ∙ most_same (figures_at a.fixed j.number) First (op_of j.mark)
most_first a b (Ended result given) of = refl

pub most_closed : (f : Fixed) (stand : Stand) → is_open stand ≡ false → most_open f stand ≡ 0
most_closed f (Open j) closed = cc
most_closed f (Ended result given) closed = refl

-- URGENT JOBS
pub urgent_of : (a b : DeviceTold) (stand : Stand) → IsFirstJob b stand → urgent_first (fixed_both a.fixed b.fixed) stand ≡ false → urgent_first a.fixed stand ≡ false
urgent_of a b (Open j) of none =
    let first : part_of (fixed_both a.fixed b.fixed) j ≡ First = ap (λ (x : Figures). x.part) (figures_first a.fixed b.fixed j.number of) in
    by j.urgent (is_first (part_of a.fixed j)) (ap (λ (p : Part). j.urgent && is_first p) (sym first) ∙ none)
  where
    by : (u q : Bool) → (u && true) ≡ false → (u && q) ≡ false
    by true q is = cc
    by false q is = refl
urgent_of a b (Ended result given) of none = refl

-- IN ORDER
-- where both tell what they hold until their first operation, so does the pair
pub told_before_any : (a : DeviceTold) (ca : Clock) (b : DeviceTold) (cb : Clock) (course : List Bool) → IsCourse a b course → InOrder a ca → InOrder b cb
    → (a.tells && b.tells) ≡ true → min (length course) last_count ≡ 0 → is_some (slots_both a.fixed b.fixed a.slots b.slots) ≡ true
told_before_any a ca b cb [] is one two tells none =
    let (first, second) = both a.tells b.tells tells in some a.slots b.slots (one.told first (sym is.first)) (two.told second (sym is.second))
  where
    both : (p q : Bool) → (p && q) ≡ true → (p ≡ true) × (q ≡ true)
    both true q is = (refl, is)
    both false q is = cc

    some : (s t : Option (List Slot)) → is_some s ≡ true → is_some t ≡ true → is_some (slots_both a.fixed b.fixed s t) ≡ true
    some (Some s) (Some t) p q = refl
    some (Some s) None p q = q
    some None t p q = p
told_before_any a ca b cb (x ∷ course) is one two tells none = absurd (omega (arith, none))

pub order_first : (a : DeviceTold) (ca : Clock) (b : DeviceTold) (cb : Clock) (course : List Bool) → ArePair a b → IsCourse a b course
    → IsFirstJob b a.stand → is_open b.stand ≡ false → InOrder a ca → InOrder b cb → InOrder (told_both a b false course) (pair_clock ca b cb course)
order_first a ca b cb course pair is of closed one two =
    let low : a.left < 2 ^ 63 = subst (λ (t : Bool). a.left < (if t then 2 ^ 64 else 2 ^ 63)) pair.first one.fits in
    let high : b.left < 2 ^ 63 = subst (λ (t : Bool). b.left < (if t then 2 ^ 64 else 2 ^ 63)) pair.second two.fits in
    record {
      bounded = (let most = most_first a b a.stand of in let none = most_closed b.fixed b.stand closed in let x = one.bounded in let y = two.bounded in omega (arith, most, none, x, y));
      fits = omega (arith, low, high);
      ready = one.ready;
      wait = λ none. one.wait (urgent_of a b a.stand of none);
      second = λ wrong. cc;
      told = told_before_any a ca b cb course is one two;
      now = λ m finds.
          let end : min (length course) last_count ≡ length course = (let small = finds.small in omega (arith, small)) in
          let first : own false course (min (length course) last_count) ≡ a.ops = ap (own false course) end ∙ is.first in
          let second : own true course (min (length course) last_count) ≡ b.ops = ap (own true course) end ∙ is.second in
          possible_both a b false course a.slots b.slots finds.found.first finds.found.second m pair
          (one.now finds.found.first (subst (λ (n : ℕ). ca.may_find (After n) finds.found.first) first finds.found.finds_first))
          (two.now finds.found.second (subst (λ (n : ℕ). cb.may_find (After n) finds.found.second) second finds.found.finds_second)) finds.found.map;
    }
