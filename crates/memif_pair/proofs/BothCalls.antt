-- A call of the two devices is one of the device that is made of them, and what holds of that one at any time holds behind it.
use Rattle.std.proofs.Common.{◌≡◌, Bool, List, subst}
use Rattle.memif.specs.declared.answer.DeviceTurn.{DeviceTurn}
use Rattle.memif.specs.Told.{DeviceTold}
use Rattle.memif.specs.Clock.{Clock}
use Rattle.memif.specs.Calls.{Turns}
use Rattle.memif_pair.specs.Pair.{told_both}
use Rattle.memif_pair.specs.Laws.{pair_clock}
use Rattle.memif_pair.specs.Together.{AreTogether, IsUp, OfBoth, OfPair, PairGoes, PairTurns}
use Rattle.memif_pair.specs.Both.{BothState, IsBoth, told_as, clock_as}

-- `t` are the fields of the device, as `s` shows it
module _ {A B : Type 0} (ta : A → DeviceTold) (ca : A → Clock) (tb : B → DeviceTold) (cb : B → Clock) (s t : BothState A B) (same : t ≡ s) (is : IsBoth (ta t.first) (tb t.second) t.last t.course) where
  abbrev told_behind : A → B → Bool → List Bool → DeviceTold
  told_behind first second last course = told_both (ta first) (tb second) last course

  abbrev clock_behind : A → B → List Bool → Clock
  clock_behind first second course = pair_clock (ca first) (tb second) (cb second) course

  -- one that makes no operation
  module _ (Call : DeviceTold → Clock → DeviceTold → Clock → Type 0) (first : A) (second : B) (last : Bool)
      (of : OfPair Call t.last last (ta t.first) (ca t.first) (tb t.second) (cb t.second) (ta first) (ca first) (tb second) (cb second)) where
    pub called : Call (told_as ta tb s) (clock_as ca tb cb s) (told_behind first second last t.course) (clock_behind first second t.course)
    called = subst (λ (d : BothState A B). Call (told_as ta tb d) (clock_as ca tb cb d) (told_behind first second last t.course) (clock_behind first second t.course)) same (of t.course is.together).0

    pub kept : ((old : DeviceTold) (c : Clock) (new : DeviceTold) (c_new : Clock) → Call old c new c_new → IsUp old → IsUp new) → IsBoth (ta first) (tb second) last t.course
    kept up =
        let both = of t.course is.together in record {
          together = both.1;
          up = up (told_as ta tb t) (clock_as ca tb cb t) (told_behind first second last t.course) (clock_behind first second t.course) both.0 is.up;
        }

  -- a turn
  module _ (answer : DeviceTurn) (first : A) (second : B) (next : List Bool) (goes : PairGoes (ta t.first) (tb t.second) (ta first) (tb second) t.course next)
      (turns : PairTurns answer t.last (ta t.first) (ca t.first) (tb t.second) (cb t.second) (ta first) (ca first) (tb second) (cb second)) where
    pub turned : Turns answer (told_as ta tb s) (clock_as ca tb cb s) (told_behind first second t.last next) (clock_behind first second next)
    turned = subst (λ (d : BothState A B). Turns answer (told_as ta tb d) (clock_as ca tb cb d) (told_behind first second t.last next) (clock_behind first second next)) same (turns t.course next is.together is.up goes).0

    pub turn_kept : IsBoth (ta first) (tb second) t.last next
    turn_kept = let both = turns t.course next is.together is.up goes in record { together = both.1; up = both.2 }

  -- a query
  pub asked : (Says : DeviceTold → Type 0) → OfBoth Says t.last (ta t.first) (tb t.second) → Says (told_as ta tb s)
  asked Says of = subst (λ (d : BothState A B). Says (told_as ta tb d)) same (of t.course is.together)

  pub looked : (Says : DeviceTold → Clock → Type 0)
      → ((last : Bool) (course : List Bool) → AreTogether (ta t.first) (tb t.second) last course → Says (told_both (ta t.first) (tb t.second) last course) (pair_clock (ca t.first) (tb t.second) (cb t.second) course))
      → Says (told_as ta tb s) (clock_as ca tb cb s)
  looked Says says = subst (λ (d : BothState A B). Says (told_as ta tb d) (clock_as ca tb cb d)) same (says t.last t.course is.together)
