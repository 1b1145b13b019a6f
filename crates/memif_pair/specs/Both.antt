-- One memory device of two.
use Rattle.std.specs.Prelude.{◌≡◌, ℕ, Bool, true, false, List, []}
use Rattle.nv_base.specs.Lengths.{AreLengths}
use Rattle.memif.specs.Told.{DeviceTold, First, figures_at, nothing_open}
use Rattle.memif.specs.Clock.{Clock}
use Rattle.memif_pair.specs.Pair.{told_both, ArePair}
use Rattle.memif_pair.specs.Laws.{pair_clock}
use Rattle.memif_pair.specs.Together.{AreTogether, IsUp}

-- WHAT CONTRACTS SEE
pub record BothState (A B : Type 0) : Type 0 where
  pub first : A
  pub second : B
  -- the second one had the last job
  pub last : Bool
  -- of each operation, whether it was one of the second device
  pub course : List Bool

-- what is told of the two, and their clock
abbrev pub told_as : {A B : Type 0} → (A → DeviceTold) → (B → DeviceTold) → BothState A B → DeviceTold
told_as told_a told_b s = told_both (told_a s.first) (told_b s.second) s.last s.course

abbrev pub clock_as : {A B : Type 0} → (A → Clock) → (B → DeviceTold) → (B → Clock) → BothState A B → Clock
clock_as clock_a told_b clock_b s = pair_clock (clock_a s.first) (told_b s.second) (clock_b s.second) s.course

-- WHAT HOLDS AT ANY TIME
-- the two are together, and what is open is so only while both are started
pub record IsBoth (a b : DeviceTold) (last : Bool) (course : List Bool) : Type 0 where
  pub together : AreTogether a b last course
  pub up : IsUp (told_both a b last course)

-- WHAT IS ASKED AT MAKING
-- a device that asked for no operation yet, and has nothing open
pub record IsUnused (d : DeviceTold) : Type 0 where
  pub ops : d.ops ≡ 0
  pub rests : nothing_open d ≡ true

-- Two unused devices of one part each, which have no number in common. All numbers of the first one are of its part; those of the second
-- one ascend, and it has no work of its own.
pub record ArePaired (a b : DeviceTold) : Type 0 where
  pub pair : ArePair a b
  pub part : (n : ℕ) → (figures_at a.fixed n).part ≡ First
  pub ascend : AreLengths 0 b.fixed.numbers
  pub own : b.fixed.own ≡ 0
  pub first : IsUnused a
  pub second : IsUnused b

-- made of these two
abbrev pub first_both : {A B : Type 0} → A → B → BothState A B
first_both first second = record { first = first; second = second; last = false; course = [] }
