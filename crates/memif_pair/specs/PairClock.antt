-- The clocks of two devices as one, counted by the operations of both.
use Rattle.std.specs.Prelude.{◌≡◌, ◌<◌, ◌≤◌, ◌+◌, ℕ, zero, suc, Bool, true, false, if◌then◌else◌, nat_lt, List, [], ◌∷◌, length, slice_get, Some}
use Rattle.nv_base.specs.Count.{last_count}
use Rattle.memif.specs.Told.{DeviceTold, Held, IfElse}
use Rattle.memif.specs.Clock.{When, After, CutIn, Clock, Trait}

-- THE COURSE
abbrev pub one_if : Bool → Bool → ℕ
one_if true true = 1
one_if false false = 1
one_if p q = 0

-- how many of the first k operations were of one of the devices
abbrev pub own : Bool → List Bool → ℕ → ℕ
own p [] k = 0
own p (q ∷ qs) zero = 0
own p (q ∷ qs) (suc k) = one_if p q + own p qs k

abbrev pub all_own : Bool → List Bool → ℕ
all_own p course = own p course (length course)

-- the course has as many operations of each as that one was asked for
pub record IsCourse (a b : DeviceTold) (course : List Bool) : Type 0 where
  pub first : all_own false course ≡ a.ops
  pub second : all_own true course ≡ b.ops

-- THE CLOCK
-- a map has for each number what its own device's has
abbrev pub IsMapOf : (ℕ → Bool) → (first second both : ℕ → Held) → Type 0
IsMapOf of first second both = (n : ℕ) → both n ≡ (if of n then second n else first n)

-- each device in its own moment
pub record FoundBoth (of : ℕ → Bool) (a b : Clock) (when_a when_b : When) (both : ℕ → Held) : Type 0 where
  pub first : ℕ → Held
  pub second : ℕ → Held
  pub finds_first : a.may_find when_a first
  pub finds_second : b.may_find when_b second
  pub map : IsMapOf of first second both

pub record FindsAfterBoth (of : ℕ → Bool) (course : List Bool) (a b : Clock) (k : ℕ) (both : ℕ → Held) : Type 0 where
  pub small : k < last_count
  pub made : k ≤ length course
  pub found : FoundBoth of a b (After (own false course k)) (After (own true course k)) both

-- a cut in an operation of one device, beside what the other one holds then
pub record FindsCutBoth (of : ℕ → Bool) (course : List Bool) (a b : Clock) (k : ℕ) (both : ℕ → Held) : Type 0 where
  pub small : k < last_count
  pub second : Bool
  pub is : slice_get course k ≡ Some second
  pub found : FoundBoth of a b (if second then After (own false course k) else CutIn (own false course k))
      (if second then CutIn (own true course k) else After (own true course k)) both

abbrev pub may_find_both : (ℕ → Bool) → List Bool → Clock → Clock → When → (ℕ → Held) → Type 0
may_find_both of course a b (After k) both = FindsAfterBoth of course a b k both
may_find_both of course a b (CutIn k) both = FindsCutBoth of course a b k both

pub record OffBoth (course : List Bool) (a b : Clock) (k : ℕ) : Type 0 where
  pub small : k < last_count
  pub second : Bool
  pub is : slice_get course k ≡ Some second
  pub off : IfElse second (b.off_in (own true course k)) (a.off_in (own false course k))

-- the operation failed in its own device
pub record FailedBoth (course : List Bool) (a b : Clock) (k : ℕ) : Type 0 where
  pub small : k < last_count
  pub second : Bool
  pub is : slice_get course k ≡ Some second
  pub failed : IfElse second (b.failed (own true course k)) (a.failed (own false course k))

-- past the end of the count: by now
abbrev pub reach : List Bool → ℕ → ℕ
reach course k = if nat_lt k last_count then k else length course

-- by some moment of its own device
pub record WornBoth (of : ℕ → Bool) (course : List Bool) (a b : Clock) (k n : ℕ) (urgent : Bool) : Type 0 where
  pub moment : ℕ
  pub by_then : moment ≤ own (of n) course (reach course k)
  pub is : IfElse (of n) (b.worn moment n urgent) (a.worn moment n urgent)

pub record OfSecond (course : List Bool) (k : ℕ) : Type 0 where
  pub small : k < last_count
  pub is : slice_get course k ≡ Some true

-- banks are the first device's alone: the pages that it has free then
pub record SpareBoth (course : List Bool) (a : Clock) (k pages : ℕ) : Type 0 where
  pub small : k < last_count
  pub made : k ≤ length course
  pub spare : a.spare (own false course k) pages

-- and the operation was one of that device, and such a one
pub record WasBoth (course : List Bool) (a : Clock) (t : Trait) (k : ℕ) : Type 0 where
  pub small : k < last_count
  pub is : slice_get course k ≡ Some false
  pub was : a.was t (own false course k)

abbrev pub clock_both : (ℕ → Bool) → List Bool → Clock → Clock → Clock
clock_both of course a b = record {
  may_find = may_find_both of course a b;
  off_in = OffBoth course a b;
  failed = FailedBoth course a b;
  worn = WornBoth of course a b;
  of_second = OfSecond course;
  spare = SpareBoth course a;
  was = WasBoth course a;
}
