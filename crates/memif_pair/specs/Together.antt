-- Two devices that are told as one, from call to call.
use Rattle.std.specs.Prelude.{◌≡◌, ◌+◌, ℕ, Bool, true, false, List, Option, Some, is_some, Result, Ok, Err}
use Rattle.memif.specs.declared.answer.DeviceRefusal.{DeviceRefusal}
use Rattle.memif.specs.declared.answer.DeviceTurn.{DeviceTurn}
use Rattle.memif.specs.declared.answer.MemStatus.{MemStatus}
use Rattle.memif.specs.declared.answer.MemStatus.TheVariants.{Uninit, Idle, Busy, BusyInternal}
use Rattle.memif.specs.declared.answer.StartFault.{StartFault}
use Rattle.memif.specs.Told.{DeviceTold, First, Stand, Open, Ended, figures_at, is_open, length_of, nothing_open}
use Rattle.memif.specs.Clock.{Clock}
use Rattle.memif.specs.Calls.{Turns, refusal_of}
use Rattle.memif_pair.specs.Pair.{told_both, is_second, numbers_in, ArePair, IsLast}
use Rattle.memif_pair.specs.PairClock.{IsCourse}
use Rattle.memif_pair.specs.Laws.{Goes, pair_clock}

-- an open job is on a number of its own device
abbrev pub IsOwnJob : Bool → DeviceTold → Stand → Type 0
IsOwnJob second b (Open j) = is_second b.fixed.numbers j.number ≡ second
IsOwnJob second b (Ended result given) = Unit {0}

-- what holds of the two between any two calls
pub record AreTogether (a b : DeviceTold) (last : Bool) (course : List Bool) : Type 0 where
  pub pair : ArePair a b
  pub counted : IsCourse a b course
  pub one : IsLast last a b
  -- all numbers of the first device are of its one part, and those of the second one have their lengths in the pair too
  pub part : (n : ℕ) → (figures_at a.fixed n).part ≡ First
  pub lengths : (n : ℕ) → is_second b.fixed.numbers n ≡ true → length_of (numbers_in a.fixed b.fixed) n ≡ length_of b.fixed.numbers n
  -- own work is the first device's alone
  pub own : b.fixed.own ≡ 0
  pub first_job : IsOwnJob false b a.stand
  pub second_job : IsOwnJob true b b.stand

-- A call of the pair that makes no operation, by what it did to its devices: as the floor says it of one device, and behind it they
-- are together again.
abbrev pub OfPair : (DeviceTold → Clock → DeviceTold → Clock → Type 0)
    → (last last_new : Bool) → (a : DeviceTold) (ca : Clock) (b : DeviceTold) (cb : Clock)
    (a_new : DeviceTold) (ca_new : Clock) (b_new : DeviceTold) (cb_new : Clock) → Type 0
OfPair Call last last_new a ca b cb a_new ca_new b_new cb_new =
    (course : List Bool) → AreTogether a b last course
    → Call (told_both a b last course) (pair_clock ca b cb course) (told_both a_new b_new last_new course) (pair_clock ca_new b_new cb_new course)
    × AreTogether a_new b_new last_new course

-- A TURN OF THE PAIR
-- what is open is so only while the device is started
abbrev pub IsUp : DeviceTold → Type 0
IsUp d = nothing_open d ≡ false → d.started ≡ true

-- the course behind it
abbrev pub PairGoes : (a b a_new b_new : DeviceTold) → (course next : List Bool) → Type 0
PairGoes a b a_new b_new course next = Goes (is_open b.stand) (a.ops + b.ops) (a_new.ops + b_new.ops) course next

-- It is a turn of the second device where a job of that is open, else of the first one. So it is one of the pair, and behind it they
-- are together again.
abbrev pub PairTurns : DeviceTurn → (last : Bool) → (a : DeviceTold) (ca : Clock) (b : DeviceTold) (cb : Clock) (a_new : DeviceTold) (ca_new : Clock) (b_new : DeviceTold) (cb_new : Clock) → Type 0
PairTurns answer last a ca b cb a_new ca_new b_new cb_new =
    (course next : List Bool) → AreTogether a b last course → IsUp (told_both a b last course)
    → PairGoes a b a_new b_new course next
    → Turns answer (told_both a b last course) (pair_clock ca b cb course) (told_both a_new b_new last next) (pair_clock ca_new b_new cb_new next)
    × AreTogether a_new b_new last next × IsUp (told_both a_new b_new last next)

-- QUERIES
-- what a query of the pair says of it
abbrev pub OfBoth : (DeviceTold → Type 0) → (last : Bool) → (a b : DeviceTold) → Type 0
OfBoth Says last a b = (course : List Bool) → AreTogether a b last course → Says (told_both a b last course)

-- the pair has this number
abbrev pub HasNumber : ℕ → (a b : DeviceTold) → Type 0
HasNumber number a b = is_some (length_of (numbers_in a.fixed b.fixed) number) ≡ true

-- THE DEVICE OF A NUMBER
-- a job may be started, on the device of its number; or it is refused, whatever length is given
abbrev pub Looks : ℕ → Result Bool DeviceRefusal → DeviceTold → DeviceTold → Type 0
Looks number (Ok second) a b = (is_open a.stand ≡ false) × (is_open b.stand ≡ false) × (a.started ≡ true) × (b.started ≡ true) × (is_second b.fixed.numbers number ≡ second)
Looks number (Err refusal) a b =
    (last : Bool) (course : List Bool) (length : Option ℕ) → IsLast last a b → refusal_of (told_both a b last course) number length ≡ Some refusal

-- whether the second device had the last job, behind a start on one of them
abbrev pub noted : Result (Unit {0}) DeviceRefusal → Bool → Bool → Bool
noted (Ok done) last second = second
noted (Err refusal) last second = last

-- A START-UP OF BOTH
-- of two start-ups the first one's fault, else the second one's
abbrev pub answer_both : Result (Unit {0}) StartFault → Result (Unit {0}) StartFault → Result (Unit {0}) StartFault
answer_both (Err why) two = Err why
answer_both (Ok done) two = two

-- THE STATUS OF BOTH: own work is the first one's
abbrev pub status_both : MemStatus → MemStatus → MemStatus
status_both Uninit two = Uninit
status_both one Uninit = Uninit
status_both Busy two = Busy
status_both one Busy = Busy
status_both BusyInternal two = BusyInternal
status_both Idle two = Idle
