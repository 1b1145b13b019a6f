-- Laws of a pair of devices.
use Rattle.std.specs.Prelude.{◌≡◌, ◌++◌, ◌∷◌, ◌+◌, ◌⊎◌, ℕ, Bool, true, false, List, []}
use Rattle.memif.specs.declared.answer.DeviceTurn.{DeviceTurn}
use Rattle.memif.specs.Told.{DeviceTold, Job, Open, First, Second, is_open, is_urgent, nothing_open, length_of}
use Rattle.memif.specs.Clock.{Clock, Ticks}
use Rattle.memif.specs.Calls.{Turns}
use Rattle.memif_pair.specs.Pair.{told_both, is_second, numbers_in, ArePair}
use Rattle.memif_pair.specs.PairClock.{clock_both, IsCourse}

abbrev pub pair_clock : Clock → DeviceTold → Clock → List Bool → Clock
pair_clock ca b cb course = clock_both (is_second b.fixed.numbers) course ca cb

-- the course behind a turn of one of the devices
pub record Goes (second : Bool) (ops ops_new : ℕ) (course next : List Bool) : Type 0 where
  pub one : ((ops_new ≡ ops) × (next ≡ course)) ⊎ ((ops_new ≡ ops + 1) × (next ≡ course ++ second ∷ []))

-- What a turn of the first device tells by its clock the pair tells by its own. Where an urgent job of that device is open, it had the
-- last one.
abbrev pub FirstTicks : DeviceTurn → DeviceTold → Clock → DeviceTold → Clock → DeviceTold → Clock → Type 0
FirstTicks answer a ca a_new ca_new b cb =
    (course next : List Bool) (last last_new : Bool) → ArePair a b → IsCourse a b course → Goes false a.ops a_new.ops course next
    → (is_urgent a.stand ≡ true → last ≡ false) → Ticks First answer a ca a_new ca_new
    → Ticks First answer (told_both a b last course) (pair_clock ca b cb course) (told_both a_new b last_new next) (pair_clock ca_new b cb next)

-- a turn of the first device with a job open is a turn of the pair, whose jobs are open only while both are started
abbrev pub FirstTurns : DeviceTurn → DeviceTold → Clock → DeviceTold → Clock → DeviceTold → Clock → Type 0
FirstTurns answer a ca a_new ca_new b cb =
    (course next : List Bool) (j : Job) → ArePair a b → IsCourse a b course → Goes false a.ops a_new.ops course next
    → a.stand ≡ Open j → is_second b.fixed.numbers j.number ≡ false → is_open b.stand ≡ false → b.started ≡ true
    → Turns answer (told_both a b false course) (pair_clock ca b cb course) (told_both a_new b false next) (pair_clock ca_new b cb next)

-- a turn of the first device with no job open in either, of work of its own or of none, is a turn of the pair
abbrev pub OwnTurns : DeviceTurn → DeviceTold → Clock → DeviceTold → Clock → DeviceTold → Clock → Type 0
OwnTurns answer a ca a_new ca_new b cb =
    (course next : List Bool) (last : Bool) → ArePair a b → IsCourse a b course → Goes false a.ops a_new.ops course next
    → is_open a.stand ≡ false → is_open b.stand ≡ false → (nothing_open a ≡ false → b.started ≡ true)
    → Turns answer (told_both a b last course) (pair_clock ca b cb course) (told_both a_new b last next) (pair_clock ca_new b cb next)

-- a turn of the second device likewise, whose numbers stay: it is one of the second part
abbrev pub SecondTicks : DeviceTurn → DeviceTold → Clock → DeviceTold → Clock → DeviceTold → Clock → Type 0
SecondTicks answer a ca b cb b_new cb_new =
    (course next : List Bool) (last last_new : Bool) → ArePair a b → IsCourse a b course → Goes true b.ops b_new.ops course next → b_new.fixed ≡ b.fixed
    → Ticks First answer b cb b_new cb_new
    → Ticks Second answer (told_both a b last course) (pair_clock ca b cb course) (told_both a b_new last_new next) (pair_clock ca b_new cb_new next)

-- a turn of the second device with a job open is a turn of the pair, where that number has its length in the pair too
abbrev pub SecondTurns : DeviceTurn → DeviceTold → Clock → DeviceTold → Clock → DeviceTold → Clock → Type 0
SecondTurns answer a ca b cb b_new cb_new =
    (course next : List Bool) (j : Job) → ArePair a b → IsCourse a b course → Goes true b.ops b_new.ops course next
    → b.stand ≡ Open j → is_second b.fixed.numbers j.number ≡ true → length_of (numbers_in a.fixed b.fixed) j.number ≡ length_of b.fixed.numbers j.number
    → is_open a.stand ≡ false → a.started ≡ true
    → Turns answer (told_both a b true course) (pair_clock ca b cb course) (told_both a b_new true next) (pair_clock ca b_new cb_new next)
