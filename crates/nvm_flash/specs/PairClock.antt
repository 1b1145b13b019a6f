-- The clock of a device over a flash and an EEPROM, by those of its parts.
use Rattle.std.specs.Prelude.{◌<◌, ℕ, Bool, List}
use Rattle.memif_fee_ea.specs.fee_core.nv_base.Count.{last_count}
use Rattle.memif_fee_ea.specs.fee_core.memif.Told.{DeviceTold}
use Rattle.memif_fee_ea.specs.fee_core.memif.Clock.{Clock}
use Rattle.memif_fee_ea.specs.fee_core.Tells.{told_clock}
use Rattle.memif_fee_ea.specs.fee_core.fee_told.Device as fee
use Rattle.memif_fee_ea.specs.ea_slots.Whole as ea
use Rattle.memif_fee_ea.specs.memif_pair.Both.{BothState, told_as, clock_as}
use Rattle.memif_fee_ea.specs.memif_pair.Pair.{is_second, told_both}
use Rattle.memif_fee_ea.specs.memif_pair.PairClock.{IsCourse, clock_both, own}
use Rattle.promise_run.specs.ClocksOfBoth.{JoinsClocks}
use Rattle.promise_run.specs.HalvesOfBoth.{JoinsMaps}

-- past the end of the count an Off is told of no operation
abbrev pub until_end : Clock → Clock
until_end clock = record clock { off_in = λ k. (k < last_count) × clock.off_in k }

-- an Off is told of an operation that the device was asked for
abbrev pub TellsOffs : DeviceTold → Clock → Type 0
TellsOffs d clock = (k : ℕ) → clock.off_in k → k < d.ops

-- the clock of the slots, as far as it tells moments
abbrev pub slots_clock : ea.Device → Clock
slots_clock d = until_end (ea.clock_in d)

-- the numbers of the slots
abbrev pub of_slots : BothState fee.Device ea.Device → ℕ → Bool
of_slots s = is_second (ea.told_in s.second).fixed.numbers

-- LAWS
-- the clock of any two devices joins theirs, by the course
abbrev pub ClocksJoin : Type 1
ClocksJoin =
    (of : ℕ → Bool) (a b : DeviceTold) (ca cb : Clock) (last : Bool) (course : List Bool) → IsCourse a b course
    → JoinsClocks of (λ p. own p course) a b (told_both a b last course) ca (until_end cb) (clock_both of course ca cb)

abbrev pub MapsJoin : Type 1
MapsJoin =
    (of : ℕ → Bool) (a b : DeviceTold) (ca cb : Clock) (last : Bool) (course : List Bool) → IsCourse a b course → TellsOffs a ca → TellsOffs b (until_end cb)
    → JoinsMaps of (λ p. own p course) a b (told_both a b last course) ca (until_end cb) (clock_both of course ca cb)

-- a device over banks and one over slots tell an Off only of an operation that they were asked for
abbrev pub BanksTellOffs : Type 0
BanksTellOffs = (d : fee.Device) → TellsOffs (fee.told_of d) (told_clock d)

abbrev pub SlotsTellOffs : Type 0
SlotsTellOffs = (d : ea.Device) → TellsOffs (ea.told_in d) (slots_clock d)

-- so that of the two joins theirs
pub record PairJoins (s : BothState fee.Device ea.Device) : Type 0 where
  pub clocks : JoinsClocks (of_slots s) (λ p. own p s.course) (fee.told_of s.first) (ea.told_in s.second) (told_as fee.told_of ea.told_in s) (told_clock s.first) (slots_clock s.second) (clock_as told_clock ea.told_in ea.clock_in s)
  pub maps : JoinsMaps (of_slots s) (λ p. own p s.course) (fee.told_of s.first) (ea.told_in s.second) (told_as fee.told_of ea.told_in s) (told_clock s.first) (slots_clock s.second) (clock_as told_clock ea.told_in ea.clock_in s)

abbrev pub PairsJoin : Type 0
PairsJoin = (s : BothState fee.Device ea.Device) → IsCourse (fee.told_of s.first) (ea.told_in s.second) s.course → PairJoins s
