-- The words of a device of two parts, by those of its parts, each over a flash of its own.
use Rattle.std.specs.Prelude.{◌≡◌, ◌<◌, ◌≤◌, ◌+◌, ℕ, min, Bool, true, false, is_some}
use Rattle.block_machine.specs.nv_base.Count.{last_count}
use Rattle.block_machine.specs.nv_base.Marks.{instance_of}
use Rattle.memif.specs.Told.{PartTold, DeviceTold, Second}
use Rattle.memif.specs.Clock.{Clock, Trait}
use Rattle.memif.specs.Trials.{Lasts}
use Rattle.promise_blocks.specs.OverDevice.{is_of}
use Rattle.promise_blocks.specs.Operations.{AreOfJobs}
use Rattle.promise_device.specs.Bridge.{Bridges, reading_of}
use Rattle.promise_run.specs.Beside.{Beside}
use Rattle.promise_run.specs.DeviceTurns.{IsSoOfBoth}
use Rattle.promise_run.specs.Halves.{beyond_end}
use Rattle.promise_run.specs.OwnOperations.{CountsPart}
use Rattle.promise_run.specs.Promise.{making_first}
use Rattle.promise_run.specs.Run.{Run}

-- Of the first k operations so many were of each part, and what is told of one by itself its own part tells, by its number there. Pages
-- are free in the first one, and a number is worn out by the words of its own part: `of` says of which numbers that is the second one.
pub record JoinsClocks (of : ℕ → Bool) (count : Bool → ℕ → ℕ) (a b now : DeviceTold) (first second both : Clock) : Type 0 where
  pub ops : now.ops ≡ min (a.ops + b.ops) last_count
  pub counts : (p : Bool) → CountsPart p now both (count p)
  pub within : (k : ℕ) → k ≤ now.ops → k < last_count → (count false k ≤ a.ops) × (count true k ≤ b.ops)
  pub failed_first : (k : ℕ) → k < now.ops → k < last_count → ¬ both.of_second k → first.failed (count false k) → both.failed k
  pub failed_second : (k : ℕ) → k < now.ops → k < last_count → both.of_second k → second.failed (count true k) → both.failed k
  pub was : (t : Trait) (k : ℕ) → k < now.ops → k < last_count → ¬ both.of_second k → first.was t (count false k) → both.was t k
  pub spare : (k n : ℕ) → k ≤ now.ops → k < last_count → first.spare (count false k) n → both.spare k n
  pub worn_first : (k n : ℕ) (urgent : Bool) → of n ≡ false → both.worn k n urgent → (moment : ℕ) × (k < last_count → moment ≤ count false (min k now.ops)) × first.worn moment n urgent
  pub worn_second : (k n : ℕ) (urgent : Bool) → of n ≡ true → both.worn k n urgent → (moment : ℕ) × (k < last_count → moment ≤ count true (min k now.ops)) × second.worn moment n urgent

-- It is told at the end, and behind the last move: start-ups may have failed since. Each part is told before the first start-up too.
pub record AreOverBoth (r : Run) (b : Beside) (cutter : Bool) (before before_second : PartTold) (first second last now : DeviceTold) (clock_first clock_second clock clock_now : Clock) : Type 0 where
  pub of_first : Bridges (reading_of (making_first r.configuration)) cutter r.flash before first (beyond_end clock_first)
  pub of_second : Bridges b.reading cutter b.flash before_second second (beyond_end clock_second)
  pub none : (before.faults ≡ 0) × (before_second.faults ≡ 0)
  pub parts : (now.first ≡ first.first) × (now.second ≡ second.first)
  pub blocks : (block : ℕ) → b.blocks block ≡ is_of Second now.fixed block
  pub fixed : now.fixed ≡ last.fixed
  pub count : Bool → ℕ → ℕ
  pub joins : JoinsClocks (λ n. b.blocks (instance_of (record { 0 = n })).block) count first second now clock_first clock_second clock_now
  pub jobs : AreOfJobs r.configuration r.history now clock_now
  pub lasts : Lasts last clock now clock_now
  pub same : now.ops ≡ last.ops
  pub slots : is_some first.slots ≡ true → is_some second.slots ≡ true → is_some last.slots ≡ true

-- what it tells is so of both flashes
abbrev pub WordsAreOfBoth : Type 1
WordsAreOfBoth =
    (r : Run) (b : Beside) (cutter : Bool) (before before_second : PartTold) (first second last now : DeviceTold) (clock_first clock_second clock clock_now : Clock)
    → AreOverBoth r b cutter before before_second first second last now clock_first clock_second clock clock_now → IsSoOfBoth r b last clock
