-- The two halves of the promise over two flashes: what is said over a device of two parts, and what ties each part to its flash.
use Rattle.std.specs.Prelude.{◌≡◌, ◌⊎◌, ◌<◌, ◌≤◌, ◌+◌, ℕ, if◌then◌else◌, Bool, true, false, Some, None}
use Rattle.block_machine.specs.nv_base.Count.{last_count, WereCounted}
use Rattle.block_machine.specs.nv_base.Marks.{instance_of}
use Rattle.memif.specs.Told.{Held, Part, PartTold, DeviceTold, First, Second}
use Rattle.memif.specs.Clock.{Clock, After, CutIn}
use Rattle.promise_blocks.specs.OverDevice.{KeepsOver}
use Rattle.promise_device.specs.Bridge.{cuts_of}
use Rattle.promise_device.specs.Wear.{OperationsAreDue}
use Rattle.promise_run.specs.Beside.{Beside, IsMerged}
use Rattle.promise_run.specs.ClocksOfBoth.{AreOverBoth}
use Rattle.promise_run.specs.Promise.{making_of}
use Rattle.promise_run.specs.Refusals.{RefusesAsAsked}
use Rattle.promise_run.specs.Run.{Run, HasOrder, events_in, has_cutter}
use Rattle.promise_run.specs.TwoFlashes.{CutsAreBoth, CutsOf, PromiseOfBoth, own_ops}

-- a map has for each number what its own part's has
abbrev pub joined : (ℕ → Bool) → (first second : ℕ → Held) → ℕ → Held
joined of first second n = if of n then second n else first n

-- what may be found, and where the power went off, by the words of the parts
pub record JoinsMaps (of : ℕ → Bool) (count : Bool → ℕ → ℕ) (a b now : DeviceTold) (first second both : Clock) : Type 0 where
  pub after : (k : ℕ) (m n : ℕ → Held) → k ≤ now.ops → k < last_count → first.may_find (After (count false k)) m → second.may_find (After (count true k)) n
      → both.may_find (After k) (joined of m n)
  pub cut_first : (k : ℕ) (m n : ℕ → Held) → k < now.ops → k < last_count → ¬ both.of_second k → first.may_find (CutIn (count false k)) m → second.may_find (After (count true k)) n
      → both.may_find (CutIn k) (joined of m n)
  pub cut_second : (k : ℕ) (m n : ℕ → Held) → k < now.ops → k < last_count → both.of_second k → first.may_find (After (count false k)) m → second.may_find (CutIn (count true k)) n
      → both.may_find (CutIn k) (joined of m n)
  pub off_first : (n : ℕ) → first.off_in n → (last_count ≤ a.ops + b.ops) ⊎ ((k : ℕ) × (k < now.ops) × (count false k ≡ n) × ¬ both.of_second k × both.off_in k)
  pub off_second : (n : ℕ) → second.off_in n → (last_count ≤ a.ops + b.ops) ⊎ ((k : ℕ) × (k < now.ops) × (count true k ≡ n) × both.of_second k × both.off_in k)

-- what the stack promises of a run over a device of two parts, as it is told before the first start-up and at the end
pub record BlockHalfOfBoth (r : Run) (b : Beside) (before : Part → PartTold) (first second now : DeviceTold) (clock : Clock) : Type 0 where
  pub beside : r.beside ≡ Some b
  pub order : HasOrder r r.history
  pub over : KeepsOver r.configuration r.most r.history before now clock
  pub refusals : (id : ℕ) → RefusesAsAsked r.configuration r.course r.history id
  pub own : CutsOf
  pub other : CutsOf
  pub merged : IsMerged own.came other.came r.cuts
  pub are : CutsAreBoth (own_ops r b) None None 0 (events_in r.course r.history) own other
  pub counted : WereCounted own.others (before First).planning.unplanned now.first.planning.unplanned
  pub counted_second : WereCounted other.others (before Second).planning.unplanned now.second.planning.unplanned
  -- the planned cuts that came are those that its parts tell
  pub came : (cuts_of (has_cutter r.course) first ≡ own.came) × (cuts_of (has_cutter r.course) second ≡ other.came)

-- both halves make the promise of both, where the first device's erases are due
abbrev pub HalvesMakeBoth : Type 1
HalvesMakeBoth =
    (r : Run) (b : Beside) (before : Part → PartTold) (first second now : DeviceTold) (clock_first clock_second clock : Clock)
    → BlockHalfOfBoth r b before first second now clock
    → (over : AreOverBoth r b (has_cutter r.course) (before First) (before Second) first second now now clock_first clock_second clock clock)
    → JoinsMaps (λ n. b.blocks (instance_of (record { 0 = n })).block) over.count first second now clock_first clock_second clock
    → OperationsAreDue (making_of r.configuration) r.flash → PromiseOfBoth r b
