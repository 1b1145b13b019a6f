-- Whose operations are whose: by the history alone, and by the device that made them.
use Rattle.std.specs.Prelude.{◌≡◌, ◌<◌, ◌≤◌, ◌+◌, ℕ, suc, Bool, if◌then◌else◌, List}
use Rattle.block_machine.specs.nv_base.Count.{last_count}
use Rattle.block_machine.specs.Words.{Entry, Configuration}
use Rattle.memif.specs.Told.{DeviceTold, Second}
use Rattle.memif.specs.Clock.{Clock}
use Rattle.promise_blocks.specs.OverDevice.{is_of}
use Rattle.promise_blocks.specs.Operations.{AreOfJobs}
use Rattle.promise_run.specs.Beside.{Beside, ops_of}

-- So many of the first operations of a device were of its second part, or of its first one: the count goes on by one at each of these.
pub record CountsPart (second : Bool) (now : DeviceTold) (clock : Clock) (count : ℕ → ℕ) : Type 0 where
  pub none : count 0 ≡ 0
  pub of_second : (k : ℕ) → k < now.ops → k < last_count → clock.of_second k → count (suc k) ≡ count k + (if second then 1 else 0)
  pub of_first : (k : ℕ) → k < now.ops → k < last_count → ¬ clock.of_second k → count (suc k) ≡ count k + (if second then 0 else 1)

-- Where an operation is one of the second part exactly where a job of it was in hand, the history gives the same count.
abbrev pub OperationsAreCounted : Type 1
OperationsAreCounted =
    (second : Bool) (c : Configuration) (h : List Entry) (b : Beside) (now : DeviceTold) (clock : Clock) (count : ℕ → ℕ)
    → AreOfJobs c h now clock → ((block : ℕ) → b.blocks block ≡ is_of Second now.fixed block) → CountsPart second now clock count
    → (k : ℕ) → k ≤ now.ops → k ≤ last_count → ops_of second c h b k ≡ count k
