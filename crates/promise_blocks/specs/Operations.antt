-- What a history tells of the operations and the start-ups of its device.
use Rattle.std.specs.Prelude.{◌≡◌, ◌<◌, ◌+◌, ◌↔◌, ℕ, Bool, false, IsTrue, List, [], ◌∷◌, Option}
use Rattle.std.specs.Option.{option_map_or}
use Rattle.block_machine.specs.nv_base.Count.{last_count, WereCounted}
use Rattle.memif.specs.Told.{DeviceTold, Part, First, Second, part_at}
use Rattle.memif.specs.Clock.{Clock}
use Rattle.block_machine.specs.Words.{Entry, Found, Configuration}
use Rattle.block_machine.specs.State.{State, Job}
use Rattle.block_machine.specs.Blocks.{job_block}
use Rattle.block_machine.specs.Steps.{after}
use Rattle.block_machine.specs.History.{up_to}
use Rattle.promise_blocks.specs.OverDevice.{is_of}

-- OPERATIONS

-- the job in hand, if there is one, is on one of these blocks
abbrev pub is_on : (ℕ → Bool) → Option Job → Bool
is_on of hand = option_map_or (λ j. of (job_block j)) hand false

-- an operation is one of the second part exactly where a job on a block of it was in hand then, by the history alone; past the
-- end of the count none is told
abbrev pub AreOfJobs : Configuration → List Entry → DeviceTold → Clock → Type 0
AreOfJobs c h now clock =
    (k : ℕ) → k < last_count → k < now.ops → clock.of_second k ↔ IsTrue (is_on (is_of Second now.fixed) (after c (up_to k h)).hand)

-- START-UPS
abbrev pub start_ups_in : Entry → ℕ
start_ups_in (Found marks ops) = 1
start_ups_in e = 0

-- the start-ups that a history tells
abbrev pub founds : List Entry → ℕ
founds [] = 0
founds (e ∷ es) = start_ups_in e + founds es

-- Each start-up of a device is told by a Found, but for those that failed, in each of which a part counted a fault.
pub record AreStartsTold (h : List Entry) (now : DeviceTold) : Type 0 where
  -- by the part that counted the fault
  pub failed : Part → ℕ
  pub counted : (p : Part) → WereCounted (failed p) 0 (part_at p now).faults
  pub all : now.starts ≡ founds h + (failed First + failed Second)
