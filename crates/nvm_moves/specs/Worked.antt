-- What moves do at a device.
use Rattle.std.specs.Prelude.{ℕ, List, Option}
use Rattle.nvm_core.specs.memif.Clock.{Clock}
use Rattle.nvm_core.specs.nv_desk.Desk.{state_of}
use Rattle.nvm_core.specs.promise_blocks.Moves.{Move}
use Rattle.nvm_core.specs.promise_blocks.Payment.{Worn}
use Rattle.nvm_core.specs.promise_blocks.Work.{Work, IsWorked}
use Rattle.nvm_core.specs.DeviceWork.{AreWorkedTo, costs_in}
use Rattle.promise_run.specs.DeviceTurns.{HadPages}
use Rattle.nvm_moves.specs.Seen.{Seen, moment_seen, work_seen}

-- by what a clock tells of their operations moves keep to what was open, and leave this open
abbrev pub KeepToWork : Worn → Clock → Seen → Work → List Move → Type 0
KeepToWork worn clock s w moves = AreWorkedTo (costs_in s.device.fixed) (HadPages clock) worn s.desk.config (moment_seen s) (state_of s.desk) (work_seen s) w moves

-- and so does one move
abbrev pub KeepsToWork : Worn → Clock → Seen → Work → Move → Type 0
KeepsToWork worn clock s w m =
    (begins : Option ℕ) × IsWorked (costs_in s.device.fixed) (HadPages clock) worn s.desk.config (moment_seen s) (state_of s.desk) (work_seen s) m (record { begins = begins; behind = w })
