-- The stack that a command runs over a flash.
use Rattle.std.specs.Prelude.{◌≡◌, ◌≤◌, ℕ, Bool, true, false, List, [], Option, None}
use Rattle.nvm_flash.specs.nv_base.Count.{Rose, WereCounted}
use Rattle.nvm_flash.specs.nv_base.Geometry.{size_of}
use Rattle.nvm_flash.specs.block_config.Config.{Configuration}
use Rattle.nvm_flash.specs.block_config.Rules.{IsLegalConfig}
use Rattle.nvm_flash.specs.memif.Told.{Part, PartTold, DeviceTold, faults_of}
use Rattle.nvm_flash.specs.fls_model.Told.{Told, Change}
use Rattle.script_player.specs.script_walks.Words.{Step}
use Rattle.script_player.specs.script_walks.Texts.{AreValues}
use Rattle.nvm_flash.specs.block_machine.Words.{Entry}
use Rattle.nvm_flash.specs.promise_run.Run.{Run, Course, Played, End, cap, HasOrder, LeavesFlash, CutsExplain}
use Rattle.nvm_flash.specs.promise_run.Refusals.{RefusesAsAsked}
use Rattle.nvm_flash.specs.promise_run.Promise.{Promise, BeginsWell, making_of}
use Rattle.nvm_flash.specs.memif.Clock.{Clock}
use Rattle.nvm_flash.specs.nv_desk.Desk.{DeskState}
use Rattle.nvm_flash.specs.job_progress.Hand.{HandState}
use Rattle.nvm_flash.specs.promise_run.BankTurns.{TellsRestarts}
use Rattle.nvm_flash.specs.promise_device.Bridge.{Bridges, reading_of}
use Rattle.nvm_flash.specs.promise_device.FlashRun.{CountsAll, TellsBytes, StartsSound}
use Rattle.script_player.specs.PlainKept.{IsKept, AreStartsFound}
use Rattle.script_player.specs.Told.{StackTold, moment_of}
use Rattle.nvm_callers.specs.nvm_moves.Seen.{Seen, moment_seen}
use Rattle.script_player.specs.Made.{IsFresh}
use Rattle.nvm_flash.specs.promise_run.Halves.{beyond_end}
use Rattle.nvm_flash.specs.declared.device.MakeFault.{MakeFault}
use Rattle.nvm_flash.specs.declared.device.MakeFault.TheVariants as fault
use Rattle.nvm_lines.specs.declared.stop.Stop.{Stop}
use Rattle.nvm_lines.specs.declared.stop.Stop.TheVariants as stop
use Rattle.nvm_top.specs.Play.{IsStartStop, IsStepsEnd, MissesSecond}
use Rattle.nvm_lines.specs.Stop.{status_of}

-- a run over one flash that followed this course and came to this end
abbrev pub run_of : Configuration → List Entry → Told → Told → List Change → List ℕ → Course → End → Run
run_of c h entry exit operations cuts course end =
    record { configuration = c; most = cap; course = course; end = end; history = h; flash = record { entry = entry; exit = exit; operations = operations }; cuts = cuts; beside = None }

-- behind its first start-up, of a legal configuration, with so many power cuts that can be planned
pub record IsStarted (c : Configuration) (cuts : ℕ) (before : PartTold) (t : StackTold) : Type 0 where
  pub configuration : t.configuration ≡ c
  pub legal : IsLegalConfig c
  pub one_device : c.eeprom ≡ None
  pub most : t.cap ≡ cap
  pub fresh : IsFresh t
  pub ops : fresh.ops ≡ t.ops
  pub takes : cuts ≤ t.causes.takes
  pub one : t.one ≡ true
  pub none : before.faults ≡ 0
  pub faults : before.faults ≤ t.faults
  pub unplanned : before.planning.unplanned ≤ t.causes.unplanned
  pub came : t.causes.came ≡ []
  pub on : t.causes.off ≡ false

-- why it isn't made, where the flash is to have so many bytes
abbrev pub stop_of_make : MakeFault → ℕ → Stop
stop_of_make (fault.WrongSize found) need = stop.WrongSize found need
stop_of_make fault.Flash need = stop.FlashFault
stop_of_make fault.InUse need = stop.InUse
stop_of_make fault.NoSecond need = stop.NoSecond
stop_of_make fault.Memory need = stop.Memory

-- why it isn't started: a second device is missing, the flash isn't attached, or start-up failed by a fault, or memory was wanting
pub record StopsAtStart (c : Configuration) (entry exit : Told) (stop : Stop) : Type 0 where
  pub why : IsStartStop c entry.bytes stop
  pub second : MissesSecond c stop
  pub end : IsStepsEnd (size_of c.geometry) entry exit (status_of stop)
  pub flash : LeavesFlash c.geometry (record { entry = entry; exit = exit; operations = [] })
  pub faults : entry.faults ≤ exit.faults
  pub cuts : entry.cuts ≤ exit.cuts

-- what is kept of a player's stack: the promise over its device, and that its start-ups are told
abbrev pub KeepsPlayed : Bool → (Part → PartTold) → DeskState → Option HandState → DeviceTold → Clock → Type 0
KeepsPlayed ready before desk hand d clock = IsKept ready before desk hand d clock × AreStartsFound ready desk d

-- what is told of a stack at two moments is what is seen of it
pub record AreToldOf (p q : Seen) (old t : StackTold) : Type 0 where
  pub entries : p.desk.entries ≡ old.entries
  pub configuration : p.desk.config ≡ old.configuration
  pub moment : moment_seen p ≡ moment_of old
  pub faults : faults_of q.device ≡ t.faults

-- The flash is given back: what the stack's device told of it is so; the flash is off only where the device was, and plans no cut while it
-- is on; the numbers and bytes of its history are those of a program; and where this was kept, a run that followed a script keeps the promise,
-- where its flash tells sound bytes at first and its steps explain its refused copies and its power cuts; until its first operation it does
-- over any bytes.
pub record Vouches (Kept : Type 0) (q : Seen) (before : PartTold) (t : StackTold) (entry exit : Told) : Type 0 where
  pub operations : List Change
  pub bridge : Bridges (reading_of (making_of t.configuration)) true (record { entry = entry; exit = exit; operations = operations }) before q.device (beyond_end q.clock)
  pub second : q.device.second.faults ≡ 0
  pub counts : CountsAll (record { entry = entry; exit = exit; operations = operations }) t.causes.came
  pub geometry : exit.geometry ≡ t.configuration.geometry
  pub off : exit.off ≡ true → t.causes.off ≡ true
  pub plan : exit.off ≡ false → exit.planning.plan ≡ None
  pub more : entry.faults ≤ exit.faults
  pub faults : Rose before.faults t.faults → Rose entry.faults exit.faults
  pub cuts : (n : ℕ) → WereCounted n before.planning.unplanned t.causes.unplanned → WereCounted n entry.cuts exit.cuts
  pub values : AreValues t.entries
  -- where this was kept, few switches of its device began again
  pub restarts : Kept → (made left : List Step) (pieces : List (List Entry)) (end : End)
      → (now : DeviceTold) × TellsRestarts (run_of t.configuration t.entries entry exit operations t.causes.came (Played made pieces left) end) before now
  pub early : Kept → TellsBytes (record { entry = entry; exit = exit; operations = operations }) → (made left : List Step) (pieces : List (List Entry)) (end : End)
      → BeginsWell (run_of t.configuration t.entries entry exit operations t.causes.came (Played made pieces left) end)
  pub promise : Kept → TellsBytes (record { entry = entry; exit = exit; operations = operations })
      → StartsSound (making_of t.configuration) (record { entry = entry; exit = exit; operations = operations })
      → (made left : List Step) (pieces : List (List Entry)) (end : End)
      → HasOrder (run_of t.configuration t.entries entry exit operations t.causes.came (Played made pieces left) end) t.entries
      → ((id : ℕ) → RefusesAsAsked t.configuration (Played made pieces left) t.entries id)
      → CutsExplain (Played made pieces left) t.entries t.causes.came before.planning.unplanned t.causes.unplanned
      → Promise (run_of t.configuration t.entries entry exit operations t.causes.came (Played made pieces left) end)
