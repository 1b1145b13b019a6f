-- A unit: a stack over a flash, behind its first start-up, and what its flash comes back with.
use Rattle.std.specs.Prelude.{◌≡◌, ℕ, true, false, List, None}
use Rattle.nvm_flash.specs.fls_model.Told.{Told, Change}
use Rattle.nvm_flash.specs.promise_device.FlashRun.{FlashRun, StartsSound, TellsBytes}
use Rattle.nvm_flash.specs.fee_told.Device.{Device, told_of}
use Rattle.nvm_flash.specs.ram_blocks.declared.plain_block.PlainBlock.{PlainBlock}
use Rattle.nvm_flash.specs.nvm_core.Stack.{StackState}
use Rattle.nvm_flash.specs.promise_run.Promise.{BeginsWell, Promise, making_of}
use Rattle.nvm_flash.specs.promise_run.Refusals.{RefusesAsAsked}
use Rattle.nvm_flash.specs.promise_run.Run.{Run, Course, End, FlashFault, HasOrder, has_cutter, CutsExplain}
use Rattle.nvm.specs.Steps.{KeepsCalls}

abbrev pub UnitState : Type 0
UnitState = StackState Device (List PlainBlock)

abbrev pub flash_run : Told → Told → List Change → FlashRun
flash_run entry exit operations = record { entry = entry; exit = exit; operations = operations }

-- a run over its flash, which followed this course and came to this end
abbrev pub run_of : UnitState → Told → Told → List Change → Course → End → Run
run_of s entry exit operations course end = record {
  configuration = s.desk.config;
  most = s.desk.cap;
  course = course;
  end = end;
  history = s.desk.entries;
  flash = flash_run entry exit operations;
  cuts = (told_of s.device).first.planning.came;
  beside = None;
}

-- What the flash comes back with. It has the configuration's shape, and no cut planned while it is on. The history has moves that keep
-- what the steps of a script keep, at any end, that of a failed start-up where the last one failed. A run of steps that had this history
-- begins well until its first operation, and from a sound image on it keeps the promise, where its steps explain the history, its
-- refused copies and its power cuts.
pub record Closes (entry exit : Told) (s : UnitState) : Type 0 where
  pub geometry : exit.geometry ≡ s.desk.config.geometry
  pub no_plan : exit.off ≡ false → exit.planning.plan ≡ None
  pub operations : List Change
  pub turns : (course : Course) (end : End) → (end ≡ FlashFault → s.ready ≡ false) → KeepsCalls (run_of s entry exit operations course end)
  pub early : (course : Course) (end : End) → has_cutter course ≡ true → TellsBytes (flash_run entry exit operations) → BeginsWell (run_of s entry exit operations course end)
  pub promise : TellsBytes (flash_run entry exit operations) → StartsSound (making_of s.desk.config) (flash_run entry exit operations)
      → (course : Course) (end : End) → has_cutter course ≡ true
      → HasOrder (run_of s entry exit operations course end) s.desk.entries
      → ((id : ℕ) → RefusesAsAsked s.desk.config course s.desk.entries id)
      → CutsExplain course s.desk.entries (told_of s.device).first.planning.came entry.cuts (told_of s.device).first.planning.unplanned
      → Promise (run_of s entry exit operations course end)
