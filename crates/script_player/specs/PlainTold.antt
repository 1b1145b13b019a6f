-- What is told of a stack whose application stores in memory.
use Rattle.std.specs.Prelude.{ℕ, ◌+◌, not, Bool, List, length, map, option_map, unwrap_or, if◌then◌else◌, Option, None}
use Rattle.uds_gateway.specs.nv_base.declared.plan.Plan.{Plan}
use Rattle.uds_gateway.specs.promise_run.Run.{DueCut}
use Rattle.uds_gateway.specs.memif.Told.{DeviceTold, faults_of, is_off, nothing_open}
use Rattle.uds_gateway.specs.ram_blocks.declared.plain_block.PlainBlock.{PlainBlock}
use Rattle.uds_gateway.specs.ram_blocks.Told.{Told, to_refuse_of}
use Rattle.uds_gateway.specs.ram_blocks.Plain.{told_of, store_of}
use Rattle.uds_gateway.specs.nv_desk.Desk.{DeskState}
use Rattle.uds_gateway.specs.job_progress.Hand.{HandState}
use Rattle.uds_gateway.specs.nvm_core.Stack.{StackState}
use Rattle.uds_gateway.specs.nvm_laws.Work.{stack_work}
use Rattle.script_player.specs.Told.{StackTold, Causes}

-- REFUSED COPIES

-- how many of a block's next copies are refused
abbrev pub to_refuse_in : List Told → ℕ → ℕ
to_refuse_in copies id = unwrap_or (to_refuse_of copies id) 0

-- POWER CUTS

-- when so many operations were made, a plan's cut
abbrev pub due_cut : ℕ → Plan → DueCut
due_cut ops plan = record { due = ops + plan.left; keep = plan.keep }

abbrev pub plan_from : Bool → ℕ → Option Plan → Option DueCut
plan_from off ops plan = if off then None else option_map (due_cut ops) plan

-- the operations of both parts
abbrev pub ops_in : DeviceTold → ℕ
ops_in d = d.ops

-- The plan of the first part. A device that is off makes no operation, so none comes until it is on.
abbrev pub plan_in : DeviceTold → Option DueCut
plan_in d = plan_from (is_off d) (ops_in d) d.first.planning.plan

-- the plans that the first part takes yet
abbrev pub takes_in : DeviceTold → ℕ
takes_in d = d.first.planning.takes

-- no step plans a cut of the second part
abbrev pub unplanned_in : DeviceTold → ℕ
unplanned_in d = d.first.planning.unplanned + (d.second.planning.unplanned + length d.second.planning.came)

abbrev pub came_in : DeviceTold → List ℕ
came_in d = d.first.planning.came

-- THE STACK

abbrev pub causes_in : List PlainBlock → DeviceTold → Causes
causes_in copies d = record {
  to_refuse = to_refuse_in (map told_of copies);
  unplanned = unplanned_in d;
  came = came_in d;
  takes = takes_in d;
  plan = plan_in d;
  off = is_off d;
}

-- what is told of its parts
abbrev pub shown : DeskState → Option HandState → List PlainBlock → Bool → DeviceTold → StackTold
shown desk hand copies ready d = record {
  configuration = desk.config;
  cap = desk.cap;
  entries = desk.entries;
  ready = ready;
  stores = map store_of copies;
  faults = faults_of d;
  ops = ops_in d;
  work = stack_work desk hand d;
  busy = not (nothing_open d);
  one = not d.fixed.two;
  causes = causes_in copies d;
}

-- and of the whole, by what its device tells
abbrev pub told_by : {D : Type 0} → (device : D → DeviceTold) → StackState D (List PlainBlock) → StackTold
told_by device s = shown s.desk s.hand s.copies s.ready (device s.device)
