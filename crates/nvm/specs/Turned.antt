-- What the calls of a unit made, as moves, from its first start-up on.
use Rattle.std.specs.Prelude.{◌≡◌, ℕ, true, false, List, [], ◌∷◌, ◌++◌, map, Option, Some, None, Result, IfOk}
use Rattle.nvm_flash.specs.nv_base.Count.{Rose}
use Rattle.nvm_flash.specs.memif.Told.{Part, PartTold, faults_of}
use Rattle.nvm_flash.specs.memif.Trials.{Lasts}
use Rattle.nvm_flash.specs.block_machine.Words.{Entry, Ask, Request, Reply}
use Rattle.nvm_flash.specs.nv_desk.declared.ask.AskFault.{AskFault}
use Rattle.nvm_flash.specs.fee_core.Tells.{told_clock}
use Rattle.nvm_flash.specs.fee_told.Device.{told_of}
use Rattle.nvm_flash.specs.nvm_device_laws.Turn.{TellsSlots}
use Rattle.nvm_flash.specs.nvm_laws.Keeps.{StackKeepsAsTold, DownKeepsAsTold}
use Rattle.nvm_flash.specs.promise_run.Turns.{Move, AreMoves, entry_list}
use Rattle.nvm_moves.specs.Seen.{Seen, moment_seen, seen_in}
use Rattle.nvm_moves.specs.Beginning.{BeginsMoves}
use Rattle.nvm_moves.specs.Moved.{MovesBy}
use Rattle.nvm.specs.Closing.{UnitState}
use Rattle.nvm.specs.Steps.{step_of, one_each}

-- as the law of a move sees it, while its last start-up stands
abbrev pub unit_seen : UnitState → Seen
unit_seen s = seen_in told_of told_clock s

-- WHAT A CALL MAKES
-- a request that is answered is one move
abbrev pub AsksMove : (caller : ℕ) → Request → Result Reply AskFault → UnitState → UnitState → Type 0
AsksMove caller r answer s t = IfOk answer (λ reply. MovesBy false (record { entry = Some (Ask caller r reply); behind = moment_seen (unit_seen s) } ∷ []) (unit_seen s) (unit_seen t))

-- so is a turn, with the entry that it adds, if any
abbrev pub TurnsMove : UnitState → UnitState → Type 0
TurnsMove s t = (e : Option Entry) × (t.desk.entries ≡ s.desk.entries ++ entry_list e) × MovesBy false (record { entry = e; behind = moment_seen (unit_seen t) } ∷ []) (unit_seen s) (unit_seen t)

-- a plan of a power cut is none
abbrev pub PlansMove : UnitState → UnitState → Type 0
PlansMove s t = MovesBy false [] (unit_seen s) (unit_seen t)

-- FROM THE FIRST START-UP ON
-- Start-ups failed since, each by a fault, and made no operation. What the history tells stays, and a further start-up has what it needs.
pub record HasFallen (last s : UnitState) : Type 0 where
  pub desk : s.desk ≡ record last.desk { prepared = s.desk.prepared }
  pub fixed : (told_of s.device).fixed ≡ (told_of last.device).fixed
  pub ops : (told_of s.device).ops ≡ (told_of last.device).ops
  pub lasts : Lasts (told_of last.device) (told_clock last.device) (told_of s.device) (told_clock s.device)
  pub risen : Rose (faults_of (told_of last.device)) (faults_of (told_of s.device))
  pub told : TellsSlots (told_of s.device) → TellsSlots (told_of last.device)
  pub kept : (before : Part → PartTold) → StackKeepsAsTold before last.desk last.hand (told_of last.device) (told_clock last.device)
      → DownKeepsAsTold before s.desk (told_of s.device) (told_clock s.device)

-- by these moves the unit came to where it stood last
pub record HasStood (moves : List Move) (began s : UnitState) : Type 0 where
  pub last : UnitState
  pub moved : MovesBy false moves (unit_seen began) (unit_seen last)
  pub since : HasFallen last s

-- From its first start-up on its calls made these moves, one each.
pub record HasTurned (s : UnitState) : Type 0 where
  pub began : UnitState
  pub begins : BeginsMoves (unit_seen began)
  pub moves : List Move
  pub calls : AreMoves (moment_seen (unit_seen began)) (map step_of moves) (one_each moves)
  pub up : s.ready ≡ true → MovesBy false moves (unit_seen began) (unit_seen s)
  pub down : s.ready ≡ false → HasStood moves began s
