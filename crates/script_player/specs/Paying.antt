-- What calls are by the one law of a move.
use Rattle.std.specs.Prelude.{◌≡◌, ◌++◌, ◌∷◌, [], true, false, List, Option, Some, None}
use Rattle.uds_gateway.specs.memif.Told.{DeviceTold}
use Rattle.uds_gateway.specs.memif.Trials.{Lasts}
use Rattle.uds_gateway.specs.block_machine.Words.{Entry}
use Rattle.uds_gateway.specs.nv_desk.Desk.{state_of as state_at}
use Rattle.uds_gateway.specs.nvm_device_laws.Turn.{TellsSlots}
use Rattle.uds_gateway.specs.nvm_laws.declared.turned.FoundAnswer.{FoundAnswer}
use Rattle.uds_gateway.specs.nvm_laws.declared.turned.FoundAnswer.TheVariants as found
use Rattle.uds_gateway.specs.promise_run.Turns.{Move, entries_of, entry_list}
use Rattle.uds_gateway.specs.promise_run.DeviceTurns.{HasMovesTo}
use Rattle.uds_gateway.specs.nvm_moves.Seen.{Seen, moment_seen}
use Rattle.uds_gateway.specs.nvm_moves.Beginning.{BeginsMoves}
use Rattle.uds_gateway.specs.nvm_moves.Moved.{MovesBy}
use Rattle.script_player.specs.Told.{StackTold, state_of, moment_of}

-- a stack is seen as it is told
pub record IsSeen (t : StackTold) (s : Seen) : Type 0 where
  pub between : s.begun ≡ None
  pub config : s.desk.config ≡ t.configuration
  pub state : state_at s.desk ≡ state_of t
  pub moment : moment_seen s ≡ moment_of t
  pub uncut : t.one ≡ true → t.causes.off ≡ false → s.uncut

-- CALLS
-- a turn is one move
abbrev pub TurnMoves : Seen → Seen → StackTold → StackTold → Type 0
TurnMoves v w old new = (e : Option Entry) × (new.entries ≡ old.entries ++ entry_list e) × MovesBy false (record { entry = e; behind = moment_of new } ∷ []) v w

-- so is a request that is answered
abbrev pub AskMoves : Seen → Seen → StackTold → StackTold → Type 0
AskMoves v w old new = (e : Entry) → new.entries ≡ old.entries ++ e ∷ [] → MovesBy false (record { entry = Some e; behind = moment_of old } ∷ []) v w

-- what was told of operations is told behind a call that makes none
pub record LastsOn (v w : Seen) : Type 0 where
  pub lasts : Lasts v.device v.clock w.device w.clock
  pub fixed : w.device.fixed ≡ v.device.fixed
  pub config : w.desk.config ≡ v.desk.config
  pub ops : w.device.ops ≡ v.device.ops
  pub told : TellsSlots w.device → TellsSlots v.device

-- and a start-up that stands; one that doesn't leaves no move
abbrev pub StartsAnew : Seen → Seen → StackTold → StackTold → Type 0
StartsAnew v w old new = (e : Entry) → new.entries ≡ old.entries ++ e ∷ [] → MovesBy false (record { entry = Some e; behind = moment_of new } ∷ []) v w

abbrev pub StartMoves : FoundAnswer → Seen → Seen → StackTold → StackTold → Type 0
StartMoves found.Ready v w old new = StartsAnew v w old new
StartMoves answer v w old new = LastsOn v w

-- ALL OF THEM
-- From a first start-up on these moves were made, by the words of what stands now; behind them start-ups may have failed, which made none.
pub record CameBy (p q : Seen) (ms : List Move) : Type 0 where
  pub stood : DeviceTold
  pub lasts : Lasts stood q.clock q.device q.clock
  pub ops : q.device.ops ≡ stood.ops
  pub told : TellsSlots q.device → TellsSlots stood
  pub came : BeginsMoves p → HasMovesTo false p.desk.config (p.desk.entries ++ entries_of ms) (moment_seen p) ms stood q.clock
