-- What is asked of the unit of a handle, and what comes of it.
use Rattle.std.specs.Prelude.{◌≡◌, ◌⊎◌, ◌≤◌, ℕ, List, false, true, Option, None, Some, IsSome, IsSomeAnd, IfOk, Result, length, option_map}
use Rattle.nvm.specs.block_config.Config.{block_of}
use Rattle.nvm.specs.block_machine.Blocks.{block_at, status_of}
use Rattle.nvm.specs.block_machine.Legal.{HasStore}
use Rattle.nvm.specs.block_machine.Reply.{reply_of}
use Rattle.nvm.specs.block_machine.Words.{Reply, Request}
use Rattle.nvm.specs.fls_model.Told.{Told, bytes_now}
use Rattle.nvm.specs.nv_desk.Desk.{state_of}
use Rattle.nvm.specs.nv_desk.Request.{whole_request}
use Rattle.nvm.specs.nv_desk.declared.ask.AskFault.{AskFault}
use Rattle.nvm.specs.nvm_flash.Made.{ComesBack, IsOrigin}
use Rattle.nvm.specs.nvm_flash.promise_device.Making.{Making}
use Rattle.nvm_c.specs.Filled.{IsFilled}
use Rattle.nvm_c.specs.Texts.{facts_of}
use Rattle.nvm_c.specs.Unit.{UnitState, unit_told, IsAskCall, IsPlanCall, IsStartCall, IsTurnCall, given_last, last_line, Opens, CameBack}
use Rattle.nvm_c.specs.Standing.{IsFoundLast, IsNotTold}
use Rattle.nvm_c.specs.declared.standing.LineFault.TheVariants as fault
use Rattle.nvm_c.specs.declared.work.Task.{Task}
use Rattle.nvm_c.specs.declared.work.Task.TheVariants as task
use Rattle.nvm_c.specs.declared.work.UnitWork.{UnitWork}
use Rattle.nvm_c.specs.declared.work.UnitWork.TheVariants as work
use Rattle.nvm_c.specs.declared.work.Outcome.{Outcome}
use Rattle.nvm_c.specs.declared.work.Outcome.TheVariants as outcome

-- TASKS
-- a request keeps the rule on numbers of stores
abbrev pub CanDo : Task → UnitState → Type 0
CanDo (task.Ask kind content) s = HasStore s.desk.config (whole_request kind content.now)
CanDo x s = Unit {0}

-- it asks this
abbrev pub IsTaskOf : Request → Task → Type 0
IsTaskOf r (task.Ask kind content) = whole_request kind content.now ≡ r
IsTaskOf r x = ⊥

-- its last start-up failed, so nothing was done
abbrev pub StaysDown : UnitState → UnitState → Type 0
StaysDown s t = (s.ready ≡ false) × (t ≡ s)

-- a power cut is planned: at an operation from the next one on, where the flash takes a plan
abbrev pub PlansCut : (nth keep : ℕ) → UnitState → UnitState → Type 0
PlansCut nth keep s t = (1 ≤ nth) × (1 ≤ (unit_told s).causes.takes) × IsPlanCall nth keep s t

-- a request was answered so
abbrev pub IsTaken : Request → Result Reply AskFault → UnitState → UnitState → Type 0
IsTaken request answer s t =
    (s.ready ≡ true) × IsAskCall request answer s t × IfOk answer (λ reply. reply ≡ reply_of s.desk.config s.desk.cap (state_of s.desk) request)

-- none is: the operation would be no later one, or the flash takes no plan any more
abbrev pub PlansNone : (nth : ℕ) → UnitState → Type 0
PlansNone nth s = (nth ≡ 0) ⊎ ((unit_told s).causes.takes ≡ 0)

abbrev pub Does : Task → Outcome → UnitState → UnitState → Type 0
Does (task.Ask kind content) (outcome.Asked answer) s t = IsTaken (whole_request kind content.now) answer s t
Does (task.Ask kind content) outcome.Down s t = StaysDown s t
Does task.Turn (outcome.Turned answer) s t = (s.ready ≡ true) × IsTurnCall answer s t
Does task.Turn outcome.Down s t = StaysDown s t
Does (task.Cut nth keep) outcome.Planned s t = (s.ready ≡ true) × PlansCut nth keep s t
Does (task.Cut nth keep) outcome.NotPlanned s t = (s.ready ≡ true) × (t ≡ s) × PlansNone nth s
Does (task.Cut nth keep) outcome.Down s t = StaysDown s t
Does task.Restart (outcome.Found answer) s t = IsStartCall answer s t
Does (task.Status block) (outcome.StatusIs result) s t = (result ≡ status_of (state_of s.desk) block) × (t ≡ s)
Does (task.Valid block) (outcome.Is valid) s t = (valid ≡ (block_at (state_of s.desk) block).valid) × (t ≡ s)
Does (task.Facts block) (outcome.FactsAre facts) s t = (facts ≡ option_map facts_of (block_of s.desk.config block)) × (t ≡ s)
Does (task.Ram block) (outcome.Copied size) s t = t ≡ s
Does task.Given (outcome.Copied size) s t = t ≡ s
Does task.Given outcome.Nothing s t = (given_last s ≡ None) × (t ≡ s)
Does task.Line (outcome.Line text) s t = (text ≡ last_line s) × (t ≡ s)
Does task.Line outcome.NoMemory s t = t ≡ s
Does task.Line outcome.Down s t = StaysDown s t × IsFoundLast s
Does task.Line outcome.Unsound s t = IsNotTold fault.Unsound s × (t ≡ s)
Does task.Entries (outcome.Count entries) s t = (entries ≡ length s.desk.entries) × (t ≡ s)
Does x y s t = ⊥

-- what a task copies to the caller: a block's RAM, or what the last entry gave
abbrev pub Copies : Task → Outcome → UnitState → (old new : List ℕ) → Type 0
Copies (task.Ram block) (outcome.Copied size) s old new = IsFilled (block_at (state_of s.desk) block).ram size old new
Copies task.Given (outcome.Copied size) s old new = IsSomeAnd (given_last s) (λ content. IsFilled content size old new)
Copies task.Given outcome.Nothing s old new = new ≡ old
Copies x y s old new = Unit {0}

-- WORK
abbrev pub CanServe : Making → Told → UnitWork → Option UnitState → Type 0
CanServe making entry (work.Open config flash cuts) before = (before ≡ None) × IsOrigin config flash cuts making entry
CanServe making entry work.Close before = IsSome before
CanServe making entry (work.Serve x) before = IsSomeAnd before (CanDo x)

abbrev pub Serves : Making → Told → UnitWork → Outcome → Option UnitState → Option UnitState → Type 0
Serves making entry (work.Open config flash cuts) outcome.Opened before behind = IsSomeAnd behind (Opens config making entry)
Serves making entry (work.Open config flash cuts) (outcome.NotOpened fault lent) before behind =
    (behind ≡ None) × IsSome lent.bytes × ((exit : Told) × ComesBack config fault flash exit × (lent.bytes ≡ bytes_now exit))
Serves making entry work.Close (outcome.Closed lent) (Some s) behind = (behind ≡ None) × CameBack entry s lent.bytes
Serves making entry (work.Serve x) y (Some s) (Some t) = Does x y s t
Serves making entry w y before behind = ⊥

abbrev pub Hands : UnitWork → Outcome → Option UnitState → (old new : List ℕ) → Type 0
Hands (work.Serve x) y (Some s) old new = Copies x y s old new
Hands w y before old new = Unit {0}
