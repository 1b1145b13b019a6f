-- Power cuts that are planned, until they come.
use Rattle.std.specs.Prelude.{◌≡◌, ◌⊎◌, ◌<◌, ◌≤◌, ◌+◌, true, List, Option, Some, None}
use Rattle.uds_gateway.specs.nv_base.Count.{last_count}
use Rattle.uds_gateway.specs.script_walks.Words.{StepKind}
use Rattle.uds_gateway.specs.promise_run.Run.{DueCut}
use Rattle.uds_gateway.specs.promise_run.Turns.{Move, Planned, planned_by, AreInTime}
use Rattle.script_player.specs.Told.{StackTold, state_of, moment_of}

-- one stands, no later than it was planned, but for the faults since
pub record Stands (p : Planned) (t : StackTold) : Type 0 where
  pub cut : DueCut
  pub is : t.causes.plan ≡ Some cut
  pub later : t.ops < cut.due
  pub soon : cut.due + p.since ≤ p.due + t.faults

-- or the power is off; a count of faults at its end tells none
abbrev pub IsComing : Planned → StackTold → Type 0
IsComing p t = Stands p t ⊎ (((state_of t).off ≡ true) ⊎ (last_count ≤ t.faults))

-- so it is of a plan, if there is one
abbrev pub IsPending : Option Planned → StackTold → Type 0
IsPending None t = Unit {0}
IsPending (Some p) t = IsComing p t

-- CALLS
-- no cut that stands is missed, over a device of one part
abbrev pub MissesNone : StackTold → StackTold → Type 0
MissesNone old new = old.one ≡ true → (p : Planned) → Stands p old → IsComing p new

-- MOVES
-- behind none of these moves a cut is missed, and it is to come yet behind all of them
abbrev pub CarriesCuts : List Move → StackTold → StackTold → Type 0
CarriesCuts ms old new = old.one ≡ true → (p : Planned) → IsComing p old → AreInTime old.configuration (Some p) (state_of old) ms × IsComing p new

-- a step with these moves plans its own, while plans are taken, and misses none
abbrev pub PlansCuts : StepKind → List Move → StackTold → StackTold → Type 0
PlansCuts kind ms old new =
    old.one ≡ true → (plan : Option Planned) → IsPending plan old
    → AreInTime old.configuration (planned_by kind (moment_of old) plan) (state_of old) ms × IsPending (planned_by kind (moment_of old) plan) new
