-- A run of calls, at whose end what was due is posted.
use Rattle.std.specs.Prelude.{◌≡◌, ◌⊎◌, ◌≤◌, ◌+◌, ℕ, false, List, [], ◌∷◌}
use Rattle.block_machine.specs.nv_base.Count.{Rose}
use Rattle.nv_desk_copies.specs.nv_desk.Desk.{state_of}
use Rattle.nvm_laws.specs.Due.{StackNow, IsDue, IsNearer, PostsDue}

-- a call of a stack, with what the stack is behind it: a turn, or another one that isn't a start-up
pub data Call : Type 0 where
  Turns : (behind : StackNow) → Call
  Stays : (behind : StackNow) → Call

-- the turns among these calls
abbrev pub turns_in : List Call → ℕ
turns_in [] = 0
turns_in (Turns now ∷ calls) = turns_in calls + 1
turns_in (Stays now ∷ calls) = turns_in calls

-- WHAT A CALL DOES
-- a request, or the plan of a power cut, keeps what is due
abbrev pub KeepsDue : StackNow → StackNow → Type 0
KeepsDue old new = (number turns : ℕ) → IsDue number turns old → IsDue number turns new

-- the first part counted no fault, and the power is on
pub record IsCalmTurn (old new : StackNow) : Type 0 where
  pub faultless : ¬ Rose old.device.first.faults new.device.first.faults
  pub on : (state_of new.desk).off ≡ false

-- a turn posts what is due, or brings it nearer by one
abbrev pub TurnServesDue : StackNow → StackNow → Type 0
TurnServesDue old new = (number turns : ℕ) → IsCalmTurn old new → IsDue number turns old → PostsDue number old.desk new.desk ⊎ IsNearer number turns new

-- RUNS
-- each call does this, and each turn is calm
abbrev pub AreServing : StackNow → List Call → Type 0
AreServing old [] = Unit {0}
AreServing old (Turns new ∷ calls) = TurnServesDue old new × IsCalmTurn old new × AreServing new calls
AreServing old (Stays new ∷ calls) = KeepsDue old new × AreServing new calls

-- one of the turns posts it
abbrev pub ArePosting : (number : ℕ) → StackNow → List Call → Type 0
ArePosting number old [] = ⊥
ArePosting number old (Turns new ∷ calls) = PostsDue number old.desk new.desk ⊎ ArePosting number new calls
ArePosting number old (Stays new ∷ calls) = ArePosting number new calls

-- a run with as many turns as it is due within has posted it
abbrev pub CallsPostInTime : Type 0
CallsPostInTime = (number turns : ℕ) (now : StackNow) (calls : List Call) → AreServing now calls → IsDue number turns now → turns ≤ turns_in calls → ArePosting number now calls
