-- What the job in hand owes since its Pick, and what a turn pays.
use Rattle.std.specs.Prelude.{◌≡◌, ◌⊎◌, ◌≤◌, ◌++◌, ◌∷◌, [], ℕ, Bool, Option, IfSome}
use Rattle.std.specs.List.{Contains}
use Rattle.nvm_laws.specs.nv_base.Count.{WereCounted}
use Rattle.nvm_laws.specs.memif.Told.{DeviceTold, Part, PartTold, faults_of}
use Rattle.nvm_laws.specs.memif.Clock.{Clock}
use Rattle.nvm_laws.specs.block_machine.Words.{JobKind, Taken, Entry, Pick}
use Rattle.nvm_laws.specs.block_machine.Prices.{price_in_faults}
use Rattle.nvm_laws.specs.promise_blocks.Payment.{Worn, IsExcused}
use Rattle.nvm_laws.specs.nvm_device_laws.Tries.{Counted, IsWornOut, IsWornNext, is_hand_urgent, tries_of_done}
use Rattle.nvm_laws.specs.job_programs.Program.{Program, next_in}
use Rattle.nvm_laws.specs.job_programs.Laws.{failed_of}
use Rattle.nvm_laws.specs.job_programs.Failures.{failed_tries}
use Rattle.nvm_laws.specs.job_progress.Hand.{HandState}
use Rattle.nvm_laws.specs.nv_desk.Desk.{DeskState, state_of}
use Rattle.nvm_laws.specs.Keeps.{StackKeeps}
use Rattle.nvm_core.specs.Stack.{StackState}

-- the operations and the faults of a device
abbrev pub counted_of : DeviceTold → Counted
counted_of d = record { ops = d.ops; faults = faults_of d }

-- Each failed try of a program was counted since so many faults; or the device is worn out for the instance that is next,
-- and those of the others were; or it is for one that failed at every try.
abbrev pub TriesSince : Worn → (urgent : Bool) → ℕ → Counted → Program → Type 0
TriesSince worn urgent since now p =
    WereCounted (failed_tries p) since now.faults
    ⊎ (WereCounted (tries_of_done p) since now.faults × IsWornNext worn urgent now.ops p (next_in p))
    ⊎ ((index : ℕ) × Contains (failed_of p.indices p.done) index × IsWornOut worn urgent now.ops p index)

-- so it is of the job in hand, if one is, an immediate one or not
abbrev pub OwesSince : (urgent : Bool) → ℕ → Option HandState → DeviceTold → Clock → Type 0
OwesSince urgent since hand d clock = (since ≤ faults_of d) × IfSome hand (λ h. TriesSince clock.worn urgent since (counted_of d) h.program)

-- that of a desk is an immediate one
abbrev pub has_urgent : DeskState → Bool
has_urgent desk = is_hand_urgent desk.config (state_of desk)

-- A TURN
-- where a device was worn out, by the operations that were made so far
abbrev pub worn_so_far : DeviceTold → Clock → Worn
worn_so_far d clock = λ k n urgent. (k ≤ d.ops) × clock.worn k n urgent

-- What the job in hand owes was counted since, and behind a Pick since the count before it. An entry that was added is paid
-- by the faults that were counted since, or the device was worn out.
pub record PaysSince (since : ℕ) (old new : DeskState) (hand : Option HandState) (d d_new : DeviceTold) (clock_new : Clock) : Type 0 where
  pub owes : OwesSince (has_urgent new) since hand d_new clock_new
  pub anew : (block ops : ℕ) (kind : JobKind) (t : Taken) → new.entries ≡ old.entries ++ Pick block kind t ops ∷ [] → OwesSince (has_urgent new) (faults_of d) hand d_new clock_new
  pub pays : (e : Entry) → new.entries ≡ old.entries ++ e ∷ []
      → WereCounted (price_in_faults old.config (state_of old) e) since (faults_of d_new) ⊎ IsExcused old.config (worn_so_far d_new clock_new) (state_of old) e

-- So a turn pays, since whatever count what the job in hand owes was counted, where all is kept.
abbrev pub TurnPays : {D C : Type 0} → (told : D → DeviceTold) → (clock : D → Clock) → StackState D C → StackState D C → Type 0
TurnPays told clock old new =
    (before : Part → PartTold) (since : ℕ) → StackKeeps before old.desk old.hand (told old.device) (clock old.device)
    → OwesSince (has_urgent old.desk) since old.hand (told old.device) (clock old.device)
    → PaysSince since old.desk new.desk new.hand (told old.device) (told new.device) (clock new.device)
