-- A shared stack at its beginning and at its end.
use Rattle.std.specs.Prelude.{◌≡◌, ◌⊎◌, ◌<◌, ℕ, Bool, true, List, [], ◌∷◌}
use Rattle.nvm_core.specs.memif.Told.{DeviceTold, Part, PartTold}
use Rattle.nvm_core.specs.memif.Clock.{Clock}
use Rattle.nvm_core.specs.block_machine.Words.{Entry, Instance, Mark, Found, Configuration}
use Rattle.nvm_core.specs.ram_blocks.Told.{Told}
use Rattle.nvm_core.specs.nv_desk.Desk.{DeskState, first_desk, state_of}
use Rattle.nvm_core.specs.nv_desk_copies.Front.{AreSynchronized}
use Rattle.nvm_core.specs.nvm_found.Found.{FailsToFind, Finds}
use Rattle.nvm_core.specs.nvm_laws.Ties.{IsTied}
use Rattle.nvm_core.specs.nvm_laws.declared.turned.FoundAnswer.TheVariants as found
use Rattle.nvm_core.specs.nvm_laws.DueLaws.{NextIsPending}
use Rattle.nvm_core.specs.Stack.{StackState}
use Rattle.nvm_core.specs.StartUps.{DownKeepsAsTold, StartsKeep, StartsUp}
use Rattle.turn_gate.specs.Pass.{beginner, knows}
use Rattle.nvm_shared.specs.Behind.{HandIsPending}
use Rattle.nvm_shared.specs.declared.terms.Terms.{Terms}
use Rattle.nvm_shared.specs.declared.opening.ShareFault.{ShareFault}
use Rattle.nvm_shared.specs.declared.opening.ShareFault.TheVariants as why
use Rattle.nvm_shared.specs.Locked.{terms_of, desk_with}
use Rattle.nvm_shared.specs.Passes.{SharedState, PassValue, IsUserOf}
use Rattle.nvm_shared.specs.Driving.{DriverState, Drives, stack_of}

-- it tells what it holds until the first operation, at least, nothing was asked of it, and the promise is kept so far
abbrev pub TellsAtFirst : Configuration → ℕ → DeviceTold → Clock → Type 0
TellsAtFirst c cap d clock = (d.tells ≡ true) × (d.ops ≡ 0) × ((before : Part → PartTold) × DownKeepsAsTold before (first_desk c cap) d clock)

-- one start-up and no more
abbrev pub IsFirst : List Entry → Type 0
IsFirst h = (marks : List (Instance × Mark)) × (ops : ℕ) × (h ≡ Found marks ops ∷ [])

-- what never changes of a stack's desk
abbrev pub terms_at : DeskState → Bool → Terms
terms_at desk tells = terms_of (record { desk = desk; tells = tells })

-- the parts of this stack, which is up
pub record IsShared {D C : Type 0} (told : D → DeviceTold) (copies : C → List Told) (s : StackState D C) (tells : Bool) (shared : SharedState) (p : PassValue) (r : DriverState D C) : Type 0 where
  pub terms : shared.terms ≡ terms_at s.desk tells
  pub own : IsUserOf shared p
  pub knows_it : knows p ≡ beginner s.desk.entries shared.terms
  pub driver : r ≡ record { device = s.device; copies = s.copies; hand = s.hand }
  pub tied : IsTied s.desk s.hand (told s.device)
  pub pending : HandIsPending (state_of s.desk)
  pub next : NextIsPending s.desk.config (state_of s.desk)
  pub synchronized : AreSynchronized s.desk.config (copies s.copies)

-- they are those of this stack behind its first start-up, and the driver's turns may begin
pub record IsMade {D C : Type 0} (told : D → DeviceTold) (clock : D → Clock) (copies : C → List Told) (s : StackState D C) (tells : Bool)
    (shared : SharedState) (p : PassValue) (r : DriverState D C) : Type 0 where
  pub terms : shared.terms ≡ terms_at s.desk tells
  pub own : IsUserOf shared p
  pub knows_it : knows p ≡ beginner (knows p).seen shared.terms
  pub starts : StartsUp told s (stack_of (desk_with shared.terms (knows p).seen) r)
  pub drives : Drives told clock copies tells (desk_with shared.terms (knows p).seen) r
  pub keeps : StartsKeep found.Ready s.desk (told s.device) (clock s.device) (desk_with shared.terms (knows p).seen) (told r.device) (clock r.device)

-- Why there is none, and what the device is then: a fault of it was counted in the start-up; the start-up's entry and an Off behind
-- it don't fit; or there was no memory, and the device is as it was or is started.
abbrev pub WhyNot : DeviceTold → ℕ → ShareFault → DeviceTold → Type 0
WhyNot old cap why.Fault new = FailsToFind old new
WhyNot old cap why.NoRoom new = (cap < 2) × (new ≡ old)
WhyNot old cap why.Memory new = (new ≡ old) ⊎ ((marks : List (Instance × Mark)) × Finds marks old new)
