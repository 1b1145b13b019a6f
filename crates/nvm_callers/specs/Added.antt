-- What any number of a driver's turns adds to the history, with requests of others between them.
use Rattle.std.specs.Prelude.{◌≡◌, ℕ, not, IsTrue, List, ◌++◌, IfSome, Some}
use Rattle.std.specs.List.{list_all}
use Rattle.driver_moves.specs.nv_base.Count.{WereCounted}
use Rattle.driver_moves.specs.memif.Told.{DeviceTold}
use Rattle.driver_moves.specs.memif.Clock.{Clock}
use Rattle.driver_moves.specs.block_machine.Words.{Entry}
use Rattle.driver_moves.specs.ram_blocks.Told.{Told, told_at}
use Rattle.driver_moves.specs.nv_desk_copies.Front.{AreSynchronized}
use Rattle.driver_moves.specs.nvm_moves.script_walks.Runs.{is_found}
use Rattle.driver_moves.specs.nvm_shared.declared.terms.Terms.{Terms}
use Rattle.driver_moves.specs.nvm_shared.Locked.{desk_with}
use Rattle.driver_moves.specs.nvm_shared.Driving.{DriverState}
pub use Rattle.driver_moves.specs.Driving.{IsUncut}
use Rattle.driver_moves.specs.promise_run.RunHalves.{offs_in, tells_no_refusal}
use Rattle.nvm_callers.specs.Driven.{HasDriven}

-- none of the next copies of a synchronized block is to be refused
abbrev pub RefusesNone : List Told → Type 0
RefusesNone copies = (block : ℕ) → IfSome (told_at copies block) (λ s. s.to_refuse ≡ Some 0)

module _ {D C : Type 0} (told : D → DeviceTold) (clock : D → Clock) (copies : C → List Told)
    (is_store : C → ℕ → ℕ → List ℕ → Type 0) (looked : C → C → ℕ → ℕ → Type 0) (over : C → C → Type 0)
    (stands : C → ℕ → ℕ → List Entry → Type 0) (t : Terms) where
  -- The history went on, without a start-up, of which the device counted none. Where no copy is to be refused none was. Where no cut is
  -- planned each Off is a cut that was counted.
  pub record HasAdded (seen seen_new : List Entry) (old new : DriverState D C) : Type 0 where
    pub more : List Entry
    pub grows : seen_new ≡ seen ++ more
    pub no_start : IsTrue (list_all (λ e. not (is_found e)) more)
    pub starts : (told new.device).starts ≡ (told old.device).starts
    pub no_refusal : AreSynchronized t.config (copies old.copies) → RefusesNone (copies old.copies)
        → RefusesNone (copies new.copies) × IsTrue (list_all tells_no_refusal more)
    pub counted : IsUncut (desk_with t seen) (told old.device) → WereCounted (offs_in more) (told old.device).first.planning.unplanned (told new.device).first.planning.unplanned

  abbrev pub DrivingAdds : Type 0
  DrivingAdds =
      (seen seen_new : List Entry) (old new : DriverState D C) → HasDriven told clock copies is_store looked over stands t seen seen_new old new
      → HasAdded seen seen_new old new
