-- A flash in memory, as contracts see it.
use Rattle.std.specs.Prelude.{◌≡◌, ◌↔◌, ◌≤◌, ℕ, List, [], IsSome, false, Some}
use Rattle.nv_base.specs.Count.{next_count}
use Rattle.nv_base.specs.Plan.{no_planning}
use Rattle.fls_model.specs.Told.{Told, changes_in}

-- what is told of it, how many changing operations it has room to tell, and for how many it was asked since its attach
pub record InMemory : Type 0 where
  pub told : Told
  pub calls : ℕ
  pub asked : ℕ

-- these bytes, not attached yet
abbrev pub in_memory : List ℕ → ℕ → InMemory
in_memory bytes calls = record {
  told = record {
    geometry = record { page = 0; sector = 0; sectors = 0 };
    bytes = Some (record { now = bytes; changes = Some []; room = calls });
    ops = 0;
    faults = 0;
    cuts = 0;
    off = false;
    planning = no_planning;
  };
  calls = calls;
  asked = 0;
}

-- the list of changes is told exactly while it has room
abbrev pub TellsInRoom : InMemory → Type 0
TellsInRoom m = IsSome (changes_in m.told.bytes) ↔ (m.asked ≤ m.calls)

-- one more operation was asked for
pub record IsAskedOnce (old new : InMemory) : Type 0 where
  pub calls : new.calls ≡ old.calls
  pub asked : new.asked ≡ next_count old.asked
  pub tells : TellsInRoom new

-- its list begins at an attach
pub record IsBegun (old new : InMemory) : Type 0 where
  pub calls : new.calls ≡ old.calls
  pub asked : new.asked ≡ 0
  pub tells : changes_in new.told.bytes ≡ Some []
