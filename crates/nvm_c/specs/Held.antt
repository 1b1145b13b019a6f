-- What a handle owns: nothing at null, and else what a box owns of a unit that was made so.
use base.Fml.{Fml, feq}
use denote.RawPtr.{Ptr, null_ptr}
use denote.RattleType.{RattleType}
use mathlib.Core.Path.{refl}
use Rattle.std.specs.Prelude.{◌≡◌, ℕ, Option, None, Some, IsSome, IsSomeAnd}
use Rattle.std.specs.Coded.{Coded, code_by, coded×, coded_ℕ, coded_option}
use Rattle.std.specs.Box.Ownership.{box_owns}
use Rattle.std.specs.contracts.marker.Brand as Brand
use Rattle.std.specs.declared.marker.Brand.{Brand as Marker}
use Rattle.nvm.specs.block_config.Config.{Configuration}
use Rattle.nvm.specs.block_config.contracts.config.Config as ConfigRow
use Rattle.nvm.specs.block_machine.Words.{Request}
use Rattle.nvm.specs.fls_devices.Cutter.{cutting, told_cutting}
use Rattle.nvm.specs.fls_model.Told.{Told}
use Rattle.nvm.specs.nvm_flash.fee_core.declared.origin.Origin.{Ghosts}
use Rattle.nvm.specs.nvm_flash.fee_core.Origin.{no_making, no_flash}
use Rattle.nvm.specs.nvm_flash.promise_run.Promise.{making_of}
use Rattle.nvm_c.specs.Room.{heap_block}
use Rattle.nvm_c.specs.Unit.{UnitState}
use Rattle.nvm_c.specs.Work.{CanDo, IsTaskOf, Serves}
use Rattle.lent_flash.specs.contracts.flash.LentFlash as FlashRow
use Rattle.nvm_c.specs.contracts.unit.LentUnit as UnitRow
use Rattle.nvm_c.specs.declared.work.Task.{Task}
use Rattle.nvm_c.specs.declared.work.UnitWork.{UnitWork}
use Rattle.nvm_c.specs.declared.work.UnitWork.TheVariants as work
use Rattle.nvm_c.specs.declared.work.Outcome.{Outcome}

-- what it was opened with, its configuration, what its flash told and the planned cuts that there may be, and what it is now
pub record Kept : Type 0 where
  pub config : Configuration
  pub flash : Told
  pub cuts : ℕ
  pub state : UnitState

abbrev pub origin_by : Configuration → Told → ℕ → Ghosts Marker
origin_by config flash cuts = record { making = making_of config; entry = told_cutting (cutting flash cuts) }

-- what its device was made of
abbrev pub origin_of : Kept → Ghosts Marker
origin_of k = origin_by k.config k.flash k.cuts

-- the type of a unit that was made so
abbrev pub row_at : Ghosts Marker → RattleType
row_at o = UnitRow.the_row Brand.the_row o

abbrev pub held : Ptr → Option Kept → Fml
held p None = feq Ptr p null_ptr
held p (Some k) = box_owns heap_block (row_at (origin_of k)) p k.state

abbrev pub kept_coded : Coded (Option Kept)
kept_coded = coded_option (code_by (Configuration × (Told × (ℕ × UnitState)))
    (coded× ConfigRow.the_row.coded (coded× FlashRow.the_row.coded (coded× coded_ℕ (row_at (record { making = no_making; entry = no_flash })).coded)))
    (λ k. (k.config, (k.flash, (k.cuts, k.state)))) (λ p. record { config = p.0; flash = p.1.0; cuts = p.1.1.0; state = p.1.1.1 }) (λ k. refl))

-- WORK
abbrev pub state_in : Option Kept → Option UnitState
state_in None = None
state_in (Some k) = Some k.state

-- what its device was made of, or is now
abbrev pub origin_for : Option Kept → UnitWork → Ghosts Marker
origin_for (Some k) w = origin_of k
origin_for None (work.Open config flash cuts) = origin_by config flash cuts
origin_for None w = record { making = no_making; entry = no_flash }

-- what a handle keeps of a state
abbrev pub kept_as : Option Kept → UnitWork → Option UnitState → Option Kept
kept_as before w None = None
kept_as (Some k) w (Some s) = Some (record k { state = s })
kept_as None (work.Open config flash cuts) (Some s) = Some (record { config = config; flash = flash; cuts = cuts; state = s })
kept_as None w (Some s) = None

-- a closed handle is opened, an open one does all else
abbrev pub CanRun : Option Kept → UnitWork → Type 0
CanRun before (work.Open config flash cuts) = before ≡ None
CanRun before work.Close = IsSome before
CanRun before (work.Serve x) = IsSomeAnd before (λ k. CanDo x k.state)

abbrev pub Ran : Option Kept → UnitWork → Outcome → Option Kept → Type 0
Ran before w y behind =
    (s : Option UnitState) × (behind ≡ kept_as before w s) × Serves (origin_for before w).making (origin_for before w).entry w y (state_in before) s

-- the unit was asked this by some task, and this came of it
abbrev pub IsHandedOn : Request → Option Kept → Outcome → Option Kept → Type 0
IsHandedOn r before y behind = (task : Task) × IsTaskOf r task × Ran before (work.Serve task) y behind
