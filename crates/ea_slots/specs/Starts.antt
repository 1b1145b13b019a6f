-- What a start-up reads and loads.
use Rattle.std.specs.Prelude.{◌≡◌, ◌<◌, ℕ, false, List, slice_get, Some, Result, Ok, Err}
use Rattle.nv_base.specs.declared.geometry.Geometry.{Geometry}
use Rattle.nv_base.specs.declared.instance.DeviceNumber.{DeviceNumber}
use Rattle.nv_base.specs.Count.{Rose}
use Rattle.nv_base.specs.Geometry.{IsLegal}
use Rattle.fls_jobs.specs.Start.{IsIdle}
use Rattle.fls_jobs.specs.State.{FlsState}
use Rattle.ea_image.specs.Memory.{memory_loaded}
use Rattle.ea_image.specs.Slots.{slot_bytes}
use Rattle.ea_told.specs.declared.state.SlotState.{SlotState}
use Rattle.ea_told.specs.Device.{state_at}
use Rattle.ea_slots.specs.declared.starts.ReadFailed.{ReadFailed}

-- a driver whose flash is on, of this shape
pub record MayRead (fls : FlsState) (g : Geometry) : Type 0 where
  pub idle : IsIdle fls
  pub legal : IsLegal g
  pub geometry : fls.geometry ≡ g
  pub on : fls.flash.off ≡ false

-- reads were done, or one failed and was counted
abbrev pub HasRead : FlsState → FlsState → Type 0
HasRead fls f = f ≡ record fls { result = f.result }

abbrev pub HasFailed : FlsState → FlsState → Type 0
HasFailed fls f = Rose fls.flash.faults f.flash.faults × (f ≡ record fls { flash = record fls.flash { faults = f.flash.faults }; result = f.result })

abbrev pub Reads : {A : Type 0} → Result A ReadFailed → FlsState → FlsState → Type 0
Reads (Ok x) fls f = HasRead fls f
Reads (Err e) fls f = HasFailed fls f

-- the numbers before a place are loaded from their slots
abbrev pub AreLoaded : Geometry → List (DeviceNumber × ℕ) → ℕ → List SlotState → List ℕ → Type 0
AreLoaded g numbers place states bytes =
    (i : ℕ) (x : DeviceNumber × ℕ) → i < place → slice_get numbers i ≡ Some x → (state_at states i).memory ≡ memory_loaded g.page x.1 (slot_bytes g bytes i)
