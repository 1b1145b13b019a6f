-- What a start-up makes of the fields of a device.
use Rattle.std.specs.Prelude.{◌≡◌, ◌<◌, ◌+◌, ℕ, Bool, true, false, List, length, Some, None, IfSome, Result, Ok, Err}
use Rattle.std.specs.List.{All}
use Rattle.nv_base.specs.Count.{Rose, next_count}
use Rattle.nv_base.specs.declared.instance.DeviceNumber.{DeviceNumber}
use Rattle.memif.specs.declared.answer.JobResult.TheVariants.{JobOk}
use Rattle.memif.specs.declared.answer.StartFault.{StartFault}
use Rattle.fls_model.specs.Told.{bytes_now, powered}
use Rattle.fls_jobs.specs.State.{FlsState}
use Rattle.ea_image.specs.Memory.{memory_loaded}
use Rattle.ea_image.specs.Slots.{slot_bytes}
use Rattle.ea_told.specs.declared.state.SlotState.{SlotState}
use Rattle.ea_told.specs.Making.{Making, entry_of}
use Rattle.ea_told.specs.Parts.{Parts}
use Rattle.ea_told.specs.Device.{state_at}

-- each number's memory is loaded from its slots
abbrev pub LoadsAll : Making → List SlotState → List ℕ → Type 0
LoadsAll m states bytes = (n i : ℕ) (x : DeviceNumber × ℕ) → entry_of m n ≡ Some (i, x) → (state_at states i).memory ≡ memory_loaded m.geometry.page x.1 (slot_bytes m.geometry bytes i)

-- the power is on; what each number is worn out since stays
abbrev pub started_as : Parts → FlsState → List SlotState → List ℕ → Bool → ℕ → Parts
started_as s f states content up faults = record s {
  fls = f;
  states = states;
  content = content;
  job = None;
  last = JobOk;
  given = 0;
  starts = s.starts + 1;
  started = up;
  off = false;
  faults = faults;
}

pub record StartsWith (s : Parts) (f : FlsState) (states : List SlotState) (content : List ℕ) : Type 0 where
  pub flash : f.flash ≡ record (powered s.fls.flash) { faults = f.flash.faults }
  pub driver : f ≡ record s.fls { flash = f.flash; result = f.result }
  pub count : length states ≡ length s.states
  pub worn : (i : ℕ) → (state_at states i).worn ≡ (state_at s.states i).worn
  pub room : length content ≡ length s.content
  pub small : All (λ x. x < 256) content

-- it answers that each sector was read, or that a read failed, which was counted
abbrev pub StartsAs : Making → Result (Unit {0}) StartFault → Parts → FlsState → List SlotState → List ℕ → Parts → Type 0
StartsAs m (Ok _) s f states content t = (f.flash ≡ powered s.fls.flash) × IfSome (bytes_now s.fls.flash) (LoadsAll m states) × (t ≡ started_as s f states content true s.faults)
StartsAs m (Err _) s f states content t = Rose s.fls.flash.faults f.flash.faults × (t ≡ started_as s f states content false (next_count s.faults))

pub record IsStart (m : Making) (answer : Result (Unit {0}) StartFault) (s t : Parts) : Type 0 where
  pub fls : FlsState
  pub states : List SlotState
  pub content : List ℕ
  pub starts : StartsWith s fls states content
  pub came : StartsAs m answer s fls states content t
