-- A flash whose size is looked at before it is attached.
use Rattle.std.specs.Prelude.{◌≡◌, ◌⊎◌, ◌≤◌, ℕ, length, Option, Some, None, IfSome, Result, Ok, Err}
use Rattle.memif_fee_ea.specs.fee_core.nv_base.Count.{Rose}
use Rattle.memif_fee_ea.specs.fee_core.nv_base.Geometry.{size_of}
use Rattle.memif_fee_ea.specs.fee_core.nv_base.declared.geometry.Geometry.{Geometry}
use Rattle.memif_fee_ea.specs.fee_core.fls_model.Told.{Told, ToldBytes}
use Rattle.memif_fee_ea.specs.fee_core.fls_model.declared.flash.AttachFault.{AttachFault}
use Rattle.memif_fee_ea.specs.fee_core.fls_model.declared.flash.AttachFault.TheVariants as attach
use Rattle.nvm_flash.specs.declared.device.MakeFault.{MakeFault}
use Rattle.nvm_flash.specs.declared.pair.PairFault.{PairFault}
use Rattle.nvm_flash.specs.declared.pair.PairFault.TheVariants.{OfFlash, OfEeprom, OneDevice, Memory}
use Rattle.nvm_flash.specs.Made.{IsFlashCause}

-- it has no bytes, or as many as its shape
abbrev pub HasSizeOf : Geometry → Option ToldBytes → Type 0
HasSizeOf g bytes = IfSome bytes (λ b. (length b.now ≡ 0) ⊎ (length b.now ≡ size_of g))

-- it can be attached at a geometry, or not; nothing changed but the count of faults
abbrev pub IsLooked : Geometry → Told → Option MakeFault → Told → Type 0
IsLooked g s None t = (t ≡ s) × HasSizeOf g s.bytes
IsLooked g s (Some fault) t = IsFlashCause g fault s t × (t ≡ record s { faults = t.faults }) × (s.faults ≤ t.faults)

abbrev pub AreLooked : (g shape : Geometry) → Option PairFault → (s t u v : Told) → Type 0
AreLooked g shape None s t u v = (t ≡ s) × (v ≡ u) × HasSizeOf shape u.bytes
AreLooked g shape (Some (OfFlash fault)) s t u v = IsLooked g s (Some fault) t × (v ≡ u)
AreLooked g shape (Some (OfEeprom fault)) s t u v = (t ≡ s) × IsLooked shape u (Some fault) v
AreLooked g shape (Some OneDevice) s t u v = ⊥
AreLooked g shape (Some Memory) s t u v = ⊥
