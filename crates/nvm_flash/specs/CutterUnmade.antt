-- A cutter that counted no operation, and the flash within it.
use Rattle.std.specs.Prelude.{◌≡◌, ℕ, true, length, IfSome, Err}
use Rattle.memif_fee_ea.specs.fee_core.nv_base.Count.{Rose}
use Rattle.memif_fee_ea.specs.fee_core.nv_base.declared.geometry.Geometry.{Geometry}
use Rattle.memif_fee_ea.specs.fee_core.fls_model.Attach.{IsAttach}
use Rattle.memif_fee_ea.specs.fee_core.fls_model.declared.flash.AttachFault.{AttachFault}
use Rattle.memif_fee_ea.specs.fee_core.fls_model.declared.flash.AttachFault.TheVariants.{Failed, InUse, WrongSize, Memory}
use Rattle.memif_fee_ea.specs.fee_core.fls_model.Told.{Told, bytes_now}
use Rattle.fls_devices.specs.Cutter.{Cutting, cutting, told_cutting, OnlyCuts}

-- a cutter tells the bytes and the faults of the flash within it
abbrev pub TellsWithin : Type 0
TellsWithin = (c : Cutting) → OnlyCuts c → (bytes_now c.flash.inner ≡ bytes_now (told_cutting c)) × (c.flash.inner.faults ≡ (told_cutting c).faults)

-- no operation and no cut was counted
pub record CountsStay (s t : Told) : Type 0 where
  pub ops : t.ops ≡ s.ops
  pub cuts : t.cuts ≡ s.cuts

-- where a cutter counted none since it was made, and no cut without a plan, neither did the flash within it
abbrev pub CountsStayWithin : Type 0
CountsStayWithin =
    (inner : Told) (cuts : ℕ) (c : Cutting) → OnlyCuts c → CountsStay (told_cutting (cutting inner cuts)) (told_cutting c)
    → (told_cutting c).planning.unplanned ≡ inner.cuts → CountsStay inner c.flash.inner

-- why an attach was refused, by the bytes before it and the faults
abbrev pub IsRefusal : Told → AttachFault → Told → Type 0
IsRefusal s Failed t = Rose s.faults t.faults
IsRefusal s InUse t = Rose s.faults t.faults
IsRefusal s (WrongSize found) t = IfSome s.bytes (λ b. length b.now ≡ found) × (t.faults ≡ s.faults)
IsRefusal s Memory t = t.faults ≡ s.faults

-- an attach that was refused left the flash as it was, but for its faults, and for a cut that stood
pub record IsRefused (s : Told) (fault : AttachFault) (t : Told) : Type 0 where
  pub geometry : t.geometry ≡ s.geometry
  pub off : t.off ≡ true → s.off ≡ true
  pub bytes : bytes_now t ≡ bytes_now s
  pub counts : CountsStay s t
  pub why : IsRefusal s fault t

-- so it is with the flash within a cutter
abbrev pub RefusedWithin : Type 0
RefusedWithin =
    (g : Geometry) (inner : Told) (cuts : ℕ) (c : Cutting) (fault : AttachFault)
    → OnlyCuts c → IsAttach g (told_cutting (cutting inner cuts)) (Err fault) (told_cutting c) → IsRefused inner fault c.flash.inner
