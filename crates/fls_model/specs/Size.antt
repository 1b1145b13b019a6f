-- What is known of a flash whose size is looked at before it is attached.
use Rattle.std.specs.Prelude.{◌≡◌, ℕ, length, IfSome, Result, Ok, Err}
use Rattle.nv_base.specs.Count.{Rose}
use Rattle.fls_model.specs.declared.flash.AttachFault.{AttachFault}
use Rattle.fls_model.specs.declared.flash.AttachFault.TheVariants.{Failed, InUse, WrongSize, Memory}
use Rattle.fls_model.specs.Told.{Told}

-- what the size is, where the bytes are told; or why it isn't known, as of an attach
abbrev pub IsLook : Told → Result ℕ AttachFault → Told → Type 0
IsLook s (Ok n) t = IfSome s.bytes (λ b. length b.now ≡ n) × (t ≡ s)
IsLook s (Err Failed) t = Rose s.faults t.faults × (t ≡ record s { faults = t.faults })
IsLook s (Err InUse) t = Rose s.faults t.faults × (t ≡ record s { faults = t.faults })
IsLook s (Err (WrongSize found)) t = ⊥
IsLook s (Err Memory) t = t ≡ s
