-- What a read does.
use Rattle.std.specs.Prelude.{◌≡◌, ℕ, true, false, List, length, IfSome}
use Rattle.nv_base.specs.Count.{Rose}
use Rattle.fls_model.specs.declared.flash.FlashAnswer.{FlashAnswer}
use Rattle.fls_model.specs.declared.flash.FlashAnswer.TheVariants.{Done, Failed, Off}
use Rattle.fls_model.specs.Bytes.{piece}
use Rattle.fls_model.specs.Told.{Told}

-- the bytes that were read are those of the flash, where it tells them; a failed read counts its fault and leaves open
-- what it wrote; while a cut stands nothing happens
abbrev pub IsRead : ℕ → Told → List ℕ → FlashAnswer → List ℕ → Told → Type 0
IsRead address s before Done into t = IfSome s.bytes (λ b. into ≡ piece address (length into) b.now) × (t ≡ s) × (s.off ≡ false)
IsRead address s before Failed into t = Rose s.faults t.faults × (t ≡ record s { faults = t.faults }) × (s.off ≡ false)
IsRead address s before Off into t = (into ≡ before) × (t ≡ s) × (s.off ≡ true)
