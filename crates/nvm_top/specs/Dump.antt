-- `dump`: what it writes, and what it leaves of the flash.
use Rattle.std.specs.Prelude.{◌≡◌, ◌⊎◌, ℕ, List, [], ◌∷◌, Option, IfSome}
use Rattle.nvm_flash.specs.nv_base.declared.geometry.Geometry.{Geometry}
use Rattle.nvm_flash.specs.nv_base.Geometry.{size_of}
use Rattle.nvm_flash.specs.nv_base.Count.{Rose}
use Rattle.nvm_flash.specs.block_config.Config.{Configuration}
use Rattle.nvm_flash.specs.fls_model.Attach.{HasSize, enlarged}
use Rattle.nvm_flash.specs.fls_model.Told.{Told, ToldBytes, IfBothTold}
use Rattle.nvm_flash.specs.fee_image.Image.{Layout, layout_of}
use Rattle.fee_dump.specs.Dump.{dump_text}
use Rattle.nvm_script.specs.Cut.{cut_lines}
use Rattle.nvm_lines.specs.declared.status.Status.{Status}
use Rattle.nvm_lines.specs.declared.status.Status.TheVariants as status
use Rattle.nvm_lines.specs.declared.stop.Stop.TheVariants as stop
use Rattle.nvm_lines.specs.Reading.{HasConfig}
use Rattle.nvm_top.specs.Ends.{ReadsBy}
use Rattle.nvm_top.specs.Play.{NamesSize}
use Rattle.nvm_lines.specs.Stop.{line_of}

-- these are the bytes of a flash of this shape, where it tells them; one of no bytes is blank
abbrev pub IsImageOf : Geometry → Option ToldBytes → List ℕ → Type 0
IsImageOf g flash image = IfSome flash (λ b. HasSize g b.now × (image ≡ enlarged (size_of g) b.now))

-- a command ends well, and writes the lines of these bytes, bank by bank
abbrev pub IsDump : Layout → List ℕ → Status → List (List ℕ) → Type 0
IsDump l image x lines = (x ≡ status.Ok) × (lines ≡ cut_lines (dump_text l image))

-- from the attach of a flash of this shape on, which so many banks share, before it and behind it, and with what is written
abbrev pub DumpsFlash : Geometry → (banks : ℕ) → (s t : Told) → Status → List (List ℕ) → Type 0
DumpsFlash g banks s t status.Ok lines = (image : List ℕ) × IsImageOf g s.bytes image × (lines ≡ cut_lines (dump_text (layout_of g banks) image))
DumpsFlash g banks s t status.WrongSize lines = NamesSize (size_of g) s.bytes lines
DumpsFlash g banks s t status.FlashFault lines = Rose s.faults t.faults × (lines ≡ line_of stop.FlashFault ∷ [])
DumpsFlash g banks s t status.InUse lines = Rose s.faults t.faults × (lines ≡ line_of stop.InUse ∷ [])
DumpsFlash g banks s t _ lines = ⊥

-- as a whole, with the bytes of the input, where they are told, and with its faults before and after
abbrev pub DumpsBy : Option (List ℕ) → (reads reads' : ℕ) (s t : Told) → Status → List (List ℕ) → Type 0
DumpsBy left reads reads' s t x lines = ReadsBy left reads reads' x lines ⊎ ((c : Configuration) × IfSome left (λ bytes. HasConfig bytes c) × DumpsFlash c.geometry c.banks s t x lines)

-- a flash is left as it was: no changing operation was made, and its bytes are the same, or of this shape and blank where it had none
pub record KeepsFlash (g : Geometry) (s t : Told) : Type 0 where
  pub bytes : IfBothTold s.bytes t.bytes (λ old new. (new.now ≡ old.now) ⊎ (new.now ≡ enlarged (size_of g) old.now))
  pub ops : t.ops ≡ s.ops
  pub cuts : t.cuts ≡ s.cuts
