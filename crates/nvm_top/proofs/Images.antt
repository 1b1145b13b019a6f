-- What reading a flash gives and leaves.
use Rattle.std.proofs.Common.{◌≡◌, ◌∙◌, ◌+◌, ◌⊎◌, ℕ, List, ◌++◌, take, drop, Option, Some, None, IfSome, refl, sym, ap, subst, inl, inr}
use Rattle.std.proofs.Math.Seq.{take-add}
use Rattle.nvm_flash.specs.nv_base.declared.geometry.Geometry.{Geometry}
use Rattle.nvm_flash.specs.nv_base.Geometry.{size_of}
use Rattle.nvm_flash.specs.fls_model.Attach.{IsAttached, IsFilled, enlarged}
use Rattle.nvm_flash.specs.fls_model.Told.{Told, ToldBytes, IfBothTold, powered}
use Rattle.nvm_lines.specs.declared.stop.Stop.{Stop}
use Rattle.nvm_lines.specs.declared.stop.Stop.TheVariants.{FlashFault, Memory}
use Rattle.nvm_top.specs.Dump.{KeepsFlash}
use Rattle.nvm_top.specs.Reading.{IsSectorStop}

-- WHAT IS LEFT
-- of bytes, as of a flash of this shape
abbrev Left : Geometry → ToldBytes → ToldBytes → Type 0
Left g old new = (new.now ≡ old.now) ⊎ (new.now ≡ enlarged (size_of g) old.now)

same_bytes : (g : Geometry) (o : Option ToldBytes) → IfBothTold o o (Left g)
same_bytes g None = tt
same_bytes g (Some b) = inl refl

filled_bytes : (g : Geometry) (o o' : Option ToldBytes) → IfBothTold o o' (IsFilled g) → IfBothTold o o' (Left g)
filled_bytes g None None is = tt
filled_bytes g (Some a) (Some b) is = inr is.bytes
filled_bytes g None (Some b) is = absurd is
filled_bytes g (Some a) None is = absurd is

kept-faults : (g : Geometry) (s t : Told) (n : ℕ) → KeepsFlash g s t → KeepsFlash g s (record t { faults = n })
kept-faults g s t n is = record { bytes = is.bytes; ops = is.ops; cuts = is.cuts }

pub kept-attached : (g : Geometry) (s t : Told) → IsAttached g s t → KeepsFlash g s (powered t)
kept-attached g s t is = record { bytes = filled_bytes g s.bytes t.bytes is.bytes; ops = is.ops; cuts = is.cuts }

pub kept-sector : (g : Geometry) (s t u : Told) (stop : Stop) → KeepsFlash g s t → IsSectorStop t u stop → KeepsFlash g s u
kept-sector g s t u FlashFault is at = subst (λ (v : Told). KeepsFlash g s v) (sym at.1) (kept-faults g s t u.faults is)
kept-sector g s t u Memory is at = subst (λ (v : Told). KeepsFlash g s v) (sym at) is
kept-sector g s t u _ is at = absurd at

-- WHY IT STOPS

-- WHAT IS READ

-- one more sector
pub image-more : (o : Option ToldBytes) (image image' : List ℕ) (n m : ℕ) → IfSome o (λ b. image ≡ take n b.now) → IfSome o (λ b. image' ≡ image ++ take m (drop n b.now)) → IfSome o (λ b. image' ≡ take (n + m) b.now)
image-more None image image' n m at more = tt
image-more (Some b) image image' n m at more = more ∙ ap (λ (l : List ℕ). l ++ take m (drop n b.now)) at ∙ sym (take-add n m b.now)
