-- An image with which a flash is attached.
use Rattle.std.proofs.Common.{◌≡◌, ℕ, ◌<◌, List, [], ◌∷◌, length, refl, sym, ap, subst, arith}
use Rattle.nv_base.specs.declared.geometry.Geometry.{Geometry}
use Rattle.memif.specs.Told.{length_of}
use Rattle.fee_image.specs.Sound.{IsSoundImage}
use Rattle.promise_device.specs.Making.{banks_of}
use Rattle.promise_device.specs.Image.{attached, held_as}
use Rattle.fee_told.specs.Attached.{ImagesAttach}

attached_is : (g : Geometry) (image : List ℕ) → 0 < length image → attached g image ≡ image
attached_is g [] some = absurd (omega arith)
attached_is g (x ∷ xs) some = refl

pub images_attach : ImagesAttach
images_attach m image some = (
  λ n. ap (λ (i : List ℕ). held_as (banks_of m) i n (length_of m.numbers n)) (attached_is m.geometry image some),
  (λ sound. subst (IsSoundImage (banks_of m)) (attached_is m.geometry image some) sound, λ sound. subst (IsSoundImage (banks_of m)) (sym (attached_is m.geometry image some)) sound),
)
