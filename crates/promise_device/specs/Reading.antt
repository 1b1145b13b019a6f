-- What a device makes of the bytes of its flash.
use Rattle.std.specs.Prelude.{ℕ, Bool, IsTrue, List, IfSome}
use Rattle.nv_base.specs.declared.geometry.Geometry.{Geometry}
use Rattle.memif.specs.Told.{Held}
use Rattle.memif.specs.Clock.{Trait}
use Rattle.fls_model.specs.Op.{Op}
use Rattle.fls_model.specs.Told.{Change, bytes_now}
use Rattle.promise_device.specs.FlashRun.{FlashRun}
use Rattle.promise_device.specs.Image.{attached}

-- All of it computes.
pub record Reading : Type 0 where
  -- the shape of the flash
  pub geometry : Geometry
  -- what each number holds in an image
  pub held : List ℕ → ℕ → Held
  -- a start-up may go on with an image
  pub is_sound : List ℕ → Bool
  -- A device is worn out for a number since a moment: so an image says at the end, and one of that moment, and of the operations
  -- since then only such came.
  pub is_last : ℕ → List ℕ → Bool
  -- such an image has no room for a record of this number: of an urgent job, or of another
  pub is_full : (number : ℕ) → (urgent : Bool) → List ℕ → Bool
  pub may_follow : ℕ → Op → Bool
  -- the pages that are free in an image, behind these operations
  pub free : List Change → List ℕ → ℕ
  -- what an operation is by itself
  pub is_such : Trait → Change → Bool

-- the image at the entry is sound
abbrev pub BeginsSound : Reading → FlashRun → Type 0
BeginsSound r f = IfSome (bytes_now f.entry) (λ image. IsTrue (r.is_sound image))

-- a sound image is sound too once a flash is attached with it
abbrev pub AttachesSound : Reading → Type 0
AttachesSound r = (image : List ℕ) → IsTrue (r.is_sound image) → IsTrue (r.is_sound (attached r.geometry image))
