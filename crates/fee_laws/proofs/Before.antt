-- A device before its turn.
use Rattle.std.specs.Prelude.{IfSome, IsTrue, option_map}
use Rattle.std.proofs.Common.{◌≡◌, ◌<◌, ◌*◌, ℕ, false, List, length, Option, Some, None, refl, sym, ◌∙◌, subst, arith}
use Rattle.std.proofs.Math.Nat.{mul-pos}
use Rattle.nv_base.specs.Geometry.{IsLegal, HasBanks, size_of}
use Rattle.nv_base.specs.Lengths.{AreLengths}
use Rattle.nv_base.specs.declared.geometry.Geometry.{Geometry}
use Rattle.nv_base.specs.declared.instance.DeviceNumber.{DeviceNumber}
use Rattle.fls_model.specs.Attach.{AreBytesOf}
use Rattle.fls_model.specs.Told.{Told, ToldBytes, bytes_now}
use Rattle.fee_image.specs.Image.{Layout, IsLegalLayout}
use Rattle.fee_image.specs.Sound.{IsSoundImage}
use Rattle.fee_image.specs.May.{May}
use Rattle.fee_image.proofs.Sectors.{layouts_are_legal}
use Rattle.fee_told.proofs.Clocks.{held_now}
use Rattle.promise_device.specs.Making.{Making, banks_of}
use Rattle.promise_device.specs.Bridge.{reading_of}
use Rattle.promise_device.proofs.Readings.{sound_flashes_compute}
use Rattle.fee_told.specs.Slots.{Memory}
use Rattle.fee_told.specs.SlotLaws.{IsHeld}
use Rattle.fee_told.specs.Device.{Device, flash_device, tells, tells_now}
use Rattle.fee_told.specs.Whole.{HoldsBanks}
use Rattle.fee_told.proofs.Attached.{images_attach}
use Rattle.fee_told.proofs.ToldBytes.{told_at}
use Rattle.fee_laws.specs.Inside.{Parts, device_of, memory_of, ShowsCopies, HoldsBehind}
use Rattle.fee_laws.specs.Turn.{IsOn}
use Rattle.fee_laws.proofs.MadeFor.{legal_made}

-- BYTES
pub each_now : (o : Option ToldBytes) (P : List ℕ → Type 0) → ((bytes : List ℕ) → option_map (λ (b : ToldBytes). b.now) o ≡ Some bytes → P bytes) → IfSome o (λ b. P b.now)
each_now None P holds = tt
each_now (Some b) P holds = holds b.now refl

-- SIZES
pub some_bytes : (a b : ℕ) → 0 < a → 0 < b → 0 < a * b
some_bytes a b more many = mul-pos more many

pub as_many : (a b : ℕ) → a ≡ b → 0 < b → 0 < a
as_many a b same more = omega (arith, same, more)

pub has_bytes : (g : Geometry) → IsLegal g → 0 < size_of g
has_bytes g legal = some_bytes g.sector g.sectors (omega (arith, legal.sector_low, legal.page_low)) (omega (arith, legal.sectors_low))

pub some_told : (g : Geometry) (y : Option ToldBytes) → IsLegal g → IfSome y (λ b. AreBytesOf g b.now) → IfSome (option_map (λ (b : ToldBytes). b.now) y) (λ bytes. 0 < length bytes)
some_told g None legal are = tt
some_told g (Some y) legal are = as_many (length y.now) (size_of g) are.size (has_bytes g legal)

module _ (m : Making) (entry : Told) (s : Parts) (listed : List (DeviceNumber × ℕ)) (kept count : ℕ) (on : IsOn m entry s listed kept count) where
  abbrev d : Device
  d = device_of m entry s

  abbrev pub l : Layout
  l = banks_of m

  pub power : s.fls.flash.off ≡ false
  power = sym (on.sound.off on.started)

  pub shape : IsLegal m.geometry
  shape = legal_made m s on.sound.made_for on.banks

  pub shared : HasBanks m.geometry m.banks
  shared = subst (λ (g : Geometry). HasBanks g m.banks) on.sound.made_for.banks_geometry (subst (HasBanks s.banks.geometry) on.sound.made_for.shared on.banks.shared)

  pub lengths : AreLengths 0 m.numbers
  lengths = on.sound.made_for.space.lengths

  pub legal : IsLegalLayout l
  legal = layouts_are_legal m.geometry m.banks shape shared

  pub some : IfSome (bytes_now s.fls.flash) (λ bytes. 0 < length bytes)
  some = some_told m.geometry s.fls.flash.bytes shape on.sound.made_for.bytes

  abbrev behind : HoldsBehind d
  behind = on.sound.device.held on.started

  abbrev pub copied : May
  copied = behind.copied

  pub holds : HoldsBanks d copied
  holds = subst (λ (x : Memory). HoldsBanks (record d { memory = x }) behind.copied) (behind.on power) behind.banks

  pub held_at : (bytes : List ℕ) → bytes_now s.fls.flash ≡ Some bytes → IsTrue (tells_now d) → IsHeld l m.numbers bytes (memory_of s) copied
  held_at bytes at told = told_at s.fls.flash.bytes (λ (x : List ℕ). IsHeld l m.numbers x (memory_of s) copied) bytes at (holds.held told)

  -- BEFORE AN OPERATION
  -- behind which it tells only where the image was sound
  pub held_before : (bytes : List ℕ) → bytes_now s.fls.flash ≡ Some bytes → IsTrue (tells d) → IsHeld l m.numbers bytes (memory_of s) copied
  held_before bytes at told = held_at bytes at (held_now (flash_device d) told)

  pub copies_before : IsTrue (tells d) → IfSome s.fls.flash.bytes (λ b. IfSome s.banks.course (λ c. ShowsCopies m s c b.now))
  copies_before told = on.sound.copies power (held_now (flash_device d) told)

  pub sound_before : (bytes : List ℕ) → bytes_now s.fls.flash ≡ Some bytes → IsTrue (tells d) → IsSoundImage l bytes
  sound_before bytes at told =
      (images_attach m bytes (told_at s.fls.flash.bytes (λ (x : List ℕ). 0 < length x) bytes at some)).1.0
      ((sound_flashes_compute m bytes).0 (told_at s.fls.flash.bytes (λ (x : List ℕ). IsTrue ((reading_of m).is_sound x)) bytes at (on.sound.device.run.sound told)))

  -- THE LOG
  pub log_geometry : s.banks.log.geometry ≡ m.geometry
  log_geometry = on.banks.log.shape ∙ on.sound.made_for.banks_geometry

  pub log_banks : s.banks.log.banks ≡ m.banks
  log_banks = on.banks.log.shared ∙ on.sound.made_for.shared
