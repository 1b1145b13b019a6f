-- From the words of a device to the bytes of its flash.
use Rattle.std.specs.Prelude.{◌≡◌, ◌⊎◌, ◌<◌, ◌≤◌, ◌+◌, ℕ, min, if◌then◌else◌, Bool, true, false, IsTrue, List, [], length, take, drop, count_by, unwrap_or, slice_get, Some, is_some, IfSome}
use Rattle.std.specs.Option.{option_map_or}
use Rattle.std.specs.List.{list_all}
use Rattle.nv_base.specs.Count.{last_count, Rose, WereCounted}
use Rattle.nv_base.specs.Pages.{record_pages_of}
use Rattle.memif.specs.Told.{PartTold, DeviceTold, length_of}
use Rattle.memif.specs.Clock.{Trait, Clock, After, CutIn}
use Rattle.fls_model.specs.Told.{Change, bytes_now}
use Rattle.fee_format.specs.declared.bank_head.BankHead.{BankHead}
use Rattle.fee_image.specs.Image.{bank_in, active_of}
use Rattle.fee_image.specs.Sound.{is_sound_image}
use Rattle.promise_device.specs.Making.{Making, banks_of}
pub use Rattle.promise_device.specs.Failures.{is_program, is_failed, has_failed, failed_from, may_be_closed, bank_of_op, failed_in}
use Rattle.promise_device.specs.Image.{attached, held_in, IsOfLastGeneration, is_of_last_generation, HasNoRoomFor, has_no_room_for, free_in_bank}
use Rattle.promise_device.specs.FlashRun.{FlashRun, TellsBytes, TellsOperations, IsCutImage, HasFailed, WentOff, bytes_after, is_none_done, AreOperations}
use Rattle.promise_device.specs.Reading.{Reading, BeginsSound}
use Rattle.promise_device.specs.Traits.{is_such}

-- the pages of a record of a number, and those that are kept beside it; an urgent one needs its own alone
abbrev pub wanted_pages : Making → (number : ℕ) → (urgent : Bool) → ℕ
wanted_pages m n urgent = record_pages_of (unwrap_or (length_of m.numbers n) 0) m.geometry.page + (if urgent then 0 else m.reserve)

-- the pages that are free in the active bank; none where a program of that bank failed in the operations before, and none without an
-- active bank
abbrev pub free_in : Making → List Change → List ℕ → ℕ × BankHead → ℕ
free_in m earlier image x = if failed_in m.geometry m.banks x.0 false earlier then 0 else free_in_bank (bank_in (banks_of m) x.1.format x.0) image

abbrev pub free_pages : Making → List Change → List ℕ → ℕ
free_pages m earlier image = option_map_or (free_in m earlier image) (active_of (banks_of m) image) 0

-- Once k operations were made a device is worn out for a number, for its urgent jobs or for its others, which it stays: the
-- active bank has the last generation, at the end still, nothing is erased from then on, and such a record has no room in the
-- bytes, where they are told, or a program failed since the last erase, which closed the bank.
pub record IsWornOut (m : Making) (f : FlashRun) (k n : ℕ) (urgent : Bool) : Type 0 where
  pub last : IfSome (bytes_now f.exit) (IsOfLastGeneration m)
  pub no_erase : k < last_count → IsTrue (list_all (λ x. is_program x.op) (drop k f.operations))
  pub full : TellsBytes f → k < last_count → IfSome (bytes_after f k) (HasNoRoomFor (wanted_pages m n urgent) m)
      ⊎ (Rose f.entry.faults f.exit.faults × IsTrue (may_be_closed (take k f.operations)))

-- The same of any device over a flash, by its reading.
pub record IsWornBy (r : Reading) (f : FlashRun) (k n : ℕ) (urgent : Bool) : Type 0 where
  pub last : IfSome (bytes_now f.exit) (λ image. IsTrue (r.is_last n image))
  pub follow : k < last_count → IsTrue (list_all (λ x. r.may_follow n x.op) (drop k f.operations))
  pub full : TellsBytes f → k < last_count → IfSome (bytes_after f k) (λ image. IsTrue (r.is_full n urgent image))
      ⊎ (Rose f.entry.faults f.exit.faults × IsTrue (may_be_closed (take k f.operations)))

-- an operation is such a one by itself
abbrev pub IsSuch : Reading → FlashRun → Trait → ℕ → Type 0
IsSuch r f t k = (x : Change) × (slice_get f.operations k ≡ Some x) × IsTrue (r.is_such t x)

-- of each planned cut that came in the operations of a cutter how many bytes it let be done; a flash without one sees all
abbrev pub cuts_of : Bool → DeviceTold → List ℕ
cuts_of true now = now.first.planning.came
cuts_of false now = []

-- What a device over a flash tells is so: its part before the first start-up, it and its clock now. A `cutter` between
-- them keeps an operation from the flash where the power goes off in it.
pub record Bridges (r : Reading) (cutter : Bool) (f : FlashRun) (before : PartTold) (now : DeviceTold) (clock : Clock) : Type 0 where
  -- its maps are those of the images: of the bytes once k operations were made, from any image on before the first of them, and of
  -- each that a cut may leave
  pub after : TellsBytes f → (k : ℕ) → BeginsSound r f ⊎ (k ≡ 0) → k ≤ length f.operations → k < last_count
      → IfSome (bytes_after f k) (λ image. clock.may_find (After k) (r.held image))
  pub cut : TellsOperations f → BeginsSound r f → (k : ℕ) (image : List ℕ) → k < last_count → IsCutImage f k image
      → clock.may_find (CutIn k) (r.held image)
  -- it tells what its numbers hold, until the first operation at least, and from a sound image on to the end
  pub tells : TellsBytes f → now.tells ≡ true
  pub slots : TellsBytes f → BeginsSound r f → is_some now.slots ≡ true
  -- a sound image stays sound
  pub sound : TellsBytes f → BeginsSound r f → IfSome (bytes_now f.exit) (λ image. IsTrue (r.is_sound image))
  pub sound_cut : TellsOperations f → BeginsSound r f → (k : ℕ) (image : List ℕ) → k < last_count → IsCutImage f k image
      → IsTrue (r.is_sound image)
  -- its operations are the run's
  pub operations : AreOperations r.geometry f (λ k. IsTrue cutter × clock.off_in k) (cuts_of cutter now)
  pub ops : now.ops ≡ min (length f.operations) last_count
  -- what it counted the flash counted too
  pub faults : (n : ℕ) → WereCounted n before.faults now.first.faults → WereCounted n f.entry.faults f.exit.faults
  -- and of each operation that failed, or in which the power went off, it says so
  pub failed : (k : ℕ) → k < last_count → HasFailed f k → clock.failed k
  pub went_off : (k : ℕ) → k < last_count → WentOff f k → clock.off_in k
  pub cuts : (n : ℕ) → WereCounted n before.planning.unplanned now.first.planning.unplanned → WereCounted n f.entry.cuts f.exit.cuts
  -- the flash is off only where it says so
  pub off : f.exit.off ≡ true → now.first.off ≡ true
  -- the cuts that let nothing be done are counted
  pub withheld : before.planning.withheld ≡ 0 → now.first.planning.withheld ≡ min (count_by is_none_done now.first.planning.came) last_count
  -- and where it says that it is worn out, the flash is
  pub worn : (k n : ℕ) (urgent : Bool) → clock.worn k n urgent → IsWornBy r f k n urgent
  -- and each of its operations that is such a one it says to be so
  pub was : (t : Trait) (k : ℕ) → k < last_count → IsSuch r f t k → clock.was t k
  -- from a sound image on it says what the bytes have free once k operations were made
  pub spare : TellsBytes f → BeginsSound r f → (k : ℕ) → k ≤ length f.operations → k < last_count
      → IfSome (bytes_after f k) (λ image. clock.spare k (r.free (take k f.operations) image))

-- A DEVICE OVER BANKS

-- the reading of one: the sound images, the last generation and a bank without room are those of `Image`, computed
abbrev pub reading_of : Making → Reading
reading_of m = record {
  geometry = m.geometry;
  held = held_in m;
  is_sound = λ image. is_sound_image (banks_of m) (attached m.geometry image);
  is_last = λ n image. is_of_last_generation m image;
  is_full = λ n urgent image. has_no_room_for (wanted_pages m n urgent) m image;
  may_follow = λ n op. is_program op;
  free = free_pages m;
  is_such = is_such m;
}
