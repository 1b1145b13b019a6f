-- What a device over slots makes of the bytes of its flash.
use Rattle.std.specs.Prelude.{◌+◌, ◌*◌, ◌==◌, ◌||◌, nat_lt, nat_le, ℕ, Bool, true, false, List, length, Option, Some, None}
use Rattle.nv_base.specs.declared.geometry.Geometry.{Geometry}
use Rattle.nv_base.specs.Held.{Held, never_written}
use Rattle.fls_model.specs.Op.{Op, Program, Erase}
use Rattle.promise_device.specs.Image.{attached}
use Rattle.promise_device.specs.Reading.{Reading}
use Rattle.ea_image.specs.declared.slot_head.SlotHead.{SlotHead}
use Rattle.ea_image.specs.declared.which.Which.{Which}
use Rattle.ea_image.specs.Memory.{last_sequence}
use Rattle.ea_image.specs.Slots.{slot_bytes, newest_of, found_at, is_sound_image}
use Rattle.ea_told.specs.Making.{Making, entry_of, at_entry}

-- the slot that counts has the last sequence, so that no write can follow
abbrev pub is_last_head : Option (Which × SlotHead) → Bool
is_last_head None = false
is_last_head (Some x) = x.1.sequence == last_sequence

abbrev pub is_last_at : Geometry → List ℕ → (j length : ℕ) → Bool
is_last_at g image j length = is_last_head (newest_of g.page length (slot_bytes g image j))

-- an operation begins in no sector of the j-th number
abbrev pub begins_at : Op → ℕ
begins_at (Program address page) = address
begins_at (Erase address n) = address

abbrev pub is_apart : Geometry → (j : ℕ) → Op → Bool
is_apart g j op = nat_lt (begins_at op) (4 * j * g.sector) || nat_le ((4 * j + 4) * g.sector) (begins_at op)

abbrev pub held_in : Making → List ℕ → ℕ → Held
held_in m image n = at_entry never_written (λ j x. found_at m.geometry image j x.1) (entry_of m n)

abbrev pub last_in : Making → ℕ → List ℕ → Bool
last_in m n image = at_entry false (λ j x. is_last_at m.geometry image j x.1) (entry_of m n)

-- A number is worn out once its slot that counts has the last sequence, for any write of it, and no operation comes in its
-- sectors from then on. No page is told to be free, and no operation is a seal or takes a page that is kept.
abbrev pub reading_of : Making → Reading
reading_of m = record {
  geometry = m.geometry;
  held = λ image n. held_in m (attached m.geometry image) n;
  is_sound = λ image. is_sound_image m.geometry (length m.numbers) (attached m.geometry image);
  is_last = λ n image. last_in m n (attached m.geometry image);
  is_full = λ n urgent image. last_in m n (attached m.geometry image);
  may_follow = λ n op. at_entry true (λ j x. is_apart m.geometry j op) (entry_of m n);
  free = λ earlier image. 0;
  is_such = λ trait x. false;
}
