-- The fields of a flash in memory.
use Rattle.std.specs.Prelude.{◌≡◌, ◌≤◌, ◌<◌, ◌-◌, ℕ, false, if◌then◌else◌, nat_le, List, [], ◌∷◌, take, length, Some, None}
use Rattle.nv_base.specs.Geometry.{size_of}
use Rattle.nv_base.specs.declared.geometry.Geometry.{Geometry}
use Rattle.fls_model.specs.declared.flash.FlashAnswer.TheVariants.{Done}
use Rattle.fls_model.specs.declared.call.Call.{Call}
use Rattle.fls_model.specs.declared.memory.MemFlash.TheInside.{Inside}
use Rattle.fls_model.specs.Op.{after_op}
use Rattle.nv_base.specs.Plan.{no_planning}
use Rattle.fls_model.specs.Told.{Change}
use Rattle.fls_model.specs.Call.{op_of}
use Rattle.fls_model.specs.Memory.{InMemory}

-- the changes that these calls make, one after another
abbrev pub replay : Geometry → List ℕ → List Call → List Change
replay g bytes [] = []
replay g bytes (c ∷ cs) = record { op = op_of g c; before = bytes; answer = Done } ∷ replay g (after_op (op_of g c) bytes) cs

-- the bytes after them
abbrev pub replayed : Geometry → List ℕ → List Call → List ℕ
replayed g bytes [] = bytes
replayed g bytes (c ∷ cs) = replayed g (after_op (op_of g c) bytes) cs

abbrev pub in_memory_of : Inside → InMemory
in_memory_of m = record {
  told = record {
    geometry = m.geometry;
    bytes = Some (record { now = m.bytes.items; changes = if nat_le m.asked m.room then Some (replay m.geometry m.first.items (take m.asked m.calls.items)) else None; room = m.room - m.asked });
    ops = m.ops;
    faults = 0;
    cuts = 0;
    off = false;
    planning = no_planning;
  };
  calls = m.room;
  asked = m.asked;
}

-- no sector until it is attached; then the bytes fill the geometry, and are those at the attach after the kept calls
pub record IsKept (m : Inside) : Type 0 where
  pub page : m.geometry.page ≤ 256
  pub size : size_of m.geometry ≤ length m.bytes.items
  pub small : size_of m.geometry ≤ 4194304
  pub none : m.geometry.page ≡ 0 → m.geometry.sectors ≡ 0
  pub room : 0 < m.geometry.page → length m.calls.items ≡ m.room
  pub same : 0 < m.geometry.page → 0 < m.room → m.asked ≤ m.room → m.bytes.items ≡ replayed m.geometry m.first.items (take m.asked m.calls.items)
