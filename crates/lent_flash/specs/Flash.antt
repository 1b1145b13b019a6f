-- A flash whose bytes stand in memory that is lent.
use Rattle.std.specs.Prelude.{◌≤◌, ℕ, List, [], ◌∷◌, length, Option, Some, IsSomeAnd, false, option_map}
use Rattle.nv_base.specs.Count.{last_count}
use Rattle.nv_base.specs.Geometry.{size_of}
use Rattle.nv_base.specs.Plan.{no_planning}
use Rattle.nv_base.specs.declared.geometry.Geometry.{Geometry}
use Rattle.fls_model.specs.declared.call.Call.{Call}
use Rattle.fls_model.specs.declared.flash.FlashAnswer.TheVariants.{Done}
use Rattle.fls_model.specs.Bytes.{AreBytes}
use Rattle.fls_model.specs.Call.{op_of}
use Rattle.fls_model.specs.Told.{Told, Change}

-- what is told of such bytes, with these changes, and room for all that come: it never failed, was never off, and takes no plans
abbrev pub told_of : Geometry → Option (List ℕ) → List Change → ℕ → Told
told_of geometry bytes changes ops = record {
  geometry = geometry;
  bytes = option_map (λ now. record { now = now; changes = Some changes; room = last_count }) bytes;
  ops = ops;
  faults = 0;
  cuts = 0;
  off = false;
  planning = no_planning;
}

-- a call that is done, with what the bytes were before it
abbrev pub change_of : List (List ℕ) → Geometry → Call → Change
change_of [] g call = record { op = op_of g call; before = []; answer = Done }
change_of (bytes ∷ ls) g call = record { op = op_of g call; before = bytes; answer = Done }

-- the bytes are there, and fill the geometry
pub record IsLent (g : Geometry) (lent : Option (List ℕ)) : Type 0 where
  pub bytes : IsSomeAnd lent (λ image. (size_of g ≤ length image) × AreBytes image)

-- the flash of these bytes, not attached yet
abbrev pub flash_over : List ℕ → Told
flash_over bytes = told_of (record { page = 0; sector = 0; sectors = 0 }) (Some bytes) [] 0
