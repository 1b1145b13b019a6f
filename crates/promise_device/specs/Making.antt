-- What a device over banks is made for.
use Rattle.std.specs.Prelude.{ℕ, List}
use Rattle.nv_base.specs.declared.geometry.Geometry.{Geometry}
use Rattle.nv_base.specs.declared.instance.DeviceNumber.{DeviceNumber}
use Rattle.fee_image.specs.Image.{Layout, layout_of}

-- The shape of its flash and how many banks share the sectors, its numbers with their lengths, and the pages that are kept
-- for urgent writes.
pub record Making : Type 0 where
  pub geometry : Geometry
  pub banks : ℕ
  pub numbers : List (DeviceNumber × ℕ)
  pub reserve : ℕ

-- its banks
abbrev pub banks_of : Making → Layout
banks_of m = layout_of m.geometry m.banks
