-- Calls as they are kept.
use Rattle.std.specs.Prelude.{◌≡◌, ℕ, List, ◌+◌, ◌≤◌, length, take, slice_set}
use Rattle.nv_base.specs.declared.geometry.Geometry.{Geometry}
use Rattle.fls_model.specs.declared.call.Call.{Call}
use Rattle.fls_model.specs.declared.call.Call.TheVariants.{Page, Sector}
use Rattle.fls_model.specs.Op.{Op, Program, Erase}
use Rattle.fls_model.specs.Step.{erases}

-- the operation that it asks for
abbrev pub op_of : Geometry → Call → Op
op_of g (Page address n page) = Program address (take n page)
op_of g (Sector sector) = erases g sector

-- a page of at most 256 bytes
abbrev pub IsCall : Call → Type 0
IsCall (Page address n page) = n ≤ 256
IsCall (Sector sector) = Unit {0}

-- an operation lies within so many bytes
abbrev pub IsInside : Op → ℕ → Type 0
IsInside (Program address page) size = address + length page ≤ size
IsInside (Erase address n) size = address + n ≤ size

-- a call of an operation is kept at a place, where there is one
pub record KeepsCall (asked : Op) (at : ℕ) (old new : List Call) : Type 0 where
  pub call : Call
  pub op : (g : Geometry) → op_of g call ≡ asked
  pub kept : new ≡ slice_set old at call
