-- What memory that is lent owns: nothing, or so many places, each of which has its byte.
use base.Fml.{Fml, ftrue, fsep, feq}
use denote.RawPtr.{Ptr}
use denote.Builtin.{u8}
use Rattle.std.specs.Prelude.{ℕ, true, List, length, replicate, Option, None, Some}
use Rattle.std.specs.Mem.Slots.Ownership.{owned}

abbrev pub lent_owns : Ptr → ℕ → Option (List ℕ) → Fml
lent_owns p n None = ftrue
lent_owns p n (Some bytes) = fsep (feq ℕ (length bytes) n) (owned u8 p n bytes (replicate n true))
