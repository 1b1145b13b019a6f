-- What a pointer owns: nothing at null, and else what a box owns.
use base.Fml.{Fml, feq}
use denote.RawPtr.{Ptr, null_ptr}
use denote.RattleType.{RattleType}
use Rattle.std.specs.Prelude.{Option, None, Some}
use Rattle.std.specs.Box.Ownership.{box_owns}
use Rattle.std_heap.specs.contracts.GlobalAllocator.TheImpl.{ghosts}
use mir.Syntax.{Ty}

-- with what a block of the heap is given back: the same by any handle of it, which has nothing in it
abbrev pub heap_block : Ty → Ptr → Fml
heap_block = ghosts.dealloc_token (record { memory = record { seal = tt } })

abbrev pub room_owns : (R : RattleType) → Ptr → Option R.Denot → Fml
room_owns R p None = feq Ptr p null_ptr
room_owns R p (Some x) = box_owns heap_block R p x
