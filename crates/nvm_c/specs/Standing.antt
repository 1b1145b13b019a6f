-- What stands on the flash of a unit, and when the line of a start-up isn't told.
use Rattle.std.specs.Prelude.{◌≡◌, ◌-◌, ℕ, false, List, length, slice_get, Some}
use Rattle.nvm.specs.block_machine.Words.{Instance, Mark, Content, Found}
use Rattle.nvm.specs.nvm_flash.fee_told.Device.{tells_now}
use Rattle.nvm_c.specs.Unit.{UnitState}
use Rattle.nvm_c.specs.declared.standing.LineFault.{LineFault}
use Rattle.nvm_c.specs.declared.standing.LineFault.TheVariants as fault

-- a content has this length
abbrev pub HoldsLength : ℕ → Mark → Type 0
HoldsLength n (Content bytes) = length bytes ≡ n
HoldsLength n mark = Unit {0}

-- THE LAST ENTRY
-- it is a start-up's
abbrev pub IsFoundLast : UnitState → Type 0
IsFoundLast s = (marks : List (Instance × Mark)) × (ops : ℕ) × (slice_get s.desk.entries (length s.desk.entries - 1) ≡ Some (Found marks ops))

-- Its line isn't told for want of memory; or it is a start-up's, behind which another one failed; or it is one behind an operation,
-- from an image that wasn't sound.
abbrev pub IsNotTold : LineFault → UnitState → Type 0
IsNotTold fault.Memory s = Unit {0}
IsNotTold fault.Down s = (s.ready ≡ false) × IsFoundLast s
IsNotTold fault.Unsound s = (tells_now s.device ≡ false) × IsFoundLast s
