-- The causes that every command has for its status.
use Rattle.std.specs.Prelude.{◌≡◌, ℕ, List, Option}
use Rattle.std.specs.Io.KnownBytes.{IsAtEnd}
use Rattle.nvm_flash.specs.nv_base.Count.{Rose}
use Rattle.nvm_lines.specs.declared.status.Status.{Status}
use Rattle.nvm_lines.specs.declared.status.Status.TheVariants as status

-- a fault of the input or the output comes only where its count rose, and where the command ends well nothing is left of its input
pub record HasCauses (x : Status) (input input' output output' : ℕ) (left : Option (List ℕ)) : Type 0 where
  pub read_fault : x ≡ status.ReadFault → Rose input input'
  pub write_fault : x ≡ status.WriteFault → Rose output output'
  pub ended : x ≡ status.Ok → IsAtEnd left
