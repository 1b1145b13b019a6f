-- What a caller knew, copied for the driver.
use Rattle.std.specs.Prelude.{List, [], ◌∷◌}
use Rattle.turn_gate.specs.declared.pass.View.{View}
use Rattle.turn_gate.specs.Pass.{GateValue, spent}
use Rattle.nvm_core.specs.block_machine.Words.{Entry}
use Rattle.nvm_shared.specs.declared.terms.Terms.{Terms}

-- the one view of a copy
abbrev pub view_of : List (View Entry Terms) → View Entry Terms
view_of [] = spent
view_of (v ∷ vs) = v

-- a lock that stands for none
abbrev pub no_gate : GateValue
no_gate = record { table = record { words = 0; slots = 0; views_name = 0; atom = 0; block = 0; offset = 0; slot_names = [] }; words = 0 }
