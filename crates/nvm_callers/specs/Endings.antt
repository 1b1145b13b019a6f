-- How callers end.
use Rattle.std.specs.Prelude.{◌≡◌, ℕ, false, List, length, slice_get, Option, Some, None}
use Rattle.turn_gate.specs.declared.pass.View.{View}
use Rattle.turn_gate.specs.Entries.{AllAgree}
use Rattle.driver_moves.specs.block_machine.Words.{Request, Entry}
use Rattle.driver_moves.specs.block_machine.Reply.{fits}
use Rattle.driver_moves.specs.block_machine.Steps.{after}
use Rattle.driver_moves.specs.nvm_shared.declared.terms.Terms.{Terms}
use Rattle.driver_moves.specs.nvm_shared.StatusWords.{gives}
use Rattle.script_callers.specs.declared.deed.Deed.{Deed}
use Rattle.script_callers.specs.declared.deed.Deed.TheVariants.{Ask, Await}
use Rattle.nvm_callers.specs.declared.ending.Ending.{Ending}
use Rattle.nvm_callers.specs.declared.ending.Ending.TheVariants.{All as EndsAll, NoRoom, Memory}

-- a request had no room behind all that the pass had seen, which agrees with all that it was told
pub record FindsNoRoom (t : Terms) (v : View Entry Terms) : Type 0 where
  pub agree : AllAgree gives v.seen v.notes
  pub full : fits t.config t.cap (after t.config v.seen) 1 ≡ false

-- so many of these deeds were made, and then it ended
abbrev pub EndsBy : Terms → List Deed → (made : ℕ) → View Entry Terms → Ending → Type 0
EndsBy t deeds made v EndsAll = made ≡ length deeds
EndsBy t deeds made v NoRoom = FindsNoRoom t v × ((line : ℕ) × (r : Request) × (slice_get deeds made ≡ Some (Ask line r)))
EndsBy t deeds made v Memory = Unit {0}

-- the deed behind so many of these is a wait
abbrev pub WaitsNext : List Deed → (made : ℕ) → Type 0
WaitsNext deeds made = (line block : ℕ) × (slice_get deeds made ≡ Some (Await line block))

-- so many of these deeds were made, and then it ended so, or its next deed is a wait
abbrev pub StopsBy : Terms → List Deed → (made : ℕ) → View Entry Terms → Option Ending → Type 0
StopsBy t deeds made v (Some e) = EndsBy t deeds made v e
StopsBy t deeds made v None = WaitsNext deeds made
