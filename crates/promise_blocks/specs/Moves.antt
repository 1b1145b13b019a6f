-- What the turns, the requests and the start-ups of a run did, one by one.
use Rattle.std.specs.Prelude.{ℕ, Bool, true, false, List, [], ◌∷◌, ◌++◌, Option, Some, None}
use Rattle.block_machine.specs.Words.{Entry, Ask, Pick, Off, Found}

-- MOMENTS AND MOVES

-- what the device told at a moment: its faults and its operations so far, and whether a job of it or work of its own, as a
-- switch of banks, is open
pub record Moment : Type 0 where
  pub faults : ℕ
  pub ops : ℕ
  pub busy : Bool

-- what a step did at once, a turn, a request or a start-up: the entry that it added, if it added one, and the moment behind it
pub record Move : Type 0 where
  pub entry : Option Entry
  pub behind : Moment

abbrev pub entry_list : Option Entry → List Entry
entry_list None = []
entry_list (Some e) = e ∷ []

-- the entries of moves, one after another
abbrev pub entries_of : List Move → List Entry
entries_of [] = []
entries_of (m ∷ ms) = entry_list m.entry ++ entries_of ms

-- the moment behind moves
abbrev pub moment_behind : Moment → List Move → Moment
moment_behind before [] = before
moment_behind before (m ∷ ms) = moment_behind m.behind ms

-- WHAT THEY ADD

abbrev pub is_asked : Option Entry → Bool
is_asked (Some (Ask caller r reply)) = true
is_asked e = false

abbrev pub is_found : Option Entry → Bool
is_found (Some (Found marks ops)) = true
is_found e = false

abbrev pub is_picked : Option Entry → Bool
is_picked (Some (Pick block kind t ops)) = true
is_picked e = false

abbrev pub is_off : Option Entry → Bool
is_off (Some (Off ops)) = true
is_off e = false
