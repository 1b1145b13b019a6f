-- What the fields of the kept blocks show.
use Rattle.std.specs.Prelude.{ℕ, Bool, List, [], ◌∷◌, map, length, if◌then◌else◌}
use Rattle.ram_blocks.specs.declared.kept.RamBlock.{RamBlock}
use Rattle.block_machine.specs.State.{BlockState}
use Rattle.block_machine.specs.Blocks.{no_block}
use Rattle.block_states.specs.declared.facts.BlockFacts.{BlockFacts}
use Rattle.block_states.specs.States.{with_facts, with_flags}

abbrev pub state_of : BlockFacts → RamBlock → BlockState
state_of f r = with_flags r.flags (with_facts f (record no_block { ram = r.content }))

-- by id
abbrev pub states_of : List BlockFacts → List RamBlock → List BlockState
states_of [] rams = []
states_of (f ∷ fs) [] = []
states_of (f ∷ fs) (r ∷ rs) = state_of f r ∷ states_of fs rs

-- none before the first start-up
abbrev pub shown_states : Bool → List BlockFacts → List RamBlock → List BlockState
shown_states started facts rams = if started then states_of facts rams else []

abbrev pub rooms_in : List RamBlock → List ℕ
rooms_in rams = map (λ (r : RamBlock). length r.content) rams
