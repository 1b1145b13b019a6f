use Rattle.block_states.proofs.Shown.{ram_fills}
use Rattle.block_states.proofs.states.BlockStates.fills_its_rooms.Goals as goal

pub returns : goal.returns
returns c some id = let s = c.self.inside in rw (← c.self.view_is) (ram_fills s.started s.facts.items s.ram id c.self.invariant (rw (← c.self.view_is) at some))
