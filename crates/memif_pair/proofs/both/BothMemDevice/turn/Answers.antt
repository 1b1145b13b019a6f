use Rattle.memif_pair.proofs.BothCalls.{turned, turn_kept}
use Rattle.memif_pair.proofs.both.BothMemDevice.turn.Goals as goal

pub invariant_of-self : goal.invariant_of-self
invariant_of-self g c = turn_kept g.A.MemDevice.told g.A.MemDevice.clock g.B.MemDevice.told g.B.MemDevice.clock _ _ c.self.view_is c.self.invariant c.turn.result c.turn.new.first c.turn.new.second c.turn.new.course.items c.turn.ensures.goes (c.turn.ensures.turns c.self.inside.last)

pub returns : goal.returns
returns g c = turned g.A.MemDevice.told g.A.MemDevice.clock g.B.MemDevice.told g.B.MemDevice.clock _ _ c.self.view_is c.self.invariant c.turn.result c.turn.new.first c.turn.new.second c.turn.new.course.items c.turn.ensures.goes (c.turn.ensures.turns c.self.inside.last)
