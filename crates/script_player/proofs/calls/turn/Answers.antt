use Rattle.script_player.proofs.PlainTurns.{turn_keeps, turn_moved, turn_starts, turn_told}
use Rattle.script_player.proofs.calls.turn.Goals as goal

pub returns-clause-turns : goal.returns-clause-turns
returns-clause-turns g c = turn_told g.D.MemDevice.told g.D.MemDevice.clock c.turn.result c.args.stack.now c.turn.new.stack c.turn.ensures

pub returns-clause-moved : goal.returns-clause-moved
returns-clause-moved g c = turn_moved g.D.MemDevice.told g.D.MemDevice.clock c.turn.result c.args.stack.now c.turn.new.stack c.turn.ensures

pub returns-clause-keeps : goal.returns-clause-keeps
returns-clause-keeps g c = turn_keeps g.D.MemDevice.told g.D.MemDevice.clock c.turn.result c.args.stack.now c.turn.new.stack c.turn.ensures

pub returns-clause-starts : goal.returns-clause-starts
returns-clause-starts g c = turn_starts g.D.MemDevice.told g.D.MemDevice.clock c.turn.result c.args.stack.now c.turn.new.stack c.turn.ensures
