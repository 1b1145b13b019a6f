use Rattle.script_player.proofs.PlainAsks.{ask_keeps, ask_lasts, ask_moved, ask_starts, ask_told}
use Rattle.script_player.proofs.calls.ask.Goals as goal

pub returns-clause-asks : goal.returns-clause-asks
returns-clause-asks g c = ask_told g.D.MemDevice.told g.D.MemDevice.clock c.args.caller c.args.request c.args.stack.now c.ask.new.stack c.ask.result c.ask.ensures

pub returns-clause-moved : goal.returns-clause-moved
returns-clause-moved g c = ask_moved g.D.MemDevice.told g.D.MemDevice.clock c.args.caller c.args.request c.args.stack.now c.ask.new.stack c.ask.result c.ask.ensures

pub returns-clause-lasts : goal.returns-clause-lasts
returns-clause-lasts g c = ask_lasts g.D.MemDevice.told g.D.MemDevice.clock c.args.caller c.args.request c.args.stack.now c.ask.new.stack c.ask.result c.ask.ensures

pub returns-clause-keeps : goal.returns-clause-keeps
returns-clause-keeps g c = ask_keeps g.D.MemDevice.told g.D.MemDevice.clock c.args.caller c.args.request c.args.stack.now c.ask.new.stack c.ask.result c.ask.ensures

pub returns-clause-starts : goal.returns-clause-starts
returns-clause-starts g c = ask_starts g.D.MemDevice.told g.D.MemDevice.clock c.args.caller c.args.request c.args.stack.now c.ask.new.stack c.ask.result c.ask.ensures
