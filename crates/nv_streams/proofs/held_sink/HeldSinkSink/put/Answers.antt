use Rattle.nv_streams.proofs.Held.{fails_before, fails_behind}
use Rattle.nv_streams.proofs.held_sink.HeldSinkSink.put.Goals as goal

pub returns-in-Failed-clause-failed : goal.returns-in-Failed-clause-failed
returns-in-Failed-clause-failed g c =
    fails_before c.args.self.now c.hold.new.self c.flush.new.self c.args.piece.now c.if-hold.ensures c.in-Failed.ensures.failed

pub returns-else-hold-2-clause-failed : goal.returns-else-hold-2-clause-failed
returns-else-hold-2-clause-failed g c =
    fails_behind c.pass.result c.args.self.now c.hold.new.self c.flush.new.self c.hold-in-Done.new.self c.pass.new.self c.args.piece.now
    c.if-hold.ensures c.in-Done.ensures.done c.if-hold-2.ensures c.pass.ensures
