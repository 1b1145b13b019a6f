use Rattle.std.proofs.Common.{rules}
use Rattle.nv_streams.proofs.Pieces.{puts-cut}
use Rattle.nv_streams.proofs.Puts.{PutsPart-none}
use Rattle.nv_streams.proofs.memory_sink.MemSinkSink.put.Goals as goal

pub returns-then-contains-clause-failed : goal.returns-then-contains-clause-failed
returns-then-contains-clause-failed c = (rw (← c.self.view_is) (PutsPart-none _ _), search rules)

pub returns-in-Ok-clause-done : goal.returns-in-Ok-clause-done
returns-in-Ok-clause-done c = (rw (← c.self.view_is, c.with-self-inside.ensures, c.in-Ok.ensures.items) (puts-cut c.self.inside.lengths.items c.self.inside.bytes.items c.args.piece.now c.self.invariant), search rules)

pub returns-in-Err-clause-failed : goal.returns-in-Err-clause-failed
returns-in-Err-clause-failed c = (rw (← c.self.view_is, c.in-Err.ensures.items) (PutsPart-none _ _), search rules)
