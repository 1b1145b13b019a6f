use Rattle.std.proofs.Common.{sym, ◌∙◌}
use Rattle.nv_streams.proofs.Pieces.{concat-cut}
use Rattle.nv_streams.proofs.memory_sink.MemSink.bytes.Goals as goal

pub returns : goal.returns
returns c = c.deref.ensures.value ∙ sym (rw (← c.self.view_is) (concat-cut c.self.inside.lengths.items c.self.inside.bytes.items c.self.invariant))
