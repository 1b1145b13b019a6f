use Rattle.std.proofs.Common.{rules}
use Rattle.nv_streams.proofs.Puts.{PutsPart-one}
use Rattle.nv_streams.proofs.std_sink.StdSinkSink.put.Goals as goal

pub returns-clause-failed : goal.returns-clause-failed
returns-clause-failed g c =
    (PutsPart-one _ _ c.args.piece.now c.write_out.result c.write_out.ensures.within c.write_out.ensures.written tt, search rules)
