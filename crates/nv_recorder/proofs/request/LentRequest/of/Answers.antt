use Rattle.nv_recorder.proofs.Lending.{lends}
use Rattle.nv_recorder.proofs.request.LentRequest.of.Goals as goal

pub returns : goal.returns
returns c = rw (c.kind_of.ensures, c.content_of.ensures) (lends c.args.request.now)
