use Rattle.fee_log.proofs.Changes.{erased}
use Rattle.fee_log.proofs.index.forget.Goals as goal

pub returns : goal.returns
returns c = rw (c.fill.ensures.after, c.requires) (erased c.args.numbers.now)
