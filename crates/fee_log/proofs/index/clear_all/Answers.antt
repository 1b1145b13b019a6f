use Rattle.fee_log.proofs.Changes.{clear}
use Rattle.fee_log.proofs.index.clear_all.Goals as goal

pub returns : goal.returns
returns c = rw (c.fill.ensures.after, c.requires) (clear c.args.numbers.now)
