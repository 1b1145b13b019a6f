use Rattle.fee_log.proofs.Changes.{flags_none, flags_at}
use Rattle.fee_log.proofs.index.put_flag.Goals as goal

pub returns-in_default : goal.returns-in_default
returns-in_default c =
    flags_none c.args.numbers.now c.args.flags.now c.args.number.0 c.args.on c.in_default.ensures.place

pub returns : goal.returns
returns c =
    flags_at 0 c.args.numbers.now c.args.flags.now c.args.number.0 c.args.on c.in-Some.i c.len.ensures.bounds
    c.requires c.in-Some.ensures.place.within c.in-Some.ensures.place.is
