use Rattle.std.proofs.Common.{subst}
use Rattle.fee_log.specs.Load.{IsSeen}
use Rattle.fee_log.proofs.Loading.{rest_goes}
use Rattle.fee_log.proofs.load.rest_seen.Goals as goal

pub returns-then-blank-clause-seen : goal.returns-then-blank-clause-seen
returns-then-blank-clause-seen c b own end size after pages seen =
    let was = subst (IsSeen b own end c.args.load.next) c.in-Rest.is seen in
    rest_goes b own c.args.bytes.now end c.args.load.next c.args.from c.args.count c.args.page c.in-Rest.blank c.is_tail_blank-blank.result size pages c.requires.size c.requires.from c.if-load-to.false
    c.is_tail_blank-blank.ensures was after c.is_tail_blank-blank.result (λ yes. (c.if-blank.true, yes), λ both. both.1)
