use Rattle.std.proofs.Common.{◌≡◌, sym, arith, Some, None}
use Rattle.block_machine.specs.Next.{next_in}
use Rattle.block_machine.specs.Steps.{without_job}
use Rattle.block_laws.proofs.NextLaws.{none_waits}
use Rattle.nv_desk.proofs.Dropping.{few_left, few_wait, none_left, one_fewer}
use Rattle.nv_desk.proofs.drop_jobs.drop_jobs.Goals as goal

-- none was dropped but the job in hand
pub loop-i-init : goal.loop-i-init
loop-i-init c waiting held is =
    (waiting, c.drop_hand.ensures c.args.config.now waiting held is, (let few = few_wait c.args.config.now c.args.jobs.now waiting held c.args.places.now is in omega (arith, few)))

-- none waits any more
pub returns-in_default : goal.returns-in_default
returns-in_default c waiting held is =
    let (left, kept, few) = c.loop-i.invariant waiting held is in
    none_left c.args.config.now c.loop-i.jobs left c.loop-i.places
    (none_waits c.args.config.now left (sym (c.in_default.ensures c.args.config.now left None kept.agree))) kept

-- one is dropped
pub loop-i-preserved : goal.loop-i-preserved
loop-i-preserved c waiting held is =
    let (left, kept, few) = c.loop-i.invariant waiting held is in
    let j = c.in-Some._next.now in
    let next : next_in c.args.config.now left ≡ Some j = sym (c.in-Some.ensures c.args.config.now left None kept.agree) in
    let one = one_fewer c.args.config.now left j next kept.apart in
    (without_job j.number left, c.drop_next.ensures left j kept next, omega (arith, few, one))

-- all were
pub returns : goal.returns
returns c waiting held is =
    let (left, kept, few) = c.loop-i.invariant waiting held is in
    none_left c.args.config.now c.loop-i.jobs left c.loop-i.places (few_left left _ _ few (omega (arith, c.loop-i-test.false))) kept
