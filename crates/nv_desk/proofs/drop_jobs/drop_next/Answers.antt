use Rattle.std.proofs.Common.{Some, None}
use Rattle.block_machine.specs.Words.{TookNothing}
use Rattle.block_machine.specs.Steps.{picked_job, without_job}
use Rattle.nv_desk.proofs.Dropping.{next_held}
use Rattle.nv_desk.proofs.drop_jobs.drop_next.Goals as goal

pub returns : goal.returns
returns c waiting j is next =
    c.drop_hand.ensures c.args.config.now (without_job j.number waiting) (Some (picked_job TookNothing 0 j))
    (next_held c.args.config.now c.args.jobs.now c.pick.new.self waiting j c.args.places.now is next c.pick.ensures.places
    (c.pick.ensures.agrees waiting None j is.agree next tt))
