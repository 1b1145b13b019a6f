use Rattle.std.proofs.Common.{◌∙◌}
use Rattle.nv_desk.proofs.Picks.{some_is}
use Rattle.nv_desk_copies.proofs.Taking.{job_picks}
use Rattle.nv_desk_copies.proofs.pick.pick_job.Goals as goal

pub returns-clause-picked : goal.returns-clause-picked
returns-clause-picked g c j next =
    let d = c.args.desk.now in
    let take = c.take_for-take in
    let x = c.in-Some.job.now in
    job_picks (λ b n y. g.C.SyncCalls.is_store take.new.copies b n y × g.C.SyncCalls.looked c.args.copies.now take.new.copies b n) d c.pick_job.new.self x j take.result take.new.staging.bytes
    c.args.ops _ _ c.requires.may next (some_is x j (c.in-Some.ensures.next ∙ next)) take.ensures.taken take.ensures.copied (rw c.bytes.ensures at (c.pick_job.ensures j next))
