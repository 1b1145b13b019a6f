use Rattle.std.proofs.Common.{None}
use Rattle.block_machine.specs.Sweeps.{member_kind}
use Rattle.nv_desk.specs.job_pending.Take.{taken_with}
use Rattle.nv_desk.specs.Desk.{state_of}
use Rattle.nv_desk.specs.Picks.{lent_or, ram_at, took_of}
use Rattle.nv_desk_copies.proofs.Taking.{picks_of, member_copied, may_pick_member, member_allowed}
use Rattle.nv_desk_copies.proofs.pick.pick_member.Goals as goal

pub pick_member-requires : goal.pick_member-requires
pick_member-requires g c =
    let d = c.args.desk.now in
    let may = c.requires.may in
    let take = c.take_for_member-take in
    rw c.bytes.ensures (may_pick_member d may.sweep c.args.block take.result (lent_or (ram_at d c.args.block) take.new.staging.bytes) c.args.ops may.driving may.is
    (take.ensures.taken may.sweep (picks_of d.config (state_of d) may.sweep c.args.block may.is)))

pub returns-clause-picked : goal.returns-clause-picked
returns-clause-picked g c sw is =
    let d = c.args.desk.now in
    let take = c.take_for_member-take in
    let taken = taken_with None (took_of take.result (lent_or (ram_at d c.args.block) take.new.staging.bytes)) in
    let sweep = picks_of d.config (state_of d) sw c.args.block is in
    record {
      kind = member_kind sw.writes;
      taken = taken;
      adds = rw c.bytes.ensures at (c.pick_member.ensures sw is);
      allowed = member_allowed d.config d.cap (state_of d) sw c.args.block taken c.args.ops c.requires.may.driving is (take.ensures.taken sw sweep);
      copied = member_copied (λ n x. g.C.SyncCalls.is_store take.new.copies c.args.block n x × g.C.SyncCalls.looked c.args.copies.now take.new.copies c.args.block n) _ _
          d.config sw c.args.block taken (take.ensures.copied sw sweep);
    }
