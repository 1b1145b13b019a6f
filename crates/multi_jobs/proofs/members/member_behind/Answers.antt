use Rattle.std.proofs.Common.{sym, ◌∙◌}
use Rattle.multi_jobs.proofs.Ids.{ids_here, ids_past}
use Rattle.multi_jobs.proofs.members.member_behind.Goals as goal

pub returns-then-is_member_at : goal.returns-then-is_member_at
returns-then-is_member_at c = ids_here c.args.config.now c.args.writes c.args.passed c.loop-i.i c.loop-i.invariant (sym c.is_member_at.ensures ∙ c.if-is_member_at.true)

pub loop-i-preserved : goal.loop-i-preserved
loop-i-preserved c = ids_past c.args.config.now c.args.writes c.args.passed c.loop-i.i c.loop-i.invariant (sym c.is_member_at.ensures ∙ c.if-is_member_at.false)
