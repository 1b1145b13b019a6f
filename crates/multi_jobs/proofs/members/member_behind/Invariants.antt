use Rattle.std.proofs.Common.{◌≡◌}
use Rattle.multi_jobs.specs.Members.{ids_from}
use Rattle.multi_jobs.proofs.members.member_behind.Given as goal

abbrev pub invariant-loop-i : goal.invariant-loop-i
invariant-loop-i l = ids_from l.config l.writes l.passed ≡ ids_from l.config l.writes l.i
